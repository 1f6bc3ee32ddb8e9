-- Decimals and buffers by computation. Assumes nothing.
use Rattle.std.specs.Prelude.{[], ◌∷◌, map, Some, None, ◌≡◌, refl}
use Rattle.texts.specs.Decimal.{decimal}
use Rattle.texts.specs.Buffer.{overwritten, placed, place_after, end_of}

-- `0`, `10`, `4096` and the greatest number of 32 bits
pub example-decimals
    : map decimal (0 ∷ 10 ∷ 4096 ∷ 4294967295 ∷ [])
    ≡ (48 ∷ []) ∷ (49 ∷ 48 ∷ []) ∷ (52 ∷ 48 ∷ 57 ∷ 54 ∷ []) ∷ (52 ∷ 50 ∷ 57 ∷ 52 ∷ 57 ∷ 54 ∷ 55 ∷ 50 ∷ 57 ∷ 53 ∷ []) ∷ []
unfolding decimal
example-decimals = refl

-- two bytes at the place 1 of four; at the place 3 they do not fit
pub example-placed
    : map (λ at. placed at (55 ∷ 10 ∷ []) (1 ∷ 2 ∷ 3 ∷ 4 ∷ [])) (1 ∷ 3 ∷ []) ≡ (1 ∷ 55 ∷ 10 ∷ 4 ∷ []) ∷ (1 ∷ 2 ∷ 3 ∷ 4 ∷ []) ∷ []
unfolding placed overwritten
example-placed = refl

pub example_places : map (λ at. place_after at (55 ∷ 10 ∷ []) (1 ∷ 2 ∷ 3 ∷ 4 ∷ [])) (1 ∷ 3 ∷ []) ≡ 3 ∷ 3 ∷ []
unfolding place_after
example_places = refl

pub example_ends : map (λ at. end_of at (55 ∷ 10 ∷ []) (1 ∷ 2 ∷ 3 ∷ 4 ∷ [])) (1 ∷ 3 ∷ []) ≡ Some 3 ∷ None ∷ []
unfolding end_of
example_ends = refl
