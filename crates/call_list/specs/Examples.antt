-- Records by computation: the first two of document 01's example list, and one of each kind that is stopped at. Assumes nothing.
use Rattle.std.specs.Prelude.{List, [], ◌∷◌, map, ◌≡◌, refl, ℕ, replicate}
use Rattle.meaning.specs.Calls.{code, root, add_thread}
use Rattle.meaning.specs.Cases.{start_at}
use Rattle.call_list.specs.Records.{call, stop, calls, zero_after, entry, number_at, whole_record, record_at}

-- each call stands at its code
pub by_code : (a b c d : ℕ) → map code (calls a b c d) ≡ 0 ∷ 1 ∷ 2 ∷ 3 ∷ 4 ∷ 5 ∷ 6 ∷ 7 ∷ 8 ∷ 9 ∷ 10 ∷ 11 ∷ 12 ∷ 13 ∷ 14 ∷ 15 ∷ []
by_code a b c d = refl

-- "0(4096,256,8192,64) 14(1,4096)"
abbrev list : List ℕ
list =
    77 ∷ 83 ∷ 0 ∷ 0 ∷ 16 ∷ 0 ∷ 0 ∷ 0 ∷ 1 ∷ 0 ∷ 0 ∷ 0 ∷ 32 ∷ 0 ∷ 0 ∷ 64 ∷ 0 ∷ 0 ∷ 0 ∷ 77 ∷ 83 ∷ 14 ∷ 1 ∷ 0 ∷ 0 ∷ 0 ∷ 0 ∷ 16 ∷ 0 ∷ 0 ∷ 0 ∷ 0 ∷ 0 ∷ 0 ∷ 0 ∷ 0 ∷ 0 ∷ 0
    ∷ []

pub example_calls : map (record_at list) (0 ∷ 19 ∷ 38 ∷ []) ≡ call (start_at 4096 256 8192 64) ∷ call (add_thread 1 4096) ∷ stop ∷ []
unfolding record_at whole_record number_at entry zero_after
example_calls = refl

-- four bytes, then n zeros
abbrev made : ℕ → ℕ → ℕ → ℕ → ℕ → List ℕ
made first second code low n = first ∷ second ∷ code ∷ low ∷ replicate n 0

-- whole; one byte short; another mark, in either byte; the code 16; a number that call 1 lacks
pub example-stops
    : map (λ r. record_at r 0) (made 77 83 1 0 15 ∷ made 77 83 1 0 14 ∷ made 76 83 1 0 15 ∷ made 77 82 1 0 15 ∷ made 77 83 16 0 15 ∷ made 77 83 1 9 15 ∷ [])
    ≡ call root ∷ stop ∷ stop ∷ stop ∷ stop ∷ stop ∷ []
unfolding record_at whole_record number_at entry zero_after
example-stops = refl
