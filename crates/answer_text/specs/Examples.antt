-- Texts by computation. Assumes nothing.
use Rattle.std.specs.Prelude.{[], ◌∷◌, ◌≡◌, refl}
use Rattle.texts.specs.Decimal.{decimal}
use Rattle.answer_text.specs.Text.{word, answer_text, stop_text}

-- the first two lines of document 01's example: `0 0 4096` and `14 0 0`
pub example-answers
    : answer_text 0 0 4096 ∷ answer_text 14 0 0 ∷ []
    ≡ (48 ∷ 32 ∷ 48 ∷ 32 ∷ 52 ∷ 48 ∷ 57 ∷ 54 ∷ 10 ∷ []) ∷ (49 ∷ 52 ∷ 32 ∷ 48 ∷ 32 ∷ 48 ∷ 10 ∷ []) ∷ []
unfolding answer_text word decimal
example-answers = refl

-- "if bytes follow, it prints `stop 57000`"
pub example_stop : stop_text 57000 ≡ 115 ∷ 116 ∷ 111 ∷ 112 ∷ 32 ∷ 53 ∷ 55 ∷ 48 ∷ 48 ∷ 48 ∷ 10 ∷ []
unfolding stop_text word decimal
example_stop = refl
