-- A call spelled in document 01's notation. Assumes nothing.
use Rattle.std.specs.Prelude.{List, [], ◌∷◌, ◌++◌, ℕ}
use Rattle.texts.specs.Decimal.{decimal}
use Rattle.notation.specs.Notation.{opening, comma, closing}

-- numbers, each behind a comma
unfoldable pub behind : List ℕ → List ℕ
behind [] = []
behind (x ∷ xs) = comma ∷ (decimal x ++ behind xs)

-- numbers with commas between
unfoldable pub joined : List ℕ → List ℕ
joined [] = []
joined (x ∷ xs) = decimal x ++ behind xs

-- the code, and the arguments in parentheses
unfoldable pub spelled : ℕ → List ℕ → List ℕ
spelled code xs = decimal code ++ (opening ∷ (joined xs ++ (closing ∷ [])))
