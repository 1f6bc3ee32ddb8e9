-- The shape of a record of the bench's call list: document 01, "The bench program". Assumes nothing.
use Rattle.std.specs.Prelude.{List, [], ◌∷◌, ℕ}

-- "A record is 19 bytes"
abbrev pub record_length : ℕ
record_length = 19

-- "the mark 4D 53 (hexadecimal)"
abbrev pub first_mark : ℕ
first_mark = 77

abbrev pub second_mark : ℕ
second_mark = 83

-- how many numbers each call takes, by its code: "The calls, with their checks in order", in the first column
abbrev pub counts : List ℕ
counts = 4 ∷ 0 ∷ 1 ∷ 2 ∷ 1 ∷ 1 ∷ 1 ∷ 1 ∷ 2 ∷ 2 ∷ 1 ∷ 2 ∷ 1 ∷ 1 ∷ 2 ∷ 1 ∷ []
