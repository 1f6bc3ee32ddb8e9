-- The bytes of a record of the call list, document 01, "The bench program". Assumes nothing.
use Rattle.std.specs.Prelude.{List, [], ◌∷◌, ℕ, ◌/◌, ◌%◌, flat_map}
use Rattle.texts.specs.Record.{first_mark, second_mark}

-- "32-bit numbers, low byte first"
abbrev pub low_first : ℕ → List ℕ
low_first n = n % 256 ∷ n / 256 % 256 ∷ n / 65536 % 256 ∷ n / 16777216 % 256 ∷ []

-- "the mark 4D 53 (hexadecimal), one code byte 0 to 15, then four 32-bit numbers"
unfoldable pub record_bytes : ℕ → List ℕ → List ℕ
record_bytes code numbers = first_mark ∷ second_mark ∷ code ∷ flat_map low_first numbers
