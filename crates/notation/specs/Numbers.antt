-- Numbers in decimal digits, as bytes of a text. Assumes nothing.
use Rattle.std.specs.Prelude.{◌&&◌, List, ℕ, ◌+◌, ltb, leb, length, drop, take_while, Result, Ok, Err, if◌then◌else◌}
use Rattle.texts.specs.Decimal.{is_digit, value}
use Rattle.notation.specs.declared.Fault.{Fault}

-- the text goes wrong at a place
abbrev pub wrong : {A : Type 0} → ℕ → Result A Fault
wrong at = Err (record { place = at })

-- the number at a place, and the place after it: at least one digit, and a value of 32 bits
unfoldable pub number_at : List ℕ → ℕ → Result (ℕ × ℕ) Fault
number_at text at =
    let digits = take_while is_digit (drop at text) in
    if ltb 0 (length digits) && leb (value digits) 4294967295 then Ok (value digits, at + length digits) else wrong at
