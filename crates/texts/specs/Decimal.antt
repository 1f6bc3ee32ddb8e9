-- A number in decimal digits, as bytes, and the number that digits make. Assumes nothing.
use Rattle.std.specs.Prelude.{Bool, ◌&&◌, List, [], ◌∷◌, ◌++◌, ℕ, zero, suc, ◌+◌, ◌-◌, ◌*◌, ◌/◌, ◌%◌, ltb, leb, if◌then◌else◌}

-- the last digit, as a byte: `0` is 48
abbrev pub last_digit : ℕ → ℕ
last_digit n = 48 + n % 10

-- the digits before the last are those of n / 10, and a number below 10 has none; `most` bounds how many digits there are
abbrev pub digits_of : ℕ → ℕ → List ℕ
digits_of zero n = []
digits_of (suc most) n =
    let before = digits_of most (n / 10) in
    (if ltb n 10 then [] else before) ++ (last_digit n ∷ [])

-- no number has more digits than n + 1
unfoldable pub decimal : ℕ → List ℕ
decimal n = digits_of (suc n) n

-- ---- back from digits

-- the digits `0` to `9`
abbrev pub is_digit : ℕ → Bool
is_digit b = leb 48 b && leb b 57

-- the whole number that digits make behind those that made n
abbrev pub value_after : ℕ → List ℕ → ℕ
value_after n [] = n
value_after n (b ∷ l) = value_after (10 * n + (b - 48)) l

-- the whole number that digits make, however many there are
abbrev pub value : List ℕ → ℕ
value l = value_after 0 l
