-- The decimals of a number are its digits: read back they give the number, each is a digit, none leads with `0` but that of 0, and there are no more than
-- there have to be. Assumes nothing.
use Rattle.std.specs.Prelude.{true, List, [], ◌∷◌, ◌++◌, ◌≡◌, refl, ℕ, zero, suc, ◌+◌, ◌-◌, ◌*◌, ◌/◌, ◌%◌, ◌^◌, ◌≤◌, ◌<◌, length, get_or}
use Rattle.std.proofs.Common.{mod-lt, mod-eq_of_lt, div-lt_iff_lt-mul, pow-suc, arith, length-append, lt-ltb, le-ltb, le-leb}
use Rattle.std.proofs.Math.Nat.{div-add-mod, div-lt_self}
use Rattle.std.proofs.Math.Decide.{dec_lt}
use Rattle.std.proofs.Math.ListN.{get_or-append}
use Rattle.lists.specs.Lists.{all}
use Rattle.lists.specs.Tests.{and_iff}
use Rattle.texts.specs.Decimal.{last_digit, digits_of, decimal, is_digit, value_after, value}

-- ---- one digit, and one digit more

pub digits_one : (most n : ℕ) → n < 10 → digits_of (suc most) n ≡ last_digit n ∷ []
digits_one most n h = rw (lt-ltb n 10 h)

pub digits_more : (most n : ℕ) → 10 ≤ n → digits_of (suc most) n ≡ digits_of most (n / 10) ++ (last_digit n ∷ [])
digits_more most n h = rw (le-ltb n 10 h)

small : (n : ℕ) → n < 10 → n % 10 ≡ n
small n h = mod-eq_of_lt h

pub shorter : (most n : ℕ) → 10 ≤ n → n < suc most → n / 10 < most
shorter most n k h = let b = div-lt_self {n = n} {k = 10} (omega arith) (omega arith) in omega arith

-- ---- read back

value_last : (n : ℕ) (l : List ℕ) (d : ℕ) → value_after n (l ++ (d ∷ [])) ≡ 10 * value_after n l + (d - 48)
value_last n [] d = refl
value_last n (e ∷ l) d = value_last (10 * n + (e - 48)) l d

value_digits : (most n : ℕ) → n < most → value (digits_of most n) ≡ n
value_digits zero n h = absurd (omega arith)
value_digits (suc most) n h = elim (dec_lt n 10) [
  | yes l ↦ rw (digits_one most n l) (omega (arith, small n l))
  | no g ↦
      let i = value_digits most (n / 10) (shorter most n (omega arith) h) in
      rw (digits_more most n (omega arith), value_last 0 (digits_of most (n / 10)) (last_digit n), i) (omega (arith, div-add-mod n 10))
]

pub value_decimal : (n : ℕ) → value (decimal n) ≡ n
unfolding decimal
value_decimal n = value_digits (suc n) n (omega arith)

-- ---- each byte is a digit, and there is one

all_last : (l : List ℕ) (n : ℕ) → all is_digit l ≡ true → all is_digit (l ++ (last_digit n ∷ [])) ≡ true
all_last [] n h = let b = mod-lt n {m = 10} (omega arith) in rw (le-leb 48 (last_digit n) (omega arith), le-leb (last_digit n) 57 (omega arith))
all_last (d ∷ l) n h = let b = (and_iff (is_digit d) (all is_digit l)).0 h in rw b.0 (all_last l n b.1)

all_digits : (most n : ℕ) → all is_digit (digits_of most n) ≡ true
all_digits zero n = refl
all_digits (suc most) n = elim (dec_lt n 10) [
  | yes l ↦ rw (digits_one most n l) (all_last [] n refl)
  | no g ↦ rw (digits_more most n (omega arith)) (all_last (digits_of most (n / 10)) n (all_digits most (n / 10)))
]

pub decimal_digits : (n : ℕ) → all is_digit (decimal n) ≡ true
unfolding decimal
decimal_digits n = all_digits (suc n) n

some_digit : (most n : ℕ) → n < most → 0 < length (digits_of most n)
some_digit zero n h = absurd (omega arith)
some_digit (suc most) n h = simp length-append (omega arith)

pub decimal_some : (n : ℕ) → 0 < length (decimal n)
unfolding decimal
decimal_some n = omega (arith, some_digit (suc n) n (omega arith))

-- ---- no leading zero

no_zero_first : (most n : ℕ) → n < most → get_or (digits_of most n) 0 0 ≡ 48 → n ≡ 0
no_zero_first zero n h e = absurd (omega arith)
no_zero_first (suc most) n h e = elim (dec_lt n 10) [
  | yes l ↦ let d = rw (digits_one most n l) at e in omega (arith, small n l)
  | no g ↦
      let b = shorter most n (omega arith) h in
      let d = rw (digits_more most n (omega arith), get_or-append (digits_of most (n / 10)) (last_digit n ∷ []) 0 0 (some_digit most (n / 10) b)) at e in
      let i = no_zero_first most (n / 10) b d in
      let m = mod-lt n {m = 10} (omega arith) in
      absurd (omega (arith, div-add-mod n 10))
]

pub no_leading_zero : (n : ℕ) → get_or (decimal n) 0 0 ≡ 48 → n ≡ 0
unfolding decimal
no_leading_zero n = no_zero_first (suc n) n (omega arith)

-- ---- at most as many digits as the power of ten above it

few_digits : (most k n : ℕ) → n < 10 ^ suc k → length (digits_of most n) ≤ suc k
few_digits zero k n h = omega arith
few_digits (suc most) zero n h = rw (digits_one most n h) (omega arith)
few_digits (suc most) (suc k) n h = elim (dec_lt n 10) [
  | yes l ↦ rw (digits_one most n l) (omega arith)
  | no g ↦
      let i = few_digits most k (n / 10) ((div-lt_iff_lt-mul (omega arith)).1 (rw (pow-suc 10 (suc k)) at h)) in
      rw (digits_more most n (omega arith)) (simp length-append (omega arith))
]

-- a number of 32 bits has ten at most
pub ten_digits : (n : ℕ) → n < 2 ^ 32 → length (decimal n) ≤ 10
unfolding decimal
ten_digits n h = few_digits (suc n) 9 n (omega arith)
