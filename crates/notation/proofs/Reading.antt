-- The digits of a number, read one by one. Assumes nothing.
use Rattle.std.specs.Prelude.{true, false, List, [], ◌∷◌, ◌≡◌, refl, ℕ, suc, ◌+◌, ◌-◌, ◌*◌, ◌≤◌, ◌<◌, min, length, drop, take_while, get_or}
use Rattle.std.proofs.Common.{sym, ap, ◌∙◌, arith, drop_of_length-le}
use Rattle.std.proofs.lemmas.List.{drop_more}
use Rattle.std.proofs.lemmas.List.Sums.{take_while-cons}
use Rattle.texts.specs.Decimal.{is_digit, value, value_after}

-- the digits from a place of the text on
abbrev from : List ℕ → ℕ → List ℕ
from text i = take_while is_digit (drop i text)

-- those before place i are read, and n is their value: those from there on give the rest of the number, held down where it has no place in a record, and of
-- its length
pub record ReadTo (text : List ℕ) (n i : ℕ) : Type 0 where
  pub count : i + length (from text i) ≡ length (from text 0)
  pub number : min (value_after n (from text i)) 4294967296 ≡ min (value (from text 0)) 4294967296
  pub low : n ≤ 4294967296
  pub within : i ≤ length text

-- a value that is held down on the way is, at the end, the value held down
capped : (n : ℕ) (l : List ℕ) → min (value_after (min n 4294967296) l) 4294967296 ≡ min (value_after n l) 4294967296
capped n [] = omega arith
capped n (b ∷ l) =
    let e : min (10 * min n 4294967296 + (b - 48)) 4294967296 ≡ min (10 * n + (b - 48)) 4294967296 = omega arith in
    sym (capped (10 * min n 4294967296 + (b - 48)) l) ∙ ap (λ m. min (value_after m l) 4294967296) e ∙ capped (10 * n + (b - 48)) l

module _ (text : List ℕ) where
  pub read_none : ReadTo text 0 0
  read_none = record { count = omega arith; number = refl; low = omega arith; within = omega arith }

  -- one digit more
  pub read_digit : (n i : ℕ) → ReadTo text n i → i < length text → is_digit (get_or text i 0) ≡ true → ReadTo text (min (10 * n + (get_or text i 0 - 48)) 4294967296) (i + 1)
  read_digit n i r h t =
      let d = get_or text i 0 in
      let split : from text i ≡ d ∷ from text (i + 1) = rw (drop_more text i 0 h, take_while-cons is_digit d (drop (i + 1) text), t) refl in
      let k : length (from text i) ≡ suc (length (from text (i + 1))) = ap length split in
      record {
        count = omega (arith, r.count, k);
        number = capped (10 * n + (d - 48)) (from text (i + 1)) ∙ ap (λ l. min (value_after n l) 4294967296) (sym split) ∙ r.number;
        low = omega arith;
        within = omega arith;
      }

  -- no digit more: what is read is the number and its length
  read_all : (n i : ℕ) → ReadTo text n i → from text i ≡ [] → (n ≡ min (value (from text 0)) 4294967296) × (i ≡ length (from text 0))
  read_all n i r e =
      let k : length (from text i) ≡ 0 = ap length e in
      let v : min n 4294967296 ≡ min (value (from text 0)) 4294967296 = ap (λ l. min (value_after n l) 4294967296) (sym e) ∙ r.number in
      (omega (arith, v, r.low), omega (arith, k, r.count))

  pub read_other : (n i : ℕ) → ReadTo text n i → i < length text → is_digit (get_or text i 0) ≡ false → (n ≡ min (value (from text 0)) 4294967296) × (i ≡ length (from text 0))
  read_other n i r h f = read_all n i r (rw (drop_more text i 0 h, take_while-cons is_digit (get_or text i 0) (drop (i + 1) text), f) refl)

  pub read_end : (n i : ℕ) → ReadTo text n i → length text ≤ i → (n ≡ min (value (from text 0)) 4294967296) × (i ≡ length (from text 0))
  read_end n i r h = read_all n i r (rw (drop_of_length-le text {i = i} h) refl)
