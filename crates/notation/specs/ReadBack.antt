-- What is spelled is read: every call that there is, with blanks before it and anything before those, is read back from its notation, and the place after it
-- is where the rest of the text begins. Assumes nothing.
use Rattle.std.specs.Prelude.{Bool, true, ◌≡◌, leb, get_or, take_while, Some, None, Ok}
use mathlib.Core.List.{List, [], ◌∷◌, ◌++◌, append-nil, append_assoc}
use Rattle.std.proofs.Math.Path.{refl, ap}
use Rattle.std.proofs.Common.{sym, ◌∙◌, ap₂, drop-drop, get_or-drop}
use Prim.Native.Nat.{ℕ, zero, suc, ◌+◌, ◌≤◌, ◌<◌}
use native.Mathlib.Omega.{arith}
use Rattle.std.proofs.Math.ListN.{length, take, drop, length-append, length-drop}
use Rattle.std.proofs.Math.Seq.{drop-append_seam, take_all}
use borrow.Author.Tests.{leb-true, lt-ltb, le-leb, lt-leb, eq-eqb, ne_eqb}
use Rattle.std.proofs.lemmas.List.Sums.{take_while-cons}
use Rattle.lists.specs.Lists.{all}
use Rattle.lists.specs.Tests.{and_iff}
use Rattle.texts.specs.Record.{counts}
use Rattle.texts.specs.Decimal.{decimal, is_digit}
use Rattle.texts.proofs.DecimalLaws.{value_decimal, decimal_digits, decimal_some}
use Rattle.notation.specs.Numbers.{number_at}
use Rattle.notation.specs.Notation.{is_blank, past_blanks, stands, after_byte, ends, argument, closed, arguments, opened, call_at, written}
use Rattle.notation.specs.Runs.{digit_low}
use Rattle.notation.specs.Spelled.{behind, joined, spelled}
use Rattle.notation.specs.declared.Call.{Call}

-- ---- runs at the front

front_all : (p : ℕ → Bool) (l rest : List ℕ) → all p l ≡ true → take_while p (l ++ rest) ≡ l ++ take_while p rest
front_all p [] rest h = refl
front_all p (b ∷ l) rest h = let e = (and_iff (p b) (all p l)).0 h in rw (take_while-cons p b (l ++ rest), e.0, front_all p l rest e.1)

-- digits are no blanks
digit_first : (l rest : List ℕ) → all is_digit l ≡ true → 0 < length l → take_while is_blank (l ++ rest) ≡ []
digit_first [] rest h some = absurd (omega arith)
digit_first (b ∷ l) rest h some =
    let e = (and_iff (is_digit b) (all is_digit l)).0 h in
    let low = digit_low b e.0 in
    rw (ne_eqb b 32 (omega arith), ne_eqb b 9 (omega arith), ne_eqb b 10 (omega arith), ne_eqb b 13 (omega arith))

-- ---- calls that there are

-- numbers of 32 bits
abbrev pub is_word : ℕ → Bool
is_word n = leb n 4294967295

-- a text begins with a blank, or is empty
abbrev pub blank_first : List ℕ → Bool
blank_first [] = true
blank_first (b ∷ l) = is_blank b

pub all_at : (p : ℕ → Bool) (l : List ℕ) (i d : ℕ) → all p l ≡ true → p d ≡ true → p (get_or l i d) ≡ true
all_at p [] i d h e = e
all_at p (x ∷ l) zero d h e = ((and_iff (p x) (all p l)).0 h).0
all_at p (x ∷ l) (suc i) d h e = all_at p l i d ((and_iff (p x) (all p l)).0 h).1 e

counts_few : (code : ℕ) → get_or counts code 0 ≤ 4
counts_few code = leb-true _ 4 (all_at (λ n. leb n 4) counts code 0 refl refl)

-- ---- what stands at a place of a text, by what is left of the text from there on

module _ (text : List ℕ) where
  past : (at : ℕ) (l rest : List ℕ) → drop at text ≡ l ++ rest → drop (at + length l) text ≡ rest
  past at l rest e = sym (drop-drop (length l) at text) ∙ ap (drop (length l)) e ∙ drop-append_seam l rest

  inside : (at b : ℕ) (rest : List ℕ) → drop at text ≡ b ∷ rest → at < length text
  inside at b rest e = omega (arith, length-drop at text, ap length e)

  first_of : (at b : ℕ) (rest : List ℕ) → drop at text ≡ b ∷ rest → get_or text at 0 ≡ b
  first_of at b rest e = let z : at + 0 ≡ at = omega arith in ap (λ i. get_or text i 0) (sym z) ∙ sym (get_or-drop at text 0 0) ∙ ap (λ l. get_or l 0 0) e

  stands_first : (at b : ℕ) (rest : List ℕ) → drop at text ≡ b ∷ rest → stands text at b ≡ true
  unfolding stands
  stands_first at b rest e = rw (lt-ltb at (length text) (inside at b rest e), first_of at b rest e, eq-eqb b b refl)

  number_spelled
      : (at n : ℕ) (rest : List ℕ)
      → drop at text ≡ decimal n ++ rest
      → take_while is_digit rest ≡ []
      → is_word n ≡ true
      → number_at text at ≡ Ok (n, at + length (decimal n))
  unfolding number_at
  number_spelled at n rest e stop w =
      let f : take_while is_digit (drop at text) ≡ decimal n = ap (take_while is_digit) e ∙ front_all is_digit (decimal n) rest (decimal_digits n) ∙ ap (λ l. decimal n ++ l) stop ∙ append-nil (decimal n) in
      rw (f, lt-ltb 0 (length (decimal n)) (decimal_some n), value_decimal n, w)

  -- ---- arguments

  behind_stop : (xs rest : List ℕ) → take_while is_digit (behind xs ++ (41 ∷ rest)) ≡ []
  unfolding behind
  behind_stop [] rest = refl
  behind_stop (x ∷ xs) rest = refl

  -- of the arguments xs that stand at a place behind j others, the one with k more in front of it
  behind-read
      : (rest xs : List ℕ) (j k at : ℕ)
      → 0 < j
      → all is_word xs ≡ true
      → drop at text ≡ behind xs ++ (41 ∷ rest)
      → argument text (j + length xs) (j + k) (at + length (behind (take k xs))) ≡ Ok (get_or xs k 0, at + length (behind (take (suc k) xs)))
  unfolding argument after_byte behind
  behind-read rest [] j zero at p w e = rw (le-leb (j + 0) (j + 0) (omega arith))
  behind-read rest [] j (suc k) at p w e = rw (le-leb (j + 0) (j + suc k) (omega arith))
  behind-read rest (x ∷ xs) j zero at p w e =
      let z : at + 0 ≡ at = omega arith in
      let g = e ∙ ap (λ l. 44 ∷ l) (append_assoc (decimal x) (behind xs) (41 ∷ rest)) in
      let d : drop (at + 1) text ≡ decimal x ++ (behind xs ++ (41 ∷ rest)) = past at (44 ∷ []) _ g in
      let n : at + 1 + length (decimal x) ≡ at + suc (length (decimal x ++ [])) = simp append-nil (omega arith) in
      rw (lt-leb (j + suc (length xs)) (j + 0) (omega arith), ne_eqb (j + 0) 0 (omega arith), z, stands_first at 44 _ e, number_spelled (at + 1) x (behind xs ++ (41 ∷ rest)) d (behind_stop xs rest) ((and_iff (is_word x) _).0 w).0, n)
  behind-read rest (x ∷ xs) j (suc k) at p w e =
      let m = at + suc (length (decimal x)) in
      let d : drop m text ≡ behind xs ++ (41 ∷ rest) = past at (44 ∷ decimal x) _ (e ∙ ap (λ l. 44 ∷ l) (append_assoc (decimal x) (behind xs) (41 ∷ rest))) in
      let i = behind-read rest xs (j + 1) k m (omega arith) ((and_iff (is_word x) _).0 w).1 d in
      let n : j + suc (length xs) ≡ j + 1 + length xs = omega arith in
      let o : j + suc k ≡ j + 1 + k = omega arith in
      let from : at + suc (length (decimal x ++ behind (take k xs))) ≡ m + length (behind (take k xs)) = simp length-append (omega arith) in
      let to : at + suc (length (decimal x ++ behind (take (suc k) xs))) ≡ m + length (behind (take (suc k) xs)) = simp length-append (omega arith) in
      rw (n, o, from, to) i

  -- of all the arguments, the one with k in front of it
  joined-read
      : (rest xs : List ℕ) (k at : ℕ)
      → all is_word xs ≡ true
      → drop at text ≡ joined xs ++ (41 ∷ rest)
      → argument text (length xs) k (at + length (joined (take k xs))) ≡ Ok (get_or xs k 0, at + length (joined (take (suc k) xs)))
  unfolding argument after_byte joined behind
  joined-read rest [] zero at w e = refl
  joined-read rest [] (suc k) at w e = rw (le-leb 0 (suc k) (omega arith))
  joined-read rest (x ∷ xs) zero at w e =
      let z : at + 0 ≡ at = omega arith in
      let g = e ∙ append_assoc (decimal x) (behind xs) (41 ∷ rest) in
      let nil : decimal x ++ behind [] ≡ decimal x = append-nil (decimal x) in
      rw (lt-leb (suc (length xs)) 0 (omega arith), z, nil) (number_spelled at x (behind xs ++ (41 ∷ rest)) g (behind_stop xs rest) ((and_iff (is_word x) _).0 w).0)
  joined-read rest (x ∷ xs) (suc k) at w e =
      let m = at + length (decimal x) in
      let d : drop m text ≡ behind xs ++ (41 ∷ rest) = past at (decimal x) _ (e ∙ append_assoc (decimal x) (behind xs) (41 ∷ rest)) in
      let i = behind-read rest xs 1 k m (omega arith) ((and_iff (is_word x) _).0 w).1 d in
      let from : at + length (decimal x ++ behind (take k xs)) ≡ m + length (behind (take k xs)) = simp length-append (omega arith) in
      let to : at + length (decimal x ++ behind (take (suc k) xs)) ≡ m + length (behind (take (suc k) xs)) = simp length-append (omega arith) in
      let n : suc (length xs) ≡ 1 + length xs = omega arith in
      let o : suc k ≡ 1 + k = omega arith in
      rw (from, to) (ap₂ (λ a b. argument text a b (m + length (behind (take k xs)))) n o ∙ i)

  -- ---- the closing, and the whole call

  ends_before : (at : ℕ) (rest : List ℕ) → drop at text ≡ rest → blank_first rest ≡ true → ends text at ≡ true
  unfolding ends
  ends_before at [] e b = rw (le-leb (length text) at (omega (arith, length-drop at text, ap length e)))
  ends_before at (x ∷ rest) e b = rw (lt-leb (length text) at (inside at x rest e), first_of at x rest e) b

  module _ (code : ℕ) (xs rest : List ℕ) (few : length xs ≡ get_or counts code 0) (words : all is_word xs ≡ true) (after : blank_first rest ≡ true) where
    closed_read : (n : ℕ) → drop n text ≡ 41 ∷ rest → closed text n ≡ Ok (n + 1)
    unfolding closed after_byte
    closed_read n e = rw (stands_first n 41 rest e, ends_before (n + 1) rest (past n (41 ∷ []) rest e) after)

    abbrev call : ℕ → Call
    call next = record { code = code; numbers = get_or xs 0 0 ∷ get_or xs 1 0 ∷ get_or xs 2 0 ∷ get_or xs 3 0 ∷ []; next = next }

    arguments_read : (at : ℕ) → drop at text ≡ joined xs ++ (41 ∷ rest) → arguments text code at ≡ Ok (call (at + length (joined xs) + 1))
    unfolding arguments joined
    arguments_read at e =
        let z : at ≡ at + length (joined (take 0 xs)) = omega arith in
        let whole : take 4 xs ≡ xs = take_all 4 xs (omega (arith, counts_few code)) in
        let first = ap (argument text (length xs) 0) z ∙ joined-read rest xs 0 at words e in
        rw (sym few, first, joined-read rest xs 1 at words e, joined-read rest xs 2 at words e, joined-read rest xs 3 at words e, whole, closed_read (at + length (joined xs)) (past at (joined xs) (41 ∷ rest) e))

    call_read : (at : ℕ) → code ≤ 15 → drop at text ≡ spelled code xs ++ rest → call_at text at ≡ Ok (call (at + length (spelled code xs)))
    unfolding call_at opened after_byte spelled
    call_read at h e =
        let p = at + length (decimal code) in
        let g : drop at text ≡ decimal code ++ (40 ∷ (joined xs ++ (41 ∷ rest))) = e ∙ simp append_assoc in
        let o = past at (decimal code) (40 ∷ (joined xs ++ (41 ∷ rest))) g in
        let n : at + length (spelled code xs) ≡ p + 1 + length (joined xs) + 1 = simp length-append (omega arith) in
        rw (number_spelled at code (40 ∷ (joined xs ++ (41 ∷ rest))) g refl (le-leb code 4294967295 (omega arith)), le-leb code 15 h, stands_first p 40 _ o, n)
        (arguments_read (p + 1) (past p (40 ∷ []) (joined xs ++ (41 ∷ rest)) o))

code_first : (code : ℕ) (xs rest : List ℕ) → take_while is_blank (spelled code xs ++ rest) ≡ []
unfolding spelled
code_first code xs rest = rw (append_assoc (decimal code) (40 ∷ (joined xs ++ (41 ∷ []))) rest) (digit_first (decimal code) _ (decimal_digits code) (decimal_some code))

spelled_some : (code : ℕ) (xs : List ℕ) → 0 < length (spelled code xs)
unfolding spelled
spelled_some code xs = simp length-append (omega arith)

-- ---- the law

-- a call with a code up to 15 and as many arguments as it takes, each of 32 bits, spelled behind any text and any blanks, with a blank or nothing behind it
pub read_back
    : (before blanks : List ℕ) (code : ℕ) (xs rest : List ℕ)
    → code ≤ 15
    → length xs ≡ get_or counts code 0
    → all is_word xs ≡ true
    → all is_blank blanks ≡ true
    → blank_first rest ≡ true
    → written (before ++ (blanks ++ (spelled code xs ++ rest))) (length before)
    ≡ Ok (Some (record { code = code; numbers = get_or xs 0 0 ∷ get_or xs 1 0 ∷ get_or xs 2 0 ∷ get_or xs 3 0 ∷ []; next = length before + length blanks + length (spelled code xs) }))
unfolding written past_blanks
read_back before blanks code xs rest h few words blank after =
    let text = before ++ (blanks ++ (spelled code xs ++ rest)) in
    let at = length before + length blanks in
    let d = drop-append_seam before (blanks ++ (spelled code xs ++ rest)) in
    let f : take_while is_blank (drop (length before) text) ≡ blanks =
    ap (take_while is_blank) d ∙ front_all is_blank blanks (spelled code xs ++ rest) blank ∙ ap (λ l. blanks ++ l) (code_first code xs rest) ∙ append-nil blanks in
    let long : at < length text = let some = spelled_some code xs in simp length-append (omega arith) in
    rw (f, lt-leb (length text) at long, call_read text code xs rest few words after at h (past text (length before) blanks (spelled code xs ++ rest) d))

-- only blanks left
pub read_end : (before blanks : List ℕ) → all is_blank blanks ≡ true → written (before ++ blanks) (length before) ≡ Ok None
unfolding written past_blanks
read_end before blanks blank =
    let f : take_while is_blank (drop (length before) (before ++ blanks)) ≡ blanks =
    ap (take_while is_blank) (drop-append_seam before blanks ∙ sym (append-nil blanks)) ∙ front_all is_blank blanks [] blank ∙ append-nil blanks in
    let most : length (before ++ blanks) ≤ length before + length blanks = simp length-append (omega arith) in
    rw (f, le-leb (length (before ++ blanks)) (length before + length blanks) most)
