-- The lines that are read, as they stand in an array, and a list written line by line. Assumes nothing.
use Rattle.std.specs.Prelude.{Bool, true, false, List, [], ◌∷◌, ◌++◌, ◌||◌, ◌&&◌, map, ◌≡◌, refl, ℕ, zero, suc, ◌+◌, ◌<◌, ◌≤◌, min, take, drop, set, get_or, ltb, eqb, length, option_map, unwrap_or, cond, if◌then◌else◌, Some, None}
use Rattle.std.specs.List.{list_any, list_all, find, position_or_len, IsAllAdjacentAnswer}
use Rattle.std.proofs.Common.{sym, ◌∙◌, ap, arith, add-one, append_assoc, take-suc, length-append, ltb-false}
use mathlib.Core.List.{map-append}
use Rattle.std.proofs.Math.ListN.{get_or-map}
use Rattle.std.proofs.lemmas.List.{length-map, take-map, drop-map}
use Rattle.lists.specs.Lists.{all, any, keep}
use Rattle.lists.specs.KeepLaws.{keep_in, keep_out}
use Rattle.lists.specs.Keyed.{has, insert, rising_from, rising}
use Rattle.lists.specs.Tests.{tested}
use Rattle.lines.specs.Shape.{Shape, live, pad, live_clamp}
use Rattle.lines.specs.Fill.{pad_more}
use Rattle.lines.specs.Search.{place, insert_place}
use Rattle.std.proofs.Math.Logic.{inl, inr}

module _ {A B : Type 0} (σ : Shape A B) where
  -- as many lines as the count says, or all, are what the count reads
  pub listed_reads : (count n : ℕ) (ls : List A) → length ls ≡ σ.limit → n ≡ min count (length ls) → map σ.view (take n ls) ≡ live σ count ls
  unfolding live
  listed_reads count n ls long e = rw e (live_clamp σ count ls (length ls) refl)

  -- a test of the lines is that test of what they mean

  pub any_line : (p : B → Bool) (ls : List A) → list_any (λ a. p (σ.view a)) ls ≡ any p (map σ.view ls)
  any_line p [] = refl
  any_line p (a ∷ ls) = ap (λ b. p (σ.view a) || b) (any_line p ls)

  pub all_line : (p : B → Bool) (ls : List A) → list_all (λ a. p (σ.view a)) ls ≡ all p (map σ.view ls)
  all_line p [] = refl
  all_line p (a ∷ ls) = ap (λ b. p (σ.view a) && b) (all_line p ls)

  pub has_line : (key : B → ℕ) (k : ℕ) (ls : List A) → list_any (λ a. eqb (key (σ.view a)) k) ls ≡ has key (map σ.view ls) k
  has_line key k [] = refl
  has_line key k (a ∷ ls) = ap (λ b. eqb (key (σ.view a)) k || b) (has_line key k ls)

  pub find_line : (p : B → Bool) (ls : List A) → option_map σ.view (find (λ a. p (σ.view a)) ls) ≡ find p (map σ.view ls)
  find_line p [] = refl
  find_line p (a ∷ ls) = elim (tested (p (σ.view a))) [
    | inl e ↦ rw e
    | inr e ↦ rw e (find_line p ls)
  ]

  pub place_line : (p : B → Bool) (ls : List A) → position_or_len (λ a. p (σ.view a)) ls ≡ place p (map σ.view ls)
  unfolding place
  place_line p [] = refl
  place_line p (a ∷ ls) = elim (tested (p (σ.view a))) [
    | inl e ↦ rw e
    | inr e ↦ let i = place_line p ls in rw e (omega arith)
  ]

  -- keys that rise from each line to the next
  module _ (key : B → ℕ) where
    abbrev Answer : List A → Bool → Type 0
    Answer ls r = IsAllAdjacentAnswer (λ x y b. b ≡ ltb (key (σ.view x)) (key (σ.view y))) ls r

    rising_line_from : (r : Bool) (x : A) (ls : List A) → Answer (x ∷ ls) r → r ≡ rising_from key (key (σ.view x)) (map σ.view ls)
    rising_line_from true x [] h = refl
    rising_line_from false x [] h = absurd (omega (arith, h.1))
    rising_line_from true x (y ∷ ls) h =
        let e = h 0 x (omega arith) in
        rw (← e) (rising_line_from true y ls (λ k d l. let q : suc k + 1 ≡ suc (k + 1) = omega arith in rw q at (h (suc k) d (omega arith))))
    rising_line_from false x (y ∷ ls) (zero, l, e) = ap (λ b. b && rising_from key (key (σ.view y)) (map σ.view ls)) (e x)
    rising_line_from false x (y ∷ ls) (suc k, l, e) = elim (tested (ltb (key (σ.view x)) (key (σ.view y)))) [
      | inl t ↦ rw t (rising_line_from false y ls (k, omega arith, λ d. let q : suc k + 1 ≡ suc (k + 1) = omega arith in rw q at (e d)))
      | inr f ↦ rw f
    ]

    pub rising_line : (r : Bool) (ls : List A) → Answer ls r → r ≡ rising key (map σ.view ls)
    rising_line true [] h = refl
    rising_line false [] h = absurd (omega (arith, h.1))
    rising_line r (x ∷ ls) h = rising_line_from r x ls h

-- a place that is found, or the length
pub found_or : (m n : ℕ) → m ≤ n → unwrap_or (cond (ltb m n) (Some m) None) n ≡ m
found_or m n h = elim (tested (ltb m n)) [
  | inl e ↦ rw e
  | inr e ↦ let l = ltb-false m n e in rw e (omega arith)
]

-- both names of a test of each element
pub all_so : {A : Type 0} (p : A → Bool) (l : List A) → list_all p l ≡ all p l
all_so p [] = refl
all_so p (x ∷ l) = ap (λ b. p x && b) (all_so p l)

-- ---- a list whose lines are written one by one

module _ {S A B : Type 0} (σ : Shape A B) (count_of : S → ℕ) (lines_of : S → List A) (made : ℕ → List A → S) (written : List B → S)
    (writes : (xs : List B) → written xs ≡ made (length xs) (pad σ xs))
    (counts : (n : ℕ) (ls : List A) → count_of (made n ls) ≡ n)
    (lines_made : (n : ℕ) (ls : List A) → lines_of (made n ls) ≡ ls) where
  pub written_count : (xs : List B) → count_of (written xs) ≡ length xs
  written_count xs = ap count_of (writes xs) ∙ counts _ _

  written_lines : (xs : List B) → lines_of (written xs) ≡ pad σ xs
  written_lines xs = ap lines_of (writes xs) ∙ lines_made _ _

  -- one line more, and how many there are
  pub pushed_count : (s t : S) (a : A) → t ≡ made (count_of s + 1) (set (lines_of s) (count_of s) a) → count_of t ≡ count_of s + 1
  pushed_count s t a e = ap count_of e ∙ counts _ _

  pub pushed : (s t : S) (a : A) (xs : List B) → count_of s < σ.limit → t ≡ made (count_of s + 1) (set (lines_of s) (count_of s) a) → s ≡ written xs → t ≡ written (xs ++ σ.view a ∷ [])
  pushed s t a xs h e w =
      let c : length xs ≡ count_of s = sym (ap count_of w ∙ written_count xs) in
      let b : set (pad σ xs) (length xs) a ≡ pad σ (xs ++ σ.view a ∷ []) = ap (set (pad σ xs) (length xs)) (sym (σ.back_view a)) ∙ pad_more σ xs (σ.view a) (omega arith) in
      let n : length xs + 1 ≡ length (xs ++ σ.view a ∷ []) = simp length-append (omega arith) in
      e ∙ ap (λ u. made (count_of u + 1) (set (lines_of u) (count_of u) a)) w ∙ rw (written_count xs, written_lines xs, b, n) (sym (writes (xs ++ σ.view a ∷ [])))

  -- ---- of the lines ls, those before i are done, and a stands at i

  module _ (ls : List A) (i : ℕ) (a : A) (h : i < length ls) (here : a ≡ get_or ls i a) (s t : S) where
    abbrev ms : List B
    ms = map σ.view ls

    here_reads : get_or ms i (σ.view a) ≡ σ.view a
    here_reads = get_or-map σ.view ls i a ∙ ap σ.view (sym here)

    within : i < length ms
    within = omega (arith, length-map ls σ.view)

    taken : take (i + 1) ms ≡ take i ms ++ σ.view a ∷ []
    taken = rw (add-one, take-suc ms i (σ.view a) within, here_reads)

    pub kept_pushed : (p : B → Bool) → p (σ.view a) ≡ true → count_of s < σ.limit → t ≡ made (count_of s + 1) (set (lines_of s) (count_of s) a)
        → s ≡ written (keep p (take i ms)) → t ≡ written (keep p (take (i + 1) ms))
    kept_pushed p e room q w =
        pushed s t a _ room q w ∙ ap written (ap (λ m. keep p (take i ms) ++ m ∷ []) (sym here_reads) ∙ sym (keep_in p ms i (σ.view a) within (rw here_reads e)))

    pub kept_passed : (p : B → Bool) → p (σ.view a) ≡ false → s ≡ written (keep p (take i ms)) → s ≡ written (keep p (take (i + 1) ms))
    kept_passed p e w = w ∙ ap written (sym (keep_out p ms i (σ.view a) within (rw here_reads e)))

    -- a line that is put in where b, the answer of its test, is true; Asked p says that p is that test
    pub kept_step : (b : Bool) (Asked : (B → Bool) → Type 0) → ((p : B → Bool) → Asked p → b ≡ p (σ.view a)) → count_of s < σ.limit
        → t ≡ (if b then made (count_of s + 1) (set (lines_of s) (count_of s) a) else s)
        → (count_of s ≤ i) × ((p : B → Bool) → Asked p → s ≡ written (keep p (take i ms)))
        → (count_of t ≤ i + 1) × ((p : B → Bool) → Asked p → t ≡ written (keep p (take (i + 1) ms)))
    kept_step true Asked tests room q w =
        (omega (arith, w.0, pushed_count s t a q), λ p h. kept_pushed p (sym (tests p h)) room q (w.1 p h))
    kept_step false Asked tests room q w =
        (omega (arith, w.0, ap count_of q), λ p h. q ∙ kept_passed p (sym (tests p h)) (w.1 p h))

    pub each_pushed : (f : B → B) (b : A) → σ.view b ≡ f (σ.view a) → count_of s < σ.limit → t ≡ made (count_of s + 1) (set (lines_of s) (count_of s) b)
        → s ≡ written (map f (take i ms)) → t ≡ written (map f (take (i + 1) ms))
    each_pushed f b e room q w =
        pushed s t b _ room q w ∙ ap written (ap (λ m. map f (take i ms) ++ m ∷ []) e ∙ sym (ap (map f) taken ∙ map-append f (take i ms) (σ.view a ∷ [])))

    pub more_pushed : (xs : List B) → count_of s < σ.limit → t ≡ made (count_of s + 1) (set (lines_of s) (count_of s) a)
        → s ≡ written (xs ++ take i ms) → t ≡ written (xs ++ take (i + 1) ms)
    more_pushed xs room q w = pushed s t a _ room q w ∙ ap written (append_assoc xs (take i ms) (σ.view a ∷ []) ∙ ap (λ l. xs ++ l) (sym taken))

-- ---- a line put in

module _ {A B : Type 0} (σ : Shape A B) (key : B → ℕ) where
  -- the lines before a place, the new one, and those from there on
  pub put_in : (ls low high : List A) (m : B) (at : ℕ) → low ≡ take at ls → high ≡ drop at ls → at ≡ place (λ x. ltb (key m) (key x)) (map σ.view ls)
      → (map σ.view low ++ (m ∷ [])) ++ map σ.view high ≡ insert key m (map σ.view ls)
  put_in ls low high m at e f h =
      append_assoc (map σ.view low) (m ∷ []) (map σ.view high)
      ∙ rw (e, f, ← take-map σ.view at ls, ← drop-map σ.view at ls, h) (sym (insert_place key m (map σ.view ls)))
