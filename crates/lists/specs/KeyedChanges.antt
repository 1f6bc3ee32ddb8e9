-- What inserting, changing and keeping elements does to a list with keys: which keys it has, what they find, and that it rises. Assumes nothing.
use Rattle.std.specs.Prelude.{Bool, true, false, not, ◌&&◌, ◌||◌, List, [], ◌∷◌, map, ◌↔◌, ◌⊎◌, ◌≡◌, refl, ℕ, ◌+◌, ◌<◌, ◌≤◌, ltb, eqb, length}
use mathlib.Core.List.Memᴰ.{cases_cons}
use mathlib.Core.List.Memᴰ.{head as here}
use mathlib.Core.List.Memᴰ.{not-nil as nowhere}
use mathlib.Core.List.Memᴰ.{tail as there}
use Rattle.std.proofs.Common.{inl, inr, ⊎_elim, sym, ◌∙◌, ap, arith, ltb-true, ltb-false, eqb-true, eq-eqb, ne_eqb}
use Rattle.std.proofs.Math.Decide.{ℕ_discrete}
use Rattle.std.proofs.lemmas.Bool.{eqb-false}
use Rattle.lists.specs.Lists.{◌∈◌, AllTwo, keep, sum}
use Rattle.lists.specs.Keyed.{has, at, insert, remove, Rising}
use Rattle.lists.specs.Tests.{tested, never, and_iff, unless_iff, not_iff}
use Rattle.lists.specs.KeyedLaws.{member_has}
use Rattle.lists.specs.ListChanges.{two_map}
use Rattle.lists.specs.KeepLaws.{keep_all}

module _ {A : Type 0} (key : A → ℕ) where
  -- ---- insert

  pub insert_member : (n : A) (l : List A) {x : A} → x ∈ insert key n l → (x ≡ n) ⊎ (x ∈ l)
  insert_member n [] m = cases_cons m
  insert_member n (y ∷ l) m = elim (tested (ltb (key n) (key y))) [
    | inl e ↦ cases_cons (rw e at m)
    | inr e ↦ ⊎_elim (λ q. inr (here q)) (λ t. ⊎_elim (λ q. inl q) (λ u. inr (there u)) (insert_member n l t)) (cases_cons (rw e at m))
  ]

  pub member_insert : (n : A) (l : List A) {x : A} → (x ≡ n) ⊎ (x ∈ l) → x ∈ insert key n l
  member_insert n [] u = ⊎_elim (λ e. here e) (λ i. there i) u
  member_insert n (y ∷ l) u = elim (tested (ltb (key n) (key y))) [
    | inl e ↦ rw e (⊎_elim (λ q. here q) (λ i. there i) u)
    | inr e ↦ rw e (⊎_elim (λ q. there (member_insert n l (inl q))) (λ i. ⊎_elim (λ q. here q) (λ j. there (member_insert n l (inr j))) (cases_cons i)) u)
  ]

  pub insert_length : (n : A) (l : List A) → length (insert key n l) ≡ length l + 1
  insert_length n [] = refl
  insert_length n (y ∷ l) = let i = insert_length n l in elim (tested (ltb (key n) (key y))) [
    | inl e ↦ rw e (omega arith)
    | inr e ↦ rw e (omega arith)
  ]

  pub sum_insert : (f : A → ℕ) (n : A) (l : List A) → sum f (insert key n l) ≡ f n + sum f l
  sum_insert f n [] = refl
  sum_insert f n (y ∷ l) = let i = sum_insert f n l in elim (tested (ltb (key n) (key y))) [
    | inl e ↦ rw e refl
    | inr e ↦ rw e (omega arith)
  ]

  pub has_insert : (n : A) (l : List A) (k : ℕ) → has key (insert key n l) k ≡ (eqb (key n) k || has key l k)
  has_insert n [] k = refl
  has_insert n (y ∷ l) k = elim (tested (ltb (key n) (key y))) [
    | inl e ↦ rw e refl
    | inr e ↦ elim (tested (eqb (key n) k)) [
      | inl f ↦ elim (tested (eqb (key y) k)) [
        | inl g ↦ rw (e, f, g)
        | inr g ↦ rw (e, f, g) (rw f at (has_insert n l k))
      ]
      | inr f ↦ rw (e, f, has_insert n l k, f)
    ]
  ]

  -- the keys after are those before, and the new one
  pub has_insert_iff : (n : A) (l : List A) (k : ℕ) → (has key (insert key n l) k ≡ true) ↔ ((has key l k ≡ true) ⊎ (k ≡ key n))
  has_insert_iff n l k = (
    λ h. elim (tested (eqb (key n) k)) [
      | inl e ↦ inr (sym (eqb-true (key n) k e))
      | inr e ↦ inl ((unless_iff (eqb (key n) k) (has key l k)).0 (sym (has_insert n l k) ∙ h) e)
    ],
    λ u. has_insert n l k ∙ (unless_iff (eqb (key n) k) (has key l k)).1 (λ d. ⊎_elim (λ h. h) (λ e. absurd (eqb-false (key n) k d (sym e))) u),
  )

  pub at_insert_new : (none : ℕ → A) (n : A) (l : List A) → has key l (key n) ≡ false → at key none (insert key n l) (key n) ≡ n
  at_insert_new none n [] h = rw (eq-eqb (key n) (key n) refl)
  at_insert_new none n (y ∷ l) h = elim (tested (ltb (key n) (key y))) [
    | inl e ↦ rw (e, eq-eqb (key n) (key n) refl)
    | inr e ↦ elim (tested (eqb (key y) (key n))) [
      | inl f ↦ never true refl (rw f at h)
      | inr f ↦ rw (e, f) (at_insert_new none n l (rw f at h))
    ]
  ]

  pub at_insert_old : (none : ℕ → A) (n : A) (l : List A) (k : ℕ) → (key n ≡ k → ⊥) → at key none (insert key n l) k ≡ at key none l k
  at_insert_old none n [] k h = rw (ne_eqb (key n) k h)
  at_insert_old none n (y ∷ l) k h = elim (tested (ltb (key n) (key y))) [
    | inl e ↦ rw (e, ne_eqb (key n) k h)
    | inr e ↦ rw (e, at_insert_old none n l k h)
  ]

  -- what holds of every two in a rising list, and of the new element with each, holds after it is inserted
  pub two_insert : (R : A → A → Type 0) (n : A) (l : List A) → Rising key l → ((y : A) → y ∈ l → key n < key y → R n y)
      → ((y : A) → y ∈ l → key y ≤ key n → R y n) → AllTwo R l → AllTwo R (insert key n l)
  two_insert R n [] r up low t = ((λ y m. absurd (nowhere m)), tt)
  two_insert R n (x ∷ l) r up low t = elim (tested (ltb (key n) (key x))) [
    | inl e ↦
        let b = ltb-true (key n) (key x) e in
        rw e ((λ y m. up y m (⊎_elim (λ q. let g = ap key q in omega arith) (λ i. let c = r.0 y i in omega arith) (cases_cons m))), t)
    | inr e ↦
        let b = ltb-false (key n) (key x) e in
        rw e (
          (λ y m. ⊎_elim (λ q. rw q (low x (here refl) b)) (λ i. t.0 y i) (insert_member n l m)),
          two_insert R n l r.1 (λ y m. up y (there m)) (λ y m. low y (there m)) t.1,
        )
  ]

  pub rising_insert : (n : A) (l : List A) → Rising key l → has key l (key n) ≡ false → Rising key (insert key n l)
  rising_insert n l r h =
      two_insert (λ x y. key x < key y) n l r (λ y m b. b)
      (λ y m b. elim (ℕ_discrete (key y) (key n)) [
        | yes e ↦ never (has key l (key n)) (rw e at (member_has key l m)) h
        | no d ↦ omega arith
      ])
      r

  -- ---- change each, keeping its key

  module _ (f : A → A) (same : (x : A) → key (f x) ≡ key x) where
    pub has_map : (l : List A) (k : ℕ) → has key (map f l) k ≡ has key l k
    has_map [] k = refl
    has_map (x ∷ l) k = rw (same x, has_map l k)

    pub at_map : (none : ℕ → A) (l : List A) (k : ℕ) → has key l k ≡ true → at key none (map f l) k ≡ f (at key none l k)
    at_map none [] k h = never false h refl
    at_map none (x ∷ l) k h = elim (tested (eqb (key x) k)) [
      | inl e ↦ rw (same x, e)
      | inr e ↦ rw (same x, e) (at_map none l k (rw e at h))
    ]

    -- where the change leaves the elements of a key as they are
    pub at_map_same : (none : ℕ → A) (l : List A) (k : ℕ) → ((x : A) → key x ≡ k → f x ≡ x) → at key none (map f l) k ≡ at key none l k
    at_map_same none [] k h = refl
    at_map_same none (x ∷ l) k h = elim (tested (eqb (key x) k)) [
      | inl e ↦ rw (same x, e) (h x (eqb-true (key x) k e))
      | inr e ↦ rw (same x, e) (at_map_same none l k h)
    ]

    -- what the change leaves of an element is found as before
    pub at_map_field : {B : Type 0} (g : A → B) → ((x : A) → g (f x) ≡ g x) → (none : ℕ → A) (l : List A) (k : ℕ)
        → g (at key none (map f l) k) ≡ g (at key none l k)
    at_map_field g s none [] k = refl
    at_map_field g s none (x ∷ l) k = elim (tested (eqb (key x) k)) [
      | inl e ↦ rw (same x, e) (s x)
      | inr e ↦ rw (same x, e) (at_map_field g s none l k)
    ]

    pub rising_map : (l : List A) → Rising key l → Rising key (map f l)
    rising_map l r = two_map (λ x y. key x < key y) (λ x y. key x < key y) f (λ x y b. let p = same x in let q = same y in omega arith) l r

  -- ---- keep some, by their keys

  module _ (q : ℕ → Bool) where
    pub has_keep : (l : List A) (k : ℕ) → has key (keep (λ x. q (key x)) l) k ≡ (q k && has key l k)
    has_keep [] k = elim (tested (q k)) [
      | inl e ↦ rw e
      | inr e ↦ rw e
    ]
    has_keep (x ∷ l) k = elim (tested (eqb (key x) k)) [
      | inl f ↦ let s = ap q (eqb-true (key x) k f) in elim (tested (q k)) [
        | inl e ↦ rw (s ∙ e, f, e)
        | inr e ↦ rw (s ∙ e, has_keep l k, e)
      ]
      | inr f ↦ elim (tested (q (key x))) [
        | inl e ↦ rw (e, f) (has_keep l k)
        | inr e ↦ rw (e, f) (has_keep l k)
      ]
    ]

    pub at_keep : (none : ℕ → A) (l : List A) (k : ℕ) → q k ≡ true → at key none (keep (λ x. q (key x)) l) k ≡ at key none l k
    at_keep none [] k h = refl
    at_keep none (x ∷ l) k h = elim (tested (q (key x))) [
      | inl e ↦ rw (e, at_keep none l k h)
      | inr e ↦ elim (tested (eqb (key x) k)) [
        | inl f ↦ never (q k) h (sym (ap q (eqb-true (key x) k f)) ∙ e)
        | inr f ↦ rw (e, f) (at_keep none l k h)
      ]
    ]

  -- ---- remove one

  -- the keys after are those before but the one removed
  pub has_remove_iff : (j : ℕ) (l : List A) (k : ℕ) → (has key (remove key j l) k ≡ true) ↔ ((has key l k ≡ true) × (k ≡ j → ⊥))
  has_remove_iff j l k =
      let kept = has_keep (λ x. not (eqb x j)) l k in (
        λ h. let b = (and_iff (not (eqb k j)) (has key l k)).0 (sym kept ∙ h) in (b.1, eqb-false k j ((not_iff _).0 b.0)),
        λ h. kept ∙ (and_iff (not (eqb k j)) (has key l k)).1 ((not_iff _).1 (ne_eqb k j h.1), h.0),
      )

  pub at_remove : (none : ℕ → A) (j : ℕ) (l : List A) (k : ℕ) → (k ≡ j → ⊥) → at key none (remove key j l) k ≡ at key none l k
  at_remove none j l k d = at_keep (λ x. not (eqb x j)) none l k ((not_iff _).1 (ne_eqb k j d))

  pub sum_remove : (none : ℕ → A) (f : A → ℕ) (l : List A) (k : ℕ) → Rising key l → has key l k ≡ true
      → f (at key none l k) + sum f (remove key k l) ≡ sum f l
  sum_remove none f [] k r h = never false h refl
  sum_remove none f (x ∷ l) k r h = elim (tested (eqb (key x) k)) [
    | inl e ↦
        let q = eqb-true (key x) k e in
        rw (e, keep_all (λ y. not (eqb (key y) k)) l (λ y m. let b = r.0 y m in rw (ne_eqb (key y) k (omega arith))))
    | inr e ↦ let i = sum_remove none f l k r.1 (rw e at h) in rw e (omega arith)
  ]
