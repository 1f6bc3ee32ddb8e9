-- What having a key, looking it up and rising mean in a list with keys, and what holds of every two by key. Assumes nothing.
use Rattle.std.specs.Prelude.{true, false, List, [], ◌∷◌, ◌↔◌, ◌≡◌, refl, ℕ, ◌<◌, ltb, eqb}
use mathlib.Core.List.Memᴰ.{cases_cons}
use mathlib.Core.List.Memᴰ.{head as here}
use mathlib.Core.List.Memᴰ.{not-nil as nowhere}
use mathlib.Core.List.Memᴰ.{tail as there}
use Rattle.std.proofs.Common.{inl, inr, ⊎_elim, sym, ap, arith, ltb-true, lt-ltb, eqb-true, eq-eqb, ne_eqb}
use Rattle.lists.specs.Lists.{◌∈◌, AllTwo}
use Rattle.lists.specs.Keyed.{has, at, rising_from, rising, Has, Rising}
use Rattle.lists.specs.Tests.{tested, never, and_iff, unless_iff}

module _ {A : Type 0} (key : A → ℕ) where
  pub has_member : (l : List A) (k : ℕ) → has key l k ≡ true → Has key l k
  has_member [] k h = never false h refl
  has_member (x ∷ l) k h = elim (tested (eqb (key x) k)) [
    | inl e ↦ (x, here refl, eqb-true (key x) k e)
    | inr e ↦ let r = has_member l k (rw e at h) in (r.0, there r.1, r.2)
  ]

  pub member_has : (l : List A) {x : A} → x ∈ l → has key l (key x) ≡ true
  member_has [] m = elim m [ ]
  member_has (y ∷ l) {x} (here q) = rw (eq-eqb (key y) (key x) (ap key (sym q)))
  member_has (y ∷ l) {x} (there m) = (unless_iff (eqb (key y) (key x)) (has key l (key x))).1 (λ _. member_has l m)

  pub has_iff : (l : List A) (k : ℕ) → (has key l k ≡ true) ↔ Has key l k
  has_iff l k = (has_member l k, λ h. rw (← h.2) (member_has l h.1))

  rising_from_lem : (k : ℕ) (l : List A) → rising_from key k l ≡ true → ((y : A) → y ∈ l → k < key y) × Rising key l
  rising_from_lem k [] h = (λ y m. absurd (nowhere m), tt)
  rising_from_lem k (x ∷ l) h =
      let b = (and_iff (ltb k (key x)) (rising_from key (key x) l)).0 h in
      let low = ltb-true k (key x) b.0 in
      let r = rising_from_lem (key x) l b.1 in
      (λ y m. ⊎_elim (λ q. let e = ap key q in omega arith) (λ t. let up = r.0 y t in omega arith) (cases_cons m), r)

  from_rising : (k : ℕ) (l : List A) → ((y : A) → y ∈ l → k < key y) × Rising key l → rising_from key k l ≡ true
  from_rising k [] h = refl
  from_rising k (x ∷ l) h = (and_iff (ltb k (key x)) (rising_from key (key x) l)).1 (lt-ltb k (key x) (h.0 x (here refl)), from_rising (key x) l h.1)

  pub rising_iff : (l : List A) → (rising key l ≡ true) ↔ Rising key l
  rising_iff [] = (λ _. tt, λ _. refl)
  rising_iff (x ∷ l) = (rising_from_lem (key x) l, from_rising (key x) l)

  pub at_member : (none : ℕ → A) (l : List A) (k : ℕ) → has key l k ≡ true → at key none l k ∈ l
  at_member none [] k h = never false h refl
  at_member none (x ∷ l) k h = elim (tested (eqb (key x) k)) [
    | inl e ↦ rw e (here refl)
    | inr e ↦ rw e (there (at_member none l k (rw e at h)))
  ]

  -- what is looked up has the key that it is looked up by
  pub at_key : (none : ℕ → A) → ((k : ℕ) → key (none k) ≡ k) → (l : List A) (k : ℕ) → key (at key none l k) ≡ k
  at_key none d [] k = d k
  at_key none d (x ∷ l) k = elim (tested (eqb (key x) k)) [
    | inl e ↦ rw e (eqb-true (key x) k e)
    | inr e ↦ rw e (at_key none d l k)
  ]

  pub at_none : (none : ℕ → A) (l : List A) (k : ℕ) → has key l k ≡ false → at key none l k ≡ none k
  at_none none [] k h = refl
  at_none none (x ∷ l) k h = elim (tested (eqb (key x) k)) [
    | inl e ↦ never true refl (rw e at h)
    | inr e ↦ rw e (at_none none l k (rw e at h))
  ]

  -- in a rising list an element is what its key finds
  pub member_at : (none : ℕ → A) (l : List A) → Rising key l → {x : A} → x ∈ l → at key none l (key x) ≡ x
  member_at none [] r m = elim m [ ]
  member_at none (y ∷ l) r (here q) = rw (ap key q, eq-eqb (key y) (key y) refl) (sym q)
  member_at none (y ∷ l) r {x} (there m) = let b = r.0 x m in rw (ne_eqb (key y) (key x) (omega arith)) (member_at none l r.1 m)

  -- ---- what holds of every two, by key

  pub two_by_key : (R : A → A → Type 0) (l : List A) → Rising key l → AllTwo R l → {x y : A} → x ∈ l → y ∈ l → key x < key y → R x y
  two_by_key R [] r t m _ k = elim m [ ]
  two_by_key R (z ∷ l) r t {x} {y} (here e) (here f) k = let g = ap key e in let h = ap key f in absurd (omega arith)
  two_by_key R (z ∷ l) r t {x} {y} (here e) (there n) k = rw e (t.0 y n)
  two_by_key R (z ∷ l) r t {x} {y} (there m) (here f) k = let g = ap key f in let b = r.0 x m in absurd (omega arith)
  two_by_key R (z ∷ l) r t {x} {y} (there m) (there n) k = two_by_key R l r.1 t.1 m n k

  pub by_key_two : (R : A → A → Type 0) (l : List A) → Rising key l → ((x y : A) → x ∈ l → y ∈ l → key x < key y → R x y) → AllTwo R l
  by_key_two R [] r h = tt
  by_key_two R (z ∷ l) r h = ((λ y m. h z y (here refl) (there m) (r.0 y m)), by_key_two R l r.1 (λ x y m n. h x y (there m) (there n)))
