-- What the tests of a list mean, and which elements keep keeps. Assumes nothing.
use Rattle.std.specs.Prelude.{Bool, true, false, List, [], ◌∷◌, ◌↔◌, ◌≡◌, refl}
use mathlib.Core.List.Memᴰ.{cases_cons}
use mathlib.Core.List.Memᴰ.{head as here}
use mathlib.Core.List.Memᴰ.{not-nil as nowhere}
use mathlib.Core.List.Memᴰ.{tail as there}
use Rattle.std.proofs.Common.{inl, inr, ⊎_elim}
use Rattle.lists.specs.Lists.{◌∈◌, all, any, all_two, AllTwo, keep}
use Rattle.lists.specs.Tests.{tested, never, and_iff, unless_iff}

module _ {A : Type 0} where
  pub all_member : (p : A → Bool) (l : List A) → all p l ≡ true → (x : A) → x ∈ l → p x ≡ true
  all_member p [] h x m = elim m [ ]
  all_member p (y ∷ l) h x (here e) = rw e ((and_iff (p y) (all p l)).0 h).0
  all_member p (y ∷ l) h x (there m) = all_member p l ((and_iff (p y) (all p l)).0 h).1 x m

  pub all_of : (p : A → Bool) (l : List A) → ((x : A) → x ∈ l → p x ≡ true) → all p l ≡ true
  all_of p [] h = refl
  all_of p (y ∷ l) h = (and_iff (p y) (all p l)).1 (h y (here refl), all_of p l (λ x m. h x (there m)))

  pub all_iff : (p : A → Bool) (l : List A) → (all p l ≡ true) ↔ ((x : A) → x ∈ l → p x ≡ true)
  all_iff p l = (all_member p l, all_of p l)

  -- a test of two that decides a relation decides it of every two
  pub all_two_iff : (p : A → A → Bool) (R : A → A → Type 0) → ((x y : A) → (p x y ≡ true) ↔ R x y) → (l : List A) → (all_two p l ≡ true) ↔ AllTwo R l
  all_two_iff p R d [] = (λ _. tt, λ _. refl)
  all_two_iff p R d (x ∷ l) = (
    λ h. let b = (and_iff (all (p x) l) (all_two p l)).0 h in (λ y m. (d x y).0 (all_member (p x) l b.0 y m), (all_two_iff p R d l).0 b.1),
    λ h. (and_iff (all (p x) l) (all_two p l)).1 (all_of (p x) l (λ y m. (d x y).1 (h.0 y m)), (all_two_iff p R d l).1 h.1),
  )

  pub any_member : (p : A → Bool) (l : List A) → any p l ≡ true → (x : A) × (x ∈ l) × (p x ≡ true)
  any_member p [] h = never false h refl
  any_member p (y ∷ l) h = elim (tested (p y)) [
    | inl e ↦ (y, here refl, e)
    | inr e ↦ let r = any_member p l (rw e at h) in (r.0, there r.1, r.2)
  ]

  pub member_any : (p : A → Bool) (l : List A) {x : A} → x ∈ l → p x ≡ true → any p l ≡ true
  member_any p [] m h = elim m [ ]
  member_any p (y ∷ l) (here q) h = rw (← q, h)
  member_any p (y ∷ l) (there m) h = (unless_iff (p y) (any p l)).1 (λ _. member_any p l m h)

  pub keep_member : (p : A → Bool) (l : List A) {x : A} → x ∈ keep p l → (x ∈ l) × (p x ≡ true)
  keep_member p [] m = absurd (nowhere m)
  keep_member p (y ∷ l) {x} m = elim (tested (p y)) [
    | inl e ↦ ⊎_elim (λ q. (here q, rw q e)) (λ t. let r = keep_member p l t in (there r.0, r.1)) (cases_cons (rw e at m))
    | inr e ↦ let r = keep_member p l (rw e at m) in (there r.0, r.1)
  ]

  pub member_keep : (p : A → Bool) (l : List A) {x : A} → x ∈ l → p x ≡ true → x ∈ keep p l
  member_keep p [] m h = elim m [ ]
  member_keep p (y ∷ l) (here q) h = rw (← q, h) (here refl)
  member_keep p (y ∷ l) (there m) h = elim (tested (p y)) [
    | inl e ↦ rw e (there (member_keep p l m h))
    | inr e ↦ rw e (member_keep p l m h)
  ]
