-- What keeping some elements, and changing each, does to a list: its length, what holds of every two, and what no element passes. Assumes nothing.
use Rattle.std.specs.Prelude.{Bool, true, false, List, [], ◌∷◌, map, ◌≡◌, refl, ◌<◌, ◌≤◌, length}
use mathlib.Core.List.Memᴰ
use mathlib.Core.List.Memᴰ.{head as here}
use mathlib.Core.List.Memᴰ.{tail as there}
use Rattle.std.proofs.Common.{inl, inr, arith}
use Rattle.lists.specs.Lists.{◌∈◌, any, AllTwo, keep, rest}
use Rattle.lists.specs.Tests.{tested, never, or_false_iff}
use Rattle.lists.specs.ListLaws.{keep_member}
use Rattle.lists.specs.KeepLaws.{keep_all}

module _ {A : Type 0} where
  -- a weaker test keeps no fewer
  keep_weaker : (p q : A → Bool) → ((x : A) → p x ≡ true → q x ≡ true) → (l : List A) → length (keep p l) ≤ length (keep q l)
  keep_weaker p q w [] = omega arith
  keep_weaker p q w (x ∷ l) = let i = keep_weaker p q w l in elim (tested (p x)) [
    | inl e ↦ rw (e, w x e) (omega arith)
    | inr e ↦ elim (tested (q x)) [
      | inl f ↦ rw (e, f) (omega arith)
      | inr f ↦ rw (e, f) (omega arith)
    ]
  ]

  -- and keeps more where an element passes it alone
  pub keep_fewer : (p q : A → Bool) → ((x : A) → p x ≡ true → q x ≡ true) → (l : List A) {x : A} → x ∈ l → p x ≡ false → q x ≡ true
      → length (keep p l) < length (keep q l)
  keep_fewer p q w [] m f t = elim m [ ]
  keep_fewer p q w (y ∷ l) {x} (here s) f t =
      let i = keep_weaker p q w l in
      let f : p y ≡ false = rw s at f in
      let t : q y ≡ true = rw s at t in
      rw (f, t) (omega arith)
  keep_fewer p q w (y ∷ l) (there m) f t = let i = keep_fewer p q w l m f t in elim (tested (p y)) [
    | inl e ↦ rw (e, w y e) (omega arith)
    | inr e ↦ elim (tested (q y)) [
      | inl g ↦ rw (e, g) (omega arith)
      | inr g ↦ rw (e, g) (omega arith)
    ]
  ]

  pub keep_length : (p : A → Bool) (l : List A) → length (keep p l) ≤ length l
  keep_length p l = rw (keep_all (λ _. true) l (λ _ _. refl)) at (keep_weaker p (λ _. true) (λ _ _. refl) l)

  -- an element that does not pass is missing
  pub keep_shorter : (p : A → Bool) (l : List A) {x : A} → x ∈ l → p x ≡ false → length (keep p l) < length l
  keep_shorter p l i f = rw (keep_all (λ _. true) l (λ _ _. refl)) at (keep_fewer p (λ _. true) (λ _ _. refl) l i f refl)

  pub two_keep : (R : A → A → Type 0) (p : A → Bool) (l : List A) → AllTwo R l → AllTwo R (keep p l)
  two_keep R p [] r = tt
  two_keep R p (x ∷ l) r = elim (tested (p x)) [
    | inl e ↦ rw e ((λ y m. r.0 y (keep_member p l m).0), two_keep R p l r.1)
    | inr e ↦ rw e (two_keep R p l r.1)
  ]

  pub two_map : (R S : A → A → Type 0) (f : A → A) → ((x y : A) → R x y → S (f x) (f y)) → (l : List A) → AllTwo R l → AllTwo S (map f l)
  two_map R S f w [] r = tt
  two_map R S f w (x ∷ l) r =
      ((λ y m. let o = Memᴰ.of_map f l m in rw (← o.2) (w x o.0 (r.0 o.0 o.1))), two_map R S f w l r.1)

  -- a test that no element passes is passed by none of those kept, nor by the changed ones where it does not see the change
  any_keep : (p q : A → Bool) (l : List A) → any p l ≡ false → any p (keep q l) ≡ false
  any_keep p q [] h = refl
  any_keep p q (x ∷ l) h = elim (tested (p x)) [
    | inl e ↦ never true refl (rw e at h)
    | inr e ↦ elim (tested (q x)) [
      | inl f ↦ rw (f, e, any_keep p q l (rw e at h))
      | inr f ↦ rw (f, any_keep p q l (rw e at h))
    ]
  ]

  pub any_map : (p : A → Bool) (f : A → A) → ((x : A) → p (f x) ≡ p x) → (l : List A) → any p (map f l) ≡ any p l
  any_map p f s [] = refl
  any_map p f s (x ∷ l) = rw (s x, any_map p f s l)

  any_rest : (p : A → Bool) (l : List A) → any p l ≡ false → any p (rest l) ≡ false
  any_rest p [] h = h
  any_rest p (x ∷ l) h = ((or_false_iff (p x) (any p l)).0 h).1

  pub any_rest_keep : (p q : A → Bool) (l : List A) → any p (rest l) ≡ false → any p (rest (keep q l)) ≡ false
  any_rest_keep p q [] h = h
  any_rest_keep p q (x ∷ l) h = elim (tested (q x)) [
    | inl e ↦ rw e (any_keep p q l h)
    | inr e ↦ rw e (any_rest p (keep q l) (any_keep p q l h))
  ]
