-- How inserting goes together with keeping some elements and with changing each: equal lists. Assumes nothing.
use Rattle.std.specs.Prelude.{Bool, true, false, List, [], ◌∷◌, map, ◌≡◌, refl, ℕ, ltb}
use mathlib.Core.List.Memᴰ.{head as here}
use Rattle.std.proofs.Common.{inl, inr, arith, ltb-true, lt-ltb}
use Rattle.lists.specs.Lists.{◌∈◌, keep}
use Rattle.lists.specs.Keyed.{insert, Rising}
use Rattle.lists.specs.Tests.{tested}
use Rattle.lists.specs.ListLaws.{keep_member}

module _ {A : Type 0} (key : A → ℕ) where
  module _ (f : A → A) (same : (x : A) → key (f x) ≡ key x) where
    pub map_insert : (n : A) (l : List A) → map f (insert key n l) ≡ insert key (f n) (map f l)
    map_insert n [] = refl
    map_insert n (x ∷ l) = elim (tested (ltb (key n) (key x))) [
      | inl e ↦ rw (same n, same x, e)
      | inr e ↦ rw (same n, same x, e, map_insert n l)
    ]

  module _ (p : A → Bool) (n : A) where
    pub keep_insert_out : p n ≡ false → (l : List A) → keep p (insert key n l) ≡ keep p l
    keep_insert_out h [] = rw h
    keep_insert_out h (x ∷ l) = elim (tested (ltb (key n) (key x))) [
      | inl e ↦ rw (e, h)
      | inr e ↦ rw (e, keep_insert_out h l)
    ]

    before_kept : (l : List A) → ((y : A) → y ∈ l → ltb (key n) (key y) ≡ true) → insert key n (keep p l) ≡ n ∷ keep p l
    before_kept l h = front (keep p l) (λ y m. h y (keep_member p l m).0)
      where
        front : (k : List A) → ((y : A) → y ∈ k → ltb (key n) (key y) ≡ true) → insert key n k ≡ n ∷ k
        front [] h = refl
        front (x ∷ k) h = rw (h x (here refl))

    pub keep_insert_in : p n ≡ true → (l : List A) → Rising key l → keep p (insert key n l) ≡ insert key n (keep p l)
    keep_insert_in h [] r = rw h
    keep_insert_in h (x ∷ l) r = elim (tested (ltb (key n) (key x))) [
      | inl e ↦
          let b = ltb-true (key n) (key x) e in
          elim (tested (p x)) [
            | inl f ↦ rw (e, h, f, e)
            | inr f ↦ rw (e, h, f, before_kept l (λ y m. let c = r.0 y m in lt-ltb (key n) (key y) (omega arith)))
          ]
      | inr e ↦ elim (tested (p x)) [
        | inl f ↦ rw (e, f, e, keep_insert_in h l r.1)
        | inr f ↦ rw (e, f, keep_insert_in h l r.1)
      ]
    ]
