-- The first place at which a test holds, and looking up by key through it. Assumes nothing.
use Rattle.std.specs.Prelude.{Bool, ◌≡◌, ltb, length, take, drop, get_or, unwrap_or, option_map, Option, None, Some, if◌then◌else◌}
use Rattle.std.specs.List.{find}
use mathlib.Core.List.{List, [], ◌∷◌, ◌++◌}
use Rattle.std.proofs.Math.Logic.{inl, inr}
use Rattle.std.proofs.Math.Path.{refl, sym}
use Rattle.std.proofs.Common.{◌∙◌, ap, lt-ltb}
use Prim.Native.Nat.{ℕ, suc, ◌≤◌, ◌<◌}
use native.Mathlib.Omega.{arith}
use Rattle.std.proofs.Math.Dec.{eqb, leb-suc-suc}
use Rattle.lists.specs.Keyed.{has, at, insert}
use Rattle.lists.specs.Tests.{tested}
use Rattle.lines.specs.Shape.{Shape}

module _ {A : Type 0} (p : A → Bool) where
  -- how many elements stand before the first that passes the test; all of them where none does
  unfoldable pub place : List A → ℕ
  place [] = 0
  place (x ∷ l) = if p x then 0 else suc (place l)

  pub place_most : (l : List A) → place l ≤ length l
  unfolding place
  place_most [] = omega arith
  place_most (x ∷ l) = elim (tested (p x)) [
    | inl e ↦ rw e (omega arith)
    | inr e ↦ let h = place_most l in rw e (omega arith)
  ]

-- ---- looking up by key

module _ {A : Type 0} (key : A → ℕ) where
  -- the place of a key is inside the list exactly where the list has it, and there it is found
  pub has_place : (l : List A) (k : ℕ) → has key l k ≡ ltb (place (λ x. eqb (key x) k) l) (length l)
  unfolding place
  has_place [] k = refl
  has_place (x ∷ l) k = elim (tested (eqb (key x) k)) [
    | inl e ↦ rw e (sym (lt-ltb 0 (suc (length l)) (omega arith)))
    | inr e ↦ rw e (has_place l k ∙ sym (leb-suc-suc (suc (place (λ x. eqb (key x) k) l)) (length l)))
  ]

  pub at_place : (none : ℕ → A) (l : List A) (k : ℕ) (d : A) → place (λ x. eqb (key x) k) l < length l → at key none l k ≡ get_or l (place (λ x. eqb (key x) k) l) d
  unfolding place
  at_place none [] k d h = absurd (omega arith)
  at_place none (x ∷ l) k d h = elim (tested (eqb (key x) k)) [
    | inl e ↦ rw e
    | inr e ↦ let g = rw e at h in rw e (at_place none l k d (omega arith))
  ]

  -- insertion is at the place of the first higher key
  pub insert_place : (n : A) (l : List A) → let r = place (λ x. ltb (key n) (key x)) l in insert key n l ≡ take r l ++ n ∷ drop r l
  unfolding place
  insert_place n [] = refl
  insert_place n (x ∷ l) = elim (tested (ltb (key n) (key x))) [
    | inl e ↦ rw e
    | inr e ↦ rw e (ap (λ t. x ∷ t) (insert_place n l))
  ]

  -- what is found by a key, and what there is where nothing is
  pub at_find : (none : ℕ → A) (l : List A) (k : ℕ) → at key none l k ≡ unwrap_or (find (λ x. eqb (key x) k) l) (none k)
  at_find none [] k = refl
  at_find none (x ∷ l) k = elim (tested (eqb (key x) k)) [
    | inl e ↦ rw e
    | inr e ↦ rw e (at_find none l k)
  ]

module _ {A B : Type 0} (σ : Shape A B) (key : B → ℕ) (none : ℕ → B) where
  or_back : (o : Option A) (a : A) (b : B) → a ≡ σ.back b → unwrap_or o a ≡ σ.back (unwrap_or (option_map σ.view o) b)
  or_back None a b e = e
  or_back (Some x) a b e = sym (σ.back_view x)

  -- the line that is found, or another where none is
  pub line_found : (l : List B) (k : ℕ) (o : Option A) (a : A) → option_map σ.view o ≡ find (λ x. eqb (key x) k) l → a ≡ σ.back (none k)
      → unwrap_or o a ≡ σ.back (at key none l k)
  line_found l k o a f e = or_back o a (none k) e ∙ ap (λ p. σ.back (unwrap_or p (none k))) f ∙ ap σ.back (sym (at_find key none l k))
