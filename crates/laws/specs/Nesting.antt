-- Nested in: transitive, never of itself, always in a store of a lower start; and every store but the root is nested in the root. Assumes nothing.
use Rattle.std.specs.Prelude.{false, List, ◌⊎◌, ◌≡◌, refl, ℕ, zero, suc, ◌<◌, ◌≤◌}
use mathlib.Core.List.Memᴰ.{tail as there}
use Rattle.std.proofs.Common.{inl, inr, ⊎_elim, arith}
use Rattle.std.proofs.Math.Decide.{ℕ_discrete}
use Rattle.lists.specs.Tests.{false_of}
use Rattle.lists.specs.KeyedLaws.{has_iff, member_has}
use Rattle.meaning.specs.Model.{Store, Model, store_name, root_of}
use Rattle.meaning.specs.Nesting.{Nested, child, in_child, nested, parent_in}
use Rattle.meaning.specs.Facts.{Sound}
use Rattle.meaning.proofs.Laws.Nested.{child_link, link_child, nested_agrees}
use Rattle.laws.specs.ByName.{Listed, ByName, root_start, by_name}

pub nested_transitive : (ss : List Store) {x y s : ℕ} → Nested ss x y → Nested ss y s → Nested ss x s
nested_transitive ss n (child c) = in_child c n
nested_transitive ss n (in_child c k) = in_child c (nested_transitive ss n k)

module _ (m : Model) (sound : Sound m) where
  abbrev ss : List Store
  ss = m.stores

  abbrev by : ByName m.store_area ss
  by = by_name m sound

  pub nested_below : {x s : ℕ} → Nested ss x s → s < x
  nested_below (child c) = (child_link m sound c).1
  nested_below (in_child c n) = let a = (child_link m sound c).1 in let b = nested_below n in omega arith

  pub never_in_itself : {x : ℕ} → Nested ss x x → ⊥
  never_in_itself n = let l = nested_below n in omega arith

  -- where it is not so, the test is false
  pub not_nested : {x s : ℕ} → (Nested ss x s → ⊥) → nested ss x s ≡ false
  not_nested {x} {s} out = false_of _ (λ e. out ((nested_agrees m sound x s).0 e))

  -- what is nested in s is a child of s, or its parent is nested in s
  pub parent_of_nested : {x s : ℕ} → Nested ss x s → (parent_in ss x ≡ s) ⊎ Nested ss (parent_in ss x) s
  parent_of_nested (child c) = inl (child_link m sound c).0
  parent_of_nested (in_child c n) = inr (⊎_elim (λ e. rw e (child c)) (λ k. in_child c k) (parent_of_nested n))

  -- what is nested, and what it is nested in, is listed
  pub inner_listed : {x s : ℕ} → Nested ss x s → Listed ss x
  inner_listed (child c) = rw (← c.2) (member_has store_name ss {x = c.0} (rw sound.rule2.first (there c.1)))
  inner_listed (in_child c n) = inner_listed n

  pub outer_listed : {x s : ℕ} → Nested ss x s → Listed ss s
  outer_listed (child c) = (has_iff store_name ss _).1 (rw c.3 at (sound.rule3.others c.0 c.1).listed)
  outer_listed (in_child c n) = (has_iff store_name ss _).1 (rw c.3 at (sound.rule3.others c.0 c.1).listed)

  nested_in_root : (n x : ℕ) → x ≤ n → Listed ss x → m.store_area.start < x → Nested ss x m.store_area.start
  nested_in_root zero x k h l = absurd (omega arith)
  nested_in_root (suc n) x k h l =
      let g = by.others x h l in
      let c = link_child m sound {x = x} refl (omega arith) in
      let low = by.lowest (parent_in ss x) g.parent in
      elim (ℕ_discrete (parent_in ss x) m.store_area.start) [
        | yes e ↦ child (rw e at c)
        | no d ↦ nested_transitive ss (child c) (nested_in_root n (parent_in ss x) (omega arith) g.parent (omega arith))
      ]

  -- every listed store but the root is nested in the root
  pub others_in_root : (x : ℕ) → Listed ss x → (x ≡ root_of ss → ⊥) → Nested ss x (root_of ss)
  others_in_root x h d =
      let e = root_start m sound in
      let low = by.lowest x h in
      rw e (nested_in_root x x (omega arith) h (omega arith))
