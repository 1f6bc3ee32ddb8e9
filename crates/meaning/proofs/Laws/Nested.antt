-- On a sound model nested-in as computed is the relation of document 01, and depth as computed is the number of parent-to-child steps from the root.
-- The laws of the computations hold for any links; soundness is used only to read links as children. Assumes nothing.
use Rattle.std.specs.Prelude.{true, false, List, ◌↔◌, ◌⊎◌, ◌≡◌, refl, ℕ, zero, suc, ◌+◌, ◌<◌, ◌≤◌, ltb, eqb}
use mathlib.Core.List.Memᴰ.{cases_cons}
use mathlib.Core.List.Memᴰ.{head as here}
use mathlib.Core.List.Memᴰ.{tail as there}
use Rattle.std.proofs.Common.{inl, inr, ⊎_elim, sym, ◌∙◌, ap, arith, ltb-true, eqb-true, lt-ltb, le-ltb, eq-eqb}
use Rattle.std.proofs.Math.Path.{subst}
use Rattle.lists.specs.Lists.{◌∈◌, rest}
use Rattle.lists.specs.Tests.{tested, never, and_iff, unless_iff}
use Rattle.lists.specs.KeyedLaws.{has_iff, member_has, at_member, at_key, at_none, member_at}
use Rattle.meaning.specs.Model.{Store, Model, store_name, listed, no_such_store, store_of, root_of}
use Rattle.meaning.specs.Nesting.{Child, Nested, child, in_child, Below, top, under, parent_in, climbs, nested, links, depth}
use Rattle.meaning.specs.Facts.{Sound}

-- ---- links of any kind

-- falling links lead from x up to s
data Up (par : ℕ → ℕ) : ℕ → ℕ → Type 0 where
  one : {x s : ℕ} → par x ≡ s → s < x → Up par x s
  more : {x y s : ℕ} → par x ≡ y → y < x → Up par y s → Up par x s

module _ (par : ℕ → ℕ) where
  climbs_up : (n x s : ℕ) → climbs par n x s ≡ true → Up par x s
  climbs_up zero x s h = never false h refl
  climbs_up (suc n) x s h =
      let b = (and_iff (ltb (par x) x) _).0 h in
      let l = ltb-true (par x) x b.0 in
      elim (tested (eqb (par x) s)) [
        | inl e ↦ let q = eqb-true (par x) s e in one q (omega arith)
        | inr e ↦ more refl l (climbs_up n (par x) s (rw e at b.1))
      ]

  up_climbs : (n : ℕ) {x s : ℕ} → x ≤ n → Up par x s → climbs par n x s ≡ true
  up_climbs zero k (one e l) = absurd (omega arith)
  up_climbs zero k (more e l u) = absurd (omega arith)
  up_climbs (suc n) {x} {s} k (one e l) = rw (lt-ltb (par x) x (omega arith), eq-eqb (par x) s e)
  up_climbs (suc n) {x} {s} k (more {y = y} e l u) =
      rw (lt-ltb (par x) x (omega arith), e) ((unless_iff (eqb y s) _).1 (λ _. up_climbs n (omega arith) u))

  up_end : {x y s : ℕ} → Up par x y → par y ≡ s → s < y → Up par x s
  up_end (one e l) q k = more e l (one q k)
  up_end (more e l u) q k = more e l (up_end u q k)

  -- more than enough changes nothing
  links_enough : (n k x : ℕ) → x ≤ n → x ≤ k → links par n x ≡ links par k x
  links_enough zero zero x a b = refl
  links_enough zero (suc k) x a b = rw (le-ltb (par x) x (omega arith))
  links_enough (suc n) zero x a b = rw (le-ltb (par x) x (omega arith))
  links_enough (suc n) (suc k) x a b = elim (tested (ltb (par x) x)) [
    | inl e ↦ let l = ltb-true (par x) x e in rw e (ap suc (links_enough n k (par x) (omega arith) (omega arith)))
    | inr e ↦ rw e
  ]

  pub links_top : (x : ℕ) → x ≤ par x → links par x x ≡ 0
  links_top zero h = refl
  links_top (suc n) h = rw (le-ltb (par (suc n)) (suc n) h)

  pub links_up : (x : ℕ) → par x < x → links par x x ≡ links par (par x) (par x) + 1
  links_up zero h = absurd (omega arith)
  links_up (suc n) h =
      let e = links_enough n (par (suc n)) (par (suc n)) (omega arith) (omega arith) in
      rw (lt-ltb (par (suc n)) (suc n) h) (omega arith)

-- ---- the links of a sound model

-- what is looked up by a name has it
pub named : (ss : List Store) (k : ℕ) → (store_of ss k).start ≡ k
named ss k = at_key store_name no_such_store (λ x. refl) ss k

module _ (m : Model) (sound : Sound m) where
  abbrev ss : List Store
  ss = m.stores

  in_rest : {c : Store} → c ∈ rest ss → c ∈ ss
  in_rest i = rw sound.rule2.first (there i)

  in_stores : {c : Store} → c ∈ ss → (c ≡ sound.rule2.root) ⊎ (c ∈ rest ss)
  in_stores {c} i = cases_cons (subst (λ l. c ∈ l) sound.rule2.first i)

  -- a listed store is the root, which is its own parent, or one of the others
  pub root_or_other : {x : ℕ} → listed ss x ≡ true → ((x ≡ root_of ss) × (parent_in ss x ≡ x)) ⊎ (store_of ss x ∈ rest ss)
  root_or_other {x} h =
      let i : store_of ss x ∈ ss = at_member store_name no_such_store ss x h in
      ⊎_elim
      (λ e. inl (sym (named ss x) ∙ ap (λ s. s.start) e ∙ ap root_of (sym sound.rule2.first), ap (λ s. s.parent) e ∙ sound.rule2.itself ∙ sym (ap (λ s. s.start) e) ∙ named ss x))
      (λ r. inr r)
      (in_stores i)

  -- a child is a falling link
  pub child_link : {x s : ℕ} → Child ss x s → (parent_in ss x ≡ s) × (s < x)
  child_link {x} {s} h =
      let c = h.0 in
      let found : store_of ss c.start ≡ c = member_at store_name no_such_store ss sound.rule3.rises (in_rest h.1) in
      let low = (sound.rule3.others c h.1).lower in
      (ap (λ k. parent_in ss k) (sym h.2) ∙ ap (λ s. s.parent) found ∙ h.3, omega (arith, h.2, h.3))

  -- a falling link is a child
  pub link_child : {x s : ℕ} → parent_in ss x ≡ s → s < x → Child ss x s
  link_child {x} {s} e l = elim (tested (listed ss x)) [
    | inl h ↦ ⊎_elim (λ r. absurd (omega (arith, r.1))) (λ i. (store_of ss x, i, named ss x, e)) (root_or_other h)
    | inr h ↦ let n = ap (λ s. s.parent) (at_none store_name no_such_store ss x h) in absurd (omega (arith, n))
  ]

  -- ---- nested in

  below_child : {x y s : ℕ} → Child ss x y → Nested ss y s → Nested ss x s
  below_child c (child d) = in_child d (child c)
  below_child c (in_child d n) = in_child d (below_child c n)

  up_nested : {x s : ℕ} → Up (parent_in ss) x s → Nested ss x s
  up_nested (one e l) = child (link_child e l)
  up_nested (more e l u) = below_child (link_child e l) (up_nested u)

  nested_up : {x s : ℕ} → Nested ss x s → Up (parent_in ss) x s
  nested_up (child c) = let k = child_link c in one k.0 k.1
  nested_up (in_child c n) = let k = child_link c in up_end (parent_in ss) (nested_up n) k.0 k.1

  pub nested_agrees : (x s : ℕ) → (nested ss x s ≡ true) ↔ Nested ss x s
  unfolding nested
  nested_agrees x s =
      (λ h. up_nested (climbs_up (parent_in ss) x x s h), λ n. up_climbs (parent_in ss) x (omega arith) (nested_up n))

  -- ---- depth

  root_first : sound.rule2.root ∈ ss
  root_first = rw sound.rule2.first (here refl)

  root_name : root_of ss ≡ sound.rule2.root.start
  root_name = ap root_of sound.rule2.first

  pub root_listed : listed ss (root_of ss) ≡ true
  root_listed = rw root_name (member_has store_name ss root_first)

  pub root_own_parent : parent_in ss (root_of ss) ≡ root_of ss
  root_own_parent =
      ap (parent_in ss) root_name ∙ ap (λ s. s.parent) (member_at store_name no_such_store ss sound.rule3.rises root_first)
      ∙ sound.rule2.itself ∙ sym root_name

  below_top : {x : ℕ} → (x ≡ root_of ss) × (parent_in ss x ≡ x) → Below ss x (links (parent_in ss) x x)
  below_top {x} r = top r.0 (links_top (parent_in ss) x (omega (arith, r.1)))

  below_depth : (n x : ℕ) → x ≤ n → listed ss x ≡ true → Below ss x (links (parent_in ss) x x)
  below_depth zero x k h =
      ⊎_elim (λ r. below_top r) (λ i. let l = (sound.rule3.others (store_of ss x) i).lower in absurd (omega (arith, named ss x))) (root_or_other h)
  below_depth (suc n) x k h = ⊎_elim (λ r. below_top r)
      (λ i.
      let hangs = sound.rule3.others (store_of ss x) i in
      let l : parent_in ss x < x = omega (arith, hangs.lower, named ss x) in
      under (store_of ss x, i, named ss x, refl) (below_depth n (parent_in ss x) (omega arith) ((has_iff store_name ss (parent_in ss x)).1 hangs.listed)) (links_up (parent_in ss) x l))
      (root_or_other h)

  below_counts : {x n : ℕ} → Below ss x n → (listed ss x ≡ true) × (links (parent_in ss) x x ≡ n)
  below_counts {x} {n} (top e z) =
      let own = ap (parent_in ss) e ∙ root_own_parent in
      (rw e root_listed, links_top (parent_in ss) x (omega arith) ∙ sym z)
  below_counts {x} {n} (under {y = y} {k = k} c b q) =
      let l = child_link c in
      let i = below_counts b in
      let u = links_up (parent_in ss) x (omega arith) in
      (rw (← c.2) (member_has store_name ss (in_rest c.1)), omega (arith, u, i.1, ap (λ p. links (parent_in ss) p p) l.0))

  pub depth_agrees : (x n : ℕ) → Below ss x n ↔ ((listed ss x ≡ true) × (depth ss x ≡ n))
  unfolding depth
  depth_agrees x n = (below_counts, λ h. subst (Below ss x) h.1 (below_depth x x (omega arith) h.0))
