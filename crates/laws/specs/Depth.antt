-- Depth: one more than the parent's, below the number of stores, and more than that of every store it is nested in; so an address has one deepest holder, and
-- call 7 answers it. Assumes nothing.
use Rattle.std.specs.Prelude.{List, ◌≡◌, refl, ℕ, zero, suc, ◌+◌, ◌<◌, ◌≤◌, ltb, length}
use Rattle.std.proofs.Common.{⊎_elim, ◌∙◌, ltb-true, lt-ltb, le-ltb}
use Rattle.std.proofs.Math.Path.{ap}
use Rattle.std.proofs.Math.Decide.{ℕ_discrete, dec_lt}
use native.Mathlib.Omega.{arith}
use Rattle.lists.specs.Lists.{keep}
use Rattle.lists.specs.KeyedLaws.{member_has, at_member, member_at}
use Rattle.lists.specs.ListChanges.{keep_fewer, keep_shorter}
use Rattle.meaning.specs.Model.{Store, Model, Bytes, whole, store_name, no_such_store, store_of}
use Rattle.meaning.specs.Nesting.{Child, Nested, child, in_child, parent_in, depth}
use Rattle.meaning.specs.Facts.{◌Holds◌, Sound}
use Rattle.meaning.specs.Calls.{find, step}
use Rattle.meaning.proofs.Laws.Nested.{links_top, links_up, named, child_link, link_child}
use Rattle.meaning.proofs.Laws.Step.{accepted_sound}
use Rattle.meaning.proofs.Laws.Find.{find_right}
use Rattle.laws.specs.ByName.{Listed, ByName, by_name}
use Rattle.laws.specs.Geometry.{holders_nested}

module _ (m : Model) (sound : Sound m) where
  abbrev ss : List Store
  ss = m.stores

  abbrev by : ByName m.store_area ss
  by = by_name m sound

  pub child_depth : {x s : ℕ} → Child ss x s → depth ss x ≡ depth ss s + 1
  unfolding depth
  child_depth {x} {s} c =
      let k = child_link m sound c in
      let u = links_up (parent_in ss) x (omega arith) in
      rw k.0 at u

  -- what is nested is deeper
  nested_deeper : {x s : ℕ} → Nested ss x s → depth ss s < depth ss x
  nested_deeper (child c) = let e = child_depth c in omega arith
  nested_deeper (in_child c n) = let e = child_depth c in let d = nested_deeper n in omega arith

  -- the stores of a lower start
  abbrev lower : ℕ → List Store
  lower x = keep (λ s. ltb s.start x) ss

  -- no listed store but the root starts so low
  root_depth : (x : ℕ) → Listed ss x → x ≤ m.store_area.start → depth ss x ≡ 0
  unfolding depth
  root_depth x h l =
      let low = by.lowest x h in
      let q : x ≡ m.store_area.start = omega arith in
      links_top (parent_in ss) x (omega (arith, by.itself, ap (parent_in ss) q))

  -- each step up leaves one of them behind
  depth_lower : (n x : ℕ) → x ≤ n → Listed ss x → depth ss x ≤ length (lower x)
  depth_lower zero x k h = omega (arith, root_depth x h (omega arith))
  depth_lower (suc n) x k h = elim (dec_lt m.store_area.start x) [
    | yes l ↦
        let g = by.others x h l in
        let p = parent_in ss x in
        let i = depth_lower n p (omega arith) g.parent in
        let e = child_depth (link_child m sound {x = x} refl (omega arith)) in
        let q = named ss p in
        let f = keep_fewer (λ s. ltb s.start p) (λ s. ltb s.start x) (λ s t. lt-ltb s.start x (omega (arith, ltb-true))) ss
        (at_member store_name no_such_store ss p g.parent) (le-ltb (store_of ss p).start p (omega arith)) (lt-ltb (store_of ss p).start x (omega arith)) in
        omega arith
    | no l ↦ omega (arith, root_depth x h (omega arith))
  ]

  -- the depth is below the number of stores
  pub depth_below_count : (x : ℕ) → Listed ss x → depth ss x < length ss
  depth_below_count x h =
      let d = depth_lower x x (omega arith) h in
      let e = named ss x in
      let f = keep_shorter (λ s. ltb s.start x) ss (at_member store_name no_such_store ss x h) (le-ltb (store_of ss x).start x (omega arith)) in
      omega arith

  -- Two listed stores that hold one address and are equally deep are one: an address has one deepest holder.
  pub deepest_is_one : (a b x : ℕ) → Listed ss a → Listed ss b → whole (store_of ss a) Holds x → whole (store_of ss b) Holds x → depth ss a ≡ depth ss b → a ≡ b
  deepest_is_one a b x h i j k e = elim (ℕ_discrete a b) [
    | yes q ↦ q
    | no d ↦ ⊎_elim (λ n. let l = nested_deeper n in absurd (omega arith)) (λ n. let l = nested_deeper n in absurd (omega arith))
        (holders_nested m sound a b x h i d j k)
  ]

-- The answer of call 7 is nested in every other listed store that holds the address, so it is the only deepest one.
pub find_deepest : (m : Model) (bs : Bytes) (a : ℕ) → (step m bs (find a)).report ≡ 0 → (s : ℕ) → Listed m.stores s → whole (store_of m.stores s) Holds a
    → (s ≡ (step m bs (find a)).value → ⊥) → Nested m.stores (step m bs (find a)).value s
find_deepest m bs a ok s h c d =
    let sound = accepted_sound m bs (find a) (omega arith) ok in
    let ss = m.stores in
    let r = find_right m bs a ok in
    let x = r.store.start in
    let here : store_of ss x ≡ r.store = member_at store_name no_such_store ss sound.rule3.rises r.listed in
    let line = at_member store_name no_such_store ss s h in
    ⊎_elim
    (λ n. let k = nested_deeper m sound n in let t = r.deepest (store_of ss s) line c in
    absurd (omega (arith, ap (depth ss) (named ss s), ap (depth ss) r.named)))
    (λ n. rw r.named at n)
    (holders_nested m sound s x a h (member_has store_name ss r.listed) (λ e. d (e ∙ r.named)) c (rw here r.covers))
