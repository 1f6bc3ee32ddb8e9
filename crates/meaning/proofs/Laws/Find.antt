-- Call 7: the answer is a listed store that holds the address, no listed store that holds it is deeper, and the steps told are its depth. Assumes nothing.
use mathlib.Core.List.Memᴰ.{head as here}
use mathlib.Core.List.Memᴰ.{tail as there}
use Rattle.std.specs.Prelude.{List, [], ◌∷◌, ◌⊎◌, ◌≡◌, refl, ℕ, ◌≤◌, ltb}
use Rattle.std.proofs.Common.{inl, inr, ◌∙◌, ap, arith, ltb-true, ltb-false}
use Rattle.std.proofs.Math.Logic.{⊎_elim}
use Rattle.std.proofs.Math.Path.{sym}
use Rattle.lists.specs.Lists.{◌∈◌, keep}
use Rattle.lists.specs.Tests.{tested, reflect}
use Rattle.lists.specs.ListLaws.{keep_member, member_keep}
use Rattle.lists.specs.KeyedLaws.{member_has, at_member}
use Rattle.meaning.specs.Model.{Store, Model, Bytes, ◌holds◌, whole, store_name, no_such_store, store_of, root_of}
use Rattle.meaning.specs.Nesting.{depth, deeper, deepest, store_holding}
use Rattle.meaning.specs.Facts.{◌Holds◌, Sound}
use Rattle.meaning.specs.Calls.{find, checks, change, all_checks, step}
use Rattle.meaning.proofs.Laws.Agree.{holds_iff}
use Rattle.meaning.proofs.Laws.Step.{accepted_exact, accepted_sound, step_accepted}
use Rattle.meaning.specs.Laws.Find.{RightStore}
use Rattle.meaning.proofs.Laws.Nested.{named, root_listed, depth_agrees}

module _ (ss : List Store) where
  deeper_most : (x y : ℕ) → (depth ss x ≤ depth ss (deeper ss x y)) × (depth ss y ≤ depth ss (deeper ss x y))
  deeper_most x y = elim (tested (ltb (depth ss x) (depth ss y))) [
    | inl e ↦ rw e (omega (arith, ltb-true))
    | inr e ↦ rw e (omega (arith, ltb-false))
  ]

  deeper_one : (x y : ℕ) → (deeper ss x y ≡ x) ⊎ (deeper ss x y ≡ y)
  deeper_one x y = elim (tested (ltb (depth ss x) (depth ss y))) [
    | inl e ↦ inr (rw e)
    | inr e ↦ inl (rw e)
  ]

  deepest_first : (x : ℕ) (l : List Store) → depth ss x ≤ depth ss (deepest ss x l)
  deepest_first x [] = omega arith
  deepest_first x (s ∷ l) = let a = deeper_most x s.start in let b = deepest_first (deeper ss x s.start) l in omega arith

  deepest_most : (x : ℕ) (l : List Store) {s : Store} → s ∈ l → depth ss s.start ≤ depth ss (deepest ss x l)
  deepest_most x [] m = elim m [ ]
  deepest_most x (t ∷ l) (here q) =
      let a = deeper_most x t.start in
      let b = deepest_first (deeper ss x t.start) l in
      omega (arith, ap (λ u. depth ss u.start) q)
  deepest_most x (t ∷ l) (there i) = deepest_most (deeper ss x t.start) l i

  deepest_one : (x : ℕ) (l : List Store) → (deepest ss x l ≡ x) ⊎ ((s : Store) × (s ∈ l) × (s.start ≡ deepest ss x l))
  deepest_one x [] = inl refl
  deepest_one x (s ∷ l) = ⊎_elim
      (λ e. ⊎_elim (λ d. inl (e ∙ d)) (λ d. inr (s, here refl, sym (e ∙ d))) (deeper_one x s.start))
      (λ r. inr (r.0, there r.1, r.2))
      (deepest_one (deeper ss x s.start) l)

-- the root's total holds an address that is accepted
root_covers : (m : Model) (bs : Bytes) (a : ℕ) → (step m bs (find a)).report ≡ 0 → whole (store_of m.stores (root_of m.stores)) Holds a
unfolding all_checks checks
root_covers m bs a h = let f = simp (reflect, holds_iff) at ((accepted_exact m bs (find a)).0 h) in f.1.0

module _ (m : Model) (bs : Bytes) (a : ℕ) (ok : (step m bs (find a)).report ≡ 0) where
  abbrev ss : List Store
  ss = m.stores

  is_sound : Sound m
  is_sound = accepted_sound m bs (find a) (omega arith) ok

  -- a listed store that the answer names and that holds the address
  holder : (s : Store) × (s ∈ ss) × (s.start ≡ store_holding ss a) × (whole s Holds a)
  unfolding store_holding
  holder = ⊎_elim
      (λ e.
      let r = root_of ss in
      (store_of ss r, at_member store_name no_such_store ss r (root_listed m is_sound), named ss r ∙ sym e, root_covers m bs a ok))
      (λ r. let k = keep_member (λ s. whole s holds a) ss r.1 in (r.0, k.0, r.2, (holds_iff (whole r.0) a).0 k.1))
      (deepest_one ss (root_of ss) (keep (λ s. whole s holds a) ss))

  right : RightStore ss a (store_holding ss a) (depth ss (store_holding ss a))
  unfolding store_holding
  right =
      let h = holder in
      record {
        store = h.0;
        listed = h.1;
        named = h.2;
        covers = h.3;
        deepest = λ t i c. deepest_most ss (root_of ss) _ (member_keep (λ s. whole s holds a) ss i ((holds_iff (whole t) a).1 c));
        below = (depth_agrees m is_sound _ _).1 (rw (← h.2) (member_has store_name ss h.1), refl);
      }

pub find_right : (m : Model) (bs : Bytes) (a : ℕ) → (step m bs (find a)).report ≡ 0
    → RightStore m.stores a (step m bs (find a)).value (step m bs (find a)).steps
unfolding change
find_right m bs a h = rw (step_accepted m bs (find a) h) (right m bs a h)
