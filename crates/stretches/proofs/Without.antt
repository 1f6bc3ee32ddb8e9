-- The model without what is in S: every store nested in S gone, S's used 0, and every context nested in S moved to S. It is sound where the model is, and
-- where S is empty it is the model. Assumes nothing.
use Rattle.std.specs.Prelude.{true, false, List, map, ◌≡◌, refl, ℕ, eqb}
use mathlib.Core.List.Memᴰ
use Rattle.std.proofs.Common.{inl, inr, sym, ◌∙◌, ap, ap₂, arith, eqb-true}
use Rattle.lists.specs.Lists.{◌∈◌}
use Rattle.lists.specs.Keyed.{has}
use Rattle.lists.specs.Tests.{tested, never, false_of}
use Rattle.lists.specs.ListLaws.{any_member}
use Rattle.lists.specs.KeyedLaws.{has_iff, member_at}
use Rattle.lists.specs.KeyedChanges.{at_map, rising_map}
use Rattle.lists.specs.KeepLaws.{map_agree, map_none, keep_all}
use Rattle.meaning.specs.Model.{Store, Thread, Model, store_name, thread_name, no_such_store, no_such_thread, context_in}
use Rattle.meaning.specs.Nesting.{nested}
use Rattle.meaning.specs.Reports.{in_use}
use Rattle.meaning.specs.Facts.{Sound}
use Rattle.meaning.specs.Changes.{line_with_used, cleared, with_stores, with_threads}
use Rattle.meaning.proofs.Laws.Nested.{nested_agrees}
use Rattle.laws.specs.ByName.{Listed, used_in, by_name}
use Rattle.laws.specs.Frames.{sound_with_threads}
use Rattle.laws.specs.Geometry.{nested_inside}
use Rattle.laws.specs.Nesting.{inner_listed}
use Rattle.laws.specs.StoreCalls.{clear_sound}
use Rattle.stretches.specs.Stretch.{instead}
use Rattle.stretches.proofs.Cleared.{not_in_itself}
use Rattle.stretches.specs.Without.{move_line, moved_threads, without}

-- ---- equal models

pub remade : (m : Model) (ss after : List Store) (ts moved : List Thread) → ss ≡ after → ts ≡ moved
    → with_stores (with_threads m ts) ss ≡ with_stores (with_threads m moved) after
remade m ss after ts moved p q = ap₂ (λ ts ss. with_stores (with_threads m ts) ss) q p

-- contexts are moved alike where nested in S means the same of them
pub moved_alike : (S : ℕ) (ss after : List Store) (ts : List Thread) → ((t : Thread) → t ∈ ts → nested after t.context S ≡ nested ss t.context S)
    → moved_threads S after ts ≡ moved_threads S ss ts
moved_alike S ss after ts h = map_agree (move_line S after) (move_line S ss) ts (λ t i. rw (h t i))

-- ---- contexts

pub instead_out : (S : ℕ) (ss : List Store) (s : ℕ) → nested ss s S ≡ false → instead S ss s ≡ s
instead_out S ss s out = rw out

pub moved_context : (S : ℕ) (ss : List Store) (ts : List Thread) (t : ℕ) → has thread_name ts t ≡ true
    → context_in (moved_threads S ss ts) t ≡ instead S ss (context_in ts t)
moved_context S ss ts t h = ap (λ x. x.context) (at_map thread_name (move_line S ss) (λ x. refl) no_such_thread ts t h)

-- ---- of a sound model

module _ (S : ℕ) (m : Model) (sound : Sound m) (there : Listed m.stores S) where
  abbrev ss : List Store
  ss = m.stores

  -- what stands instead of a store is not nested in S, and is listed if the store is
  pub instead_not_nested : (s : ℕ) → nested ss (instead S ss s) S ≡ false
  instead_not_nested s = elim (tested (nested ss s S)) [
    | inl e ↦ rw e (not_in_itself m sound S there)
    | inr e ↦ rw (e, e)
  ]

  pub instead_listed : (s : ℕ) → Listed ss s → Listed ss (instead S ss s)
  instead_listed s h = elim (tested (nested ss s S)) [
    | inl e ↦ rw e there
    | inr e ↦ rw e h
  ]

  abbrev placed : Model
  placed = with_threads m (moved_threads S ss m.threads)

  placed_sound : Sound placed
  placed_sound =
      sound_with_threads m sound (moved_threads S ss m.threads)
      (record {
        rises = rising_map thread_name (move_line S ss) (λ x. refl) m.threads sound.rule5.rises;
        placed = λ y i. let o = Memᴰ.of_map (move_line S ss) m.threads i in
            rw (← o.2) ((has_iff store_name ss _).0 (instead_listed o.0.context ((has_iff store_name ss o.0.context).1 (sound.rule5.placed o.0 o.1))));
      })

  no_context_nested : in_use placed S ≡ false
  no_context_nested =
      false_of _
      (λ h.
      let r = any_member (λ t. nested ss t.context S) (moved_threads S ss m.threads) h in
      let o = Memᴰ.of_map (move_line S ss) m.threads r.1 in
      never _ r.2 (ap (λ t. nested ss t.context S) (sym o.2) ∙ instead_not_nested o.0.context))

  pub without_sound : Sound (without S m)
  without_sound = clear_sound placed placed_sound S there no_context_nested

  -- ---- where S is empty

  module _ (empty : used_in ss S ≡ 0) where
    none_nested : (x : ℕ) → nested ss x S ≡ false
    none_nested x =
        false_of _
        (λ e.
        let n = (nested_agrees m sound x S).0 e in
        let i = nested_inside m sound n in
        let f = (by_name m sound).fits x (inner_listed m sound n) in
        absurd (omega arith))

    used_already : (s : Store) → s ∈ ss → line_with_used S 0 s ≡ s
    used_already s i = elim (tested (eqb s.start S)) [
      | inl e ↦
          let u : s.used ≡ 0 =
          sym (ap (λ x. x.used) (member_at store_name no_such_store ss sound.rule3.rises i)) ∙ ap (used_in ss) (eqb-true s.start S e) ∙ empty in
          rw (e, ← u)
      | inr e ↦ rw e
    ]

    pub without_empty : without S m ≡ m
    without_empty =
        remade m (cleared S ss) ss (moved_threads S ss m.threads) m.threads
        (ap (map (line_with_used S 0)) (keep_all _ ss (λ s i. rw (none_nested s.start))) ∙ map_none (line_with_used S 0) ss used_already)
        (map_none (move_line S ss) m.threads (λ t i. rw (none_nested t.context)))
