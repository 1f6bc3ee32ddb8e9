-- Call 10 meets 000's schema for clearing a backing store. Assumes nothing.
use Rattle.std.specs.Prelude.{true, false, List, ◌≡◌, refl, ℕ}
use Rattle.std.proofs.Common.{inl, inr, ⊎_elim, sym, ◌∙◌, ap, arith}
use Rattle.std.proofs.Math.Decide.{dec_lt}
use Rattle.lists.specs.Tests.{never, and_iff, not_iff, not_false_iff}
use Rattle.lists.specs.ListLaws.{any_member, member_any}
use Rattle.lists.specs.KeyedLaws.{member_has, at_member, member_at}
use Rattle.meaning.specs.Model.{Store, Model, Bytes, free_part, thread_name, no_such_thread, store_of, context_in}
use Rattle.meaning.specs.Nesting.{Child, Nested, child, nested}
use Rattle.meaning.specs.Facts.{Sound}
use Rattle.meaning.specs.Reports.{in_use}
use Rattle.meaning.specs.Changes.{cleared, with_stores}
use Rattle.meaning.specs.Calls.{clear, checks, change, all_checks, step}
use Rattle.meaning.proofs.Laws.Nested.{named, child_link, link_child, nested_agrees}
use Rattle.meaning.proofs.Laws.Step.{accepted_exact, step_accepted}
use Rattle.meaning.proofs.Laws.Within.{context_listed}
use Rattle.laws.specs.ByName.{Listed, by_name}
use Rattle.laws.specs.Nesting.{never_in_itself, not_nested, parent_of_nested, inner_listed}
use Rattle.laws.specs.StoreChanges.{Cleared, after_clear}
use Rattle.laws.specs.StoreCalls.{clear_sound}
use Rattle.schemas.specs.Memory.{Finite, picked, ◌⊕◌⟼◌, ◌⩤◌}
use Rattle.schemas.specs.Reports.{MMReport, number, number_names}
use Rattle.schemas.specs.Stores.{SameStore, BSClear}
use Rattle.schemas.specs.Global.{SameStores, reached, GlobalClearBS, GlobalStoreInUse}
use Rattle.schemas.specs.Threads.{RThreadClearBS}
use Rattle.schemas.specs.Reading.{backing_of, stores_of, global_of, listed_finite, store_invariant, plus_nested, nested_plus}
use Rattle.schemas.specs.Steps.{checked, unchecked, told_sound, no_thread_lem, same_store, global_stays}
use Rattle.schemas.specs.StoreSteps.{same_line, stores_change, fixed_vars}

module _ (m : Model) (sound : Sound m) (c : ℕ) (there : Listed m.stores c) (idle : in_use m c ≡ false) where
  abbrev ss : List Store
  ss = m.stores

  abbrev ss' : List Store
  ss' = cleared c ss

  sound' : Sound (with_stores m ss')
  sound' = clear_sound m sound c there idle

  g : Cleared c ss ss'
  g = after_clear c ss

  left_listed : (x : ℕ) → Listed ss x → (Nested ss x c → ⊥) → Listed ss' x
  left_listed x h out = (g.names x).1 (h, not_nested m sound out)

  was_listed : (x : ℕ) → Listed ss' x → Listed ss x × (Nested ss x c → ⊥)
  was_listed x h = let b = (g.names x).0 h in (b.0, λ n. never (nested ss x c) ((nested_agrees m sound x c).1 n) b.1)

  there' : Listed ss' c
  there' = left_listed c there (never_in_itself m sound)

  child_after : (x s : ℕ) → Child ss' x s → Child ss x s × (Nested ss x c → ⊥)
  child_after x s d =
      let l = child_link (with_stores m ss') sound' d in
      let w = was_listed x (inner_listed (with_stores m ss') sound' (child d)) in
      (link_child m sound (sym (g.parents x (not_nested m sound w.1)) ∙ l.0) l.1, w.1)

  child_before : (x s : ℕ) → Child ss x s → (Nested ss x c → ⊥) → Child ss' x s
  child_before x s d out =
      let l = child_link m sound d in
      link_child (with_stores m ss') sound' (g.parents x (not_nested m sound out) ∙ l.0) l.1

  context_clears : BSClear (backing_of ss c) (backing_of ss' c)
  context_clears =
      let i = store_invariant m sound c there in
      let j = store_invariant (with_stores m ss') sound' c there' in
      let f = (by_name m sound).fits c there in
      let p = named ss c in
      let q = named ss' c in
      let t = g.totals c (not_nested m sound (never_in_itself m sound)) in
      let u = g.here there (not_nested m sound (never_in_itself m sound)) in
      record {
        changes = record { before = i; after = j };
        memory =
            record {
              changes = record { before = i.memory; after = j.memory };
              total = λ a. omega arith;
              free = λ a. (
                λ h. elim (dec_lt a (free_part (store_of ss c)).start) [
                  | yes l ↦ inl (omega arith)
                  | no l ↦ inr (omega arith)
                ],
                λ h. ⊎_elim (λ x. omega arith) (λ x. omega arith) h,
              );
              used = λ a. (λ h. omega arith, λ h. absurd h);
            };
        children = λ x. (λ d. let b = child_after x c d in b.1 (child b.0), λ h. absurd h);
        self = q ∙ sym p;
      }

  reached_finite : Finite (reached (global_of m) c)
  reached_finite =
      listed_finite ss (λ x. nested ss x c)
      (λ x. (λ p. let n = plus_nested ss p in (inner_listed m sound n, (nested_agrees m sound x c).1 n), λ h. nested_plus ss ((nested_agrees m sound x c).0 h.1)))

  cleared_stores : SameStores ((reached (global_of m) c ⩤ stores_of ss) ⊕ c ⟼ backing_of ss' c) (stores_of ss')
  cleared_stores = (
    λ x. (
      λ u. ⊎_elim (λ b. left_listed x b.0 (λ n. b.1 (nested_plus ss n))) (λ e. rw e there') u,
      λ h. let w = was_listed x h in inl (w.0, λ p. w.1 (plus_nested ss p)),
    ),
    λ x u. picked (λ b. SameStore b (backing_of ss' x)) x c (λ e. rw e (same_store _))
        (λ d. ⊎_elim
        (λ b. let out : Nested ss x c → ⊥ = λ n. b.1 (nested_plus ss n) in
        same_line ss ss' x (g.totals x (not_nested m sound out)) (ap (λ s. s.used) (g.elsewhere x (not_nested m sound out) d))
        (λ y. (λ e. (child_after y x e).0, λ e. child_before y x e (λ n. ⊎_elim (λ q. d q) out (rw (child_link m sound e).0 at (parent_of_nested m sound n))))))
        (λ e. absurd (d e))
        u),
  )

  clears : GlobalClearBS (global_of m) (global_of (with_stores m ss')) c
  clears =
      record {
        changes = stores_change m sound ss' sound';
        there = there;
        cleared = backing_of ss' c;
        clears = (context_clears, refl);
        finite = reached_finite;
        stores = cleared_stores;
        idle = λ t h p. never (in_use m c)
            (member_any (λ x. nested ss x.context c) m.threads (at_member thread_name no_such_thread m.threads t h) ((nested_agrees m sound _ c).1 (plus_nested ss p)))
            idle;
        fixed = fixed_vars m sound ss' sound';
      }

-- a thread whose context is nested in the store
in_use_lem : {m m' : Model} (c : ℕ) {r : MMReport} → Sound m → m' ≡ m → in_use m c ≡ true → 6 ≡ number r → GlobalStoreInUse (global_of m) (global_of m') c r
in_use_lem {m} c sound e h q =
    let x = any_member (λ t. nested m.stores t.context c) m.threads h in
    let found = ap (λ t. t.context) (member_at thread_name no_such_thread m.threads sound.rule5.rises x.1) in
    record {
      stays = global_stays sound e;
      thread = x.0.identifier;
      known = member_has thread_name m.threads x.1;
      inside = nested_plus m.stores (rw found ((nested_agrees m sound x.0.context c).0 x.2));
      told = number_names q;
    }

pub clear_meets : (m : Model) (bs : Bytes) (t : ℕ) (r : MMReport) → (step m bs (clear t)).report ≡ number r
    → RThreadClearBS (global_of m) (global_of (step m bs (clear t)).model) t r
unfolding checks change all_checks
clear_meets m bs t r h =
    let call = clear t in
    let o = told_sound m bs call r (omega arith) h in
    let c = context_in m.threads t in
    ⊎_elim
    (λ a. let f = simp (and_iff, not_iff, not_false_iff) at ((accepted_exact m bs call).0 a.1) in
    let there = context_listed m o.0 t f.1.0 in
    inl (record {
      ac = c;
      done = inl (rw (step_accepted m bs call a.1) (clears m o.0 c there f.1.1.0), a.0);
      promotes = rw (step_accepted m bs call a.1) (record { changes = stores_change m o.0 _ (sound' m o.0 c there f.1.1.0); known = f.1.0; context = refl });
    }))
    (λ a. ⊎_elim
    (λ x. inr (no_thread_lem o.0 a.0 ((not_iff _).0 x.0) x.1))
    (λ x. ⊎_elim
    (λ y. inl (record {
      ac = c;
      done = inr (inr (in_use_lem c o.0 a.0 y.0 y.1));
      promotes = record { changes = (global_stays o.0 a.0).changes; known = (not_false_iff _).0 x.0; context = refl };
    }))
    (λ y. absurd (unchecked refl y.1))
    (checked x.1))
    (checked a.1))
    o.1
