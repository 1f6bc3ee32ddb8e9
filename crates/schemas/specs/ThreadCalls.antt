-- Calls 3, 14 and 15 meet 000's schemas: set context, add thread, remove thread. Assumes nothing.
use Rattle.std.specs.Prelude.{false, List, ◌⊎◌, ◌≡◌, refl, ℕ}
use Rattle.std.proofs.Math.Logic.Iff
use Rattle.std.proofs.Common.{inl, inr, ⊎_elim, sym, ◌∙◌, ap, arith, eq-eqb, ne_eqb}
use Rattle.lists.specs.Keyed.{has, at, insert, remove}
use Rattle.lists.specs.Tests.{tested, not_iff, reflect}
use Rattle.lists.specs.KeyedLaws.{at_key}
use Rattle.lists.specs.KeyedChanges.{has_insert_iff, at_insert_new, at_insert_old, has_map, at_map, has_remove_iff, at_remove}
use Rattle.meaning.specs.Model.{Thread, Model, Bytes, thread_name, no_such_thread, context_in}
use Rattle.meaning.specs.Facts.{Sound}
use Rattle.meaning.specs.Changes.{with_context, placed, with_threads}
use Rattle.meaning.specs.Calls.{set_context, add_thread, remove_thread, checks, change, all_checks, step}
use Rattle.meaning.proofs.Laws.Step.{accepted_exact, step_accepted}
use Rattle.laws.specs.EachCall.{change_sound}
use Rattle.schemas.specs.Memory.{⟨◌⟩, Partial, ◌⊕◌⟼◌, ◌⩤◌, picked}
use Rattle.schemas.specs.Reports.{MMReport, number, number_most, Success}
use Rattle.schemas.specs.Global.{Global, SameThreads, GlobalNonexistentBS}
use Rattle.schemas.specs.Threads.{OnlyThreads, ThreadAdd, ThreadRemove, RThreadSetAC}
use Rattle.schemas.specs.Reading.{Known, contexts_of, global_of, global_invariant}
use Rattle.schemas.specs.Steps.{checked, unchecked, told_sound, no_store_lem, no_thread_lem, same_store}

-- ---- the contexts after each call

module _ (m : Model) (t s : ℕ) where
  abbrev ts : List Thread
  ts = m.threads

  abbrev set : Partial ℕ
  set = contexts_of m ⊕ t ⟼ s

  set_contexts : Known m t → SameThreads set (contexts_of (with_threads m (with_context t s ts)))
  set_contexts h =
      let same : (k : ℕ) → has thread_name (with_context t s ts) k ≡ has thread_name ts k = has_map thread_name _ (λ x. refl) ts in
      let known : (k : ℕ) → set.dom k → Known m k = λ k u. ⊎_elim (λ l. l) (λ e. rw e h) u in
      let line : (k : ℕ) → set.dom k → context_in (with_context t s ts) k ≡ _ = λ k u. ap (λ x. x.context) (at_map thread_name _ (λ x. refl) no_such_thread ts k (known k u)) in
      let key : (k : ℕ) → (at thread_name no_such_thread ts k).identifier ≡ k = at_key thread_name no_such_thread (λ x. refl) ts in (
        λ k. (λ u. same k ∙ known k u, λ l. inl (sym (same k) ∙ l)),
        λ k u. picked (λ c. context_in (with_context t s ts) k ≡ c) k t
            (λ e. line k u ∙ rw (eq-eqb (at thread_name no_such_thread ts k).identifier t (key k ∙ e)))
            (λ d. line k u ∙ rw (ne_eqb (at thread_name no_such_thread ts k).identifier t (λ e. d (sym (key k) ∙ e)))),
      )

  new_contexts : has thread_name ts t ≡ false → SameThreads set (contexts_of (with_threads m (insert thread_name (record { identifier = t; context = s }) ts)))
  new_contexts h =
      let new : Thread = record { identifier = t; context = s } in (
        λ k. Iff.symm (has_insert_iff thread_name new ts k),
        λ k u. picked (λ c. context_in (insert thread_name new ts) k ≡ c) k t
            (λ e. rw e (ap (λ x. x.context) (at_insert_new thread_name no_such_thread new ts h)))
            (λ d. ap (λ x. x.context) (at_insert_old thread_name no_such_thread new ts k (λ e. d (sym e)))),
      )

  placed_contexts : SameThreads set (contexts_of (with_threads m (placed t s ts)))
  placed_contexts = elim (tested (has thread_name ts t)) [
    | inl e ↦ rw e (set_contexts e)
    | inr e ↦ rw e (new_contexts e)
  ]

removed_contexts : (m : Model) (t : ℕ) → SameThreads (⟨ t ⟩ ⩤ contexts_of m) (contexts_of (with_threads m (remove thread_name t m.threads)))
removed_contexts m t =
    (λ k. Iff.symm (has_remove_iff thread_name t m.threads k), λ k u. ap (λ x. x.context) (at_remove thread_name no_such_thread t m.threads k u.1))

-- only threads change
only_threads : (m : Model) (ts : List Thread) → Sound m → Sound (with_threads m ts) → {f : Partial ℕ} → SameThreads f (contexts_of (with_threads m ts))
    → OnlyThreads (global_of m) (global_of (with_threads m ts)) f
only_threads m ts sound after f =
    record {
      changes = record { before = global_invariant m sound; after = global_invariant (with_threads m ts) after };
      threads = f;
      stores = (λ k. (λ x. x, λ x. x), λ k h. same_store _);
      relation = λ i j. (λ x. x, λ x. x);
      root = refl;
    }

-- ---- the calls

pub set_meets : (m : Model) (bs : Bytes) (t s : ℕ) (r : MMReport) → (step m bs (set_context t s)).report ≡ number r
    → RThreadSetAC (global_of m) (global_of (step m bs (set_context t s)).model) t s r
unfolding checks change all_checks
set_meets m bs t s r h =
    let c = set_context t s in
    let o = told_sound m bs c r (omega arith) h in
    ⊎_elim
    (λ a. let f = simp reflect at ((accepted_exact m bs c).0 a.1) in
    inl (
      rw (step_accepted m bs c a.1)
          (record { known = f.1.0; sets = only_threads m _ o.0 (change_sound m bs c a.1) (set_contexts m t s f.1.0) }),
      a.0,
    ))
    (λ a. inr (⊎_elim
    (λ x. inl (no_thread_lem o.0 a.0 ((not_iff _).0 x.0) x.1))
    (λ x. inr (⊎_elim (λ y. no_store_lem o.0 a.0 ((not_iff _).0 y.0) y.1) (λ y. absurd (unchecked refl y.1)) (checked x.1)))
    (checked a.1)))
    o.1

-- ThreadAdd reports nothing; the refusal of an unknown store is document 01's
pub add_meets : (m : Model) (bs : Bytes) (t s : ℕ) (r : MMReport) → (step m bs (add_thread t s)).report ≡ number r
    → (ThreadAdd (global_of m) (global_of (step m bs (add_thread t s)).model) t s × Success r)
    ⊎ GlobalNonexistentBS (global_of m) (global_of (step m bs (add_thread t s)).model) s r
unfolding checks change
add_meets m bs t s r h =
    let c = add_thread t s in
    let o = told_sound m bs c r (omega arith) h in
    ⊎_elim
    (λ a. inl (rw (step_accepted m bs c a.1) (only_threads m _ o.0 (change_sound m bs c a.1) (placed_contexts m t s)), a.0))
    (λ a. inr (⊎_elim
    (λ x. no_store_lem o.0 a.0 ((not_iff _).0 x.0) x.1)
    (λ x. ⊎_elim (λ y. let l = number_most r in absurd (omega (arith, y.1))) (λ y. absurd (unchecked refl y.1)) (checked x.1))
    (checked a.1)))
    o.1

pub remove_meets : (m : Model) (bs : Bytes) (t : ℕ) (r : MMReport) → (step m bs (remove_thread t)).report ≡ number r
    → ThreadRemove (global_of m) (global_of (step m bs (remove_thread t)).model) t × Success r
unfolding checks change
remove_meets m bs t r h =
    let c = remove_thread t in
    let o = told_sound m bs c r (omega arith) h in
    ⊎_elim
    (λ a. (rw (step_accepted m bs c a.1) (only_threads m _ o.0 (change_sound m bs c a.1) (removed_contexts m t)), a.0))
    (λ a. absurd (unchecked refl a.1))
    o.1

-- ThreadSetAC and ThreadAdd ask for a known store: a context that is none has no state after. So refusal 5 is within 000 at both.
pub context_exists : {g g' : Global} {t s : ℕ} → OnlyThreads g g' (g.thread_a_cs ⊕ t ⟼ s) → g.stores.dom s
context_exists {g} {g'} {t} {s} o =
    let there : g'.thread_a_cs.dom t = (o.threads.0 t).0 (inr refl) in
    let e : g'.thread_a_cs.at t ≡ s = o.threads.1 t (inr refl) ∙ rw (eq-eqb t t refl) in
    (o.stores.0 s).1 (rw e at (o.changes.after.contexts t there))
