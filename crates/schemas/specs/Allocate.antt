-- Call 8 meets 000's schema for allocating memory. 000's address is the block's first; the value told is that plus the overhead. Assumes nothing.
use Rattle.std.specs.Prelude.{List, ◌≡◌, refl, ℕ, ◌+◌, ◌-◌, ◌≤◌}
use Rattle.std.proofs.Common.{inl, inr, ⊎_elim, sym, ◌∙◌, ap, arith, ltb-true}
use Rattle.lists.specs.Tests.{not_iff, not_false_iff, reflect}
use Rattle.names.specs.Overhead.{allocation_overhead, block_taken}
use Rattle.meaning.specs.Model.{Store, Model, Bytes, free, store_of, context_in}
use Rattle.meaning.specs.Facts.{Sound}
use Rattle.meaning.specs.Changes.{with_used, with_stores}
use Rattle.meaning.specs.Calls.{allocate, checks, change, all_checks, step}
use Rattle.meaning.proofs.Laws.Nested.{named}
use Rattle.meaning.proofs.Laws.Step.{accepted_exact, step_accepted}
use Rattle.meaning.proofs.Laws.Within.{context_listed}
use Rattle.laws.specs.ByName.{Listed, used_in, by_name}
use Rattle.laws.specs.StoreChanges.{UsedSet, used_set}
use Rattle.laws.specs.StoreCalls.{allocate_sound}
use Rattle.schemas.specs.Memory.{picked}
use Rattle.schemas.specs.Reports.{MMReport, MMokay, number, number_names, number_most, Success}
use Rattle.schemas.specs.Blocks.{MBAllocate}
use Rattle.schemas.specs.Stores.{SameStore, ΔBackingStore, RBSAllocate}
use Rattle.schemas.specs.Global.{PromoteAC, GlobalAllocateMemory}
use Rattle.schemas.specs.Threads.{RThreadAllocateMemory}
use Rattle.schemas.specs.Reading.{backing_of, block_of, global_of, store_invariant}
use Rattle.schemas.specs.Steps.{checked, unchecked, told_sound, no_thread_lem, same_store, store_stays, block_stays, global_stays, asked}
use Rattle.schemas.specs.StoreSteps.{same_line, low_end, low_end_taken, children_same, stores_change, fixed_vars}

module _ (m : Model) (sound : Sound m) (c : ℕ) (there : Listed m.stores c) (n : ℕ) (room : block_taken n ≤ free (store_of m.stores c)) where
  abbrev ss : List Store
  ss = m.stores

  abbrev ss' : List Store
  ss' = with_used c (used_in ss c + block_taken n) ss

  sound' : Sound (with_stores m ss')
  sound' = allocate_sound m sound c (block_taken n) there room

  g : UsedSet c (used_in ss c + block_taken n) ss ss'
  g = used_set c (used_in ss c + block_taken n) ss

  there' : Listed ss' c
  there' = g.names c ∙ there

  context_changes : ΔBackingStore (backing_of ss c) (backing_of ss' c)
  context_changes = record { before = store_invariant m sound c there; after = store_invariant (with_stores m ss') sound' c there' }

  taken : MBAllocate (block_of (store_of ss c)) (block_of (store_of ss' c)) (block_taken n) (low_end (store_of ss c) (block_taken n))
  taken =
      let f = (by_name m sound).fits c there in
      low_end_taken (store_of ss c) (store_of ss' c) (block_taken n)
      (record { before = context_changes.before.memory; after = context_changes.after.memory })
      (named ss' c ∙ sym (named ss c)) (g.totals c there) (g.here there) (omega arith)

  promotes : PromoteAC (global_of m) (global_of (with_stores m ss')) (backing_of ss c) (backing_of ss' c) c
  promotes =
      record {
        changes = stores_change m sound ss' sound';
        store = context_changes;
        there = there;
        now = same_store _;
        stores = (
          λ k. (λ u. ⊎_elim (λ l. g.names k ∙ l) (λ e. rw e there') u, λ l. inl (sym (g.names k) ∙ l)),
          λ k u. picked (λ b. SameStore b (backing_of ss' k)) k c (λ e. rw e (same_store _))
              (λ d. ⊎_elim
              (λ l. same_line ss ss' k (g.totals k l) (g.elsewhere k l d) (λ x. children_same m sound ss' sound' g.names g.parents x k))
              (λ e. absurd (d e))
              u),
        );
        fixed = fixed_vars m sound ss' sound';
      }

  allocated : {r : MMReport} {address : ℕ} → r ≡ MMokay → address ≡ (low_end (store_of ss c) (block_taken n)).start
      → GlobalAllocateMemory (global_of m) (global_of (with_stores m ss')) n c address r
  allocated ok e =
      record {
        allocated = low_end (store_of ss c) (block_taken n);
        allocates =
            record {
              store = backing_of ss c;
              after = backing_of ss' c;
              done =
                  inl (
                    record {
                      changes = context_changes;
                      memory = taken;
                      children = λ x. children_same m sound ss' sound' g.names g.parents x c;
                      self = named ss' c ∙ sym (named ss c);
                    },
                    ok,
                  );
              promotes = promotes;
            };
        first = (omega arith, λ x h. omega arith);
      }

-- In a refusal 000's address may be any number; accepted, it and the overhead make the value.
at_address : (m : Model) (bs : Bytes) (t n address : ℕ) (r : MMReport) → (step m bs (allocate t n)).report ≡ number r
    → ((step m bs (allocate t n)).report ≡ 0 → (step m bs (allocate t n)).value ≡ address + allocation_overhead)
    → RThreadAllocateMemory (global_of m) (global_of (step m bs (allocate t n)).model) t n address r
unfolding checks change all_checks
at_address m bs t n address r h v =
    let call = allocate t n in
    let o = told_sound m bs call r (omega arith) h in
    let c = context_in m.threads t in
    ⊎_elim
    (λ a. let f = simp reflect at ((accepted_exact m bs call).0 a.1) in
    let there = context_listed m o.0 t f.1.1.0 in
    let room = f.1.1.1.0 in
    let e : (step m bs call).model ≡ with_stores m (ss' m o.0 c there n room) =
    ap (λ x. x.model) (step_accepted m bs call a.1) ∙ ap (λ k. with_stores m (with_used k (used_in m.stores c + block_taken n) m.stores)) (named m.stores c) in
    let w = v a.1 in
    let x = ap (λ x. x.value) (step_accepted m bs call a.1) in
    inl (record {
      ac = c;
      done = inl (rw e (allocated m o.0 c there n room a.0 (omega arith)));
      promotes = rw e (record { changes = stores_change m o.0 _ (sound' m o.0 c there n room); known = f.1.1.0; context = refl });
    }))
    (λ a. ⊎_elim
    (λ x. let l = number_most r in absurd (omega (arith, x.1)))
    (λ x. ⊎_elim
    (λ y. inr (no_thread_lem o.0 a.0 ((not_iff _).0 y.0) y.1))
    (λ y. let known = (not_false_iff _).0 y.0 in
    let there = context_listed m o.0 t known in
    let s = store_stays _ (store_invariant m o.0 c there) in
    ⊎_elim
    (λ z. inl (record {
      ac = c;
      done =
          inl (record {
            allocated = record { start = address; length = 1 };
            allocates =
                rw a.0
                (asked m o.0 c there (λ b b'. RBSAllocate b b' n (record { start = address; length = 1 }) r)
                (inr (record { stays = block_stays s; more = ltb-true _ (block_taken n) z.0; told = number_names z.1 }, s)));
            first = (omega arith, λ x h. omega arith);
          });
      promotes = record { changes = (global_stays o.0 a.0).changes; known = known; context = refl };
    }))
    (λ z. absurd (unchecked refl z.1))
    (checked y.1))
    (checked x.1))
    (checked a.1))
    o.1

pub allocate_meets : (m : Model) (bs : Bytes) (t n : ℕ) (r : MMReport) → (step m bs (allocate t n)).report ≡ number r
    → (address : ℕ) × (Success r → (step m bs (allocate t n)).value ≡ address + allocation_overhead)
    × RThreadAllocateMemory (global_of m) (global_of (step m bs (allocate t n)).model) t n address r
unfolding change
allocate_meets m bs t n r h =
    let o = step m bs (allocate t n) in
    let v : Success r → o.value ≡ o.value - allocation_overhead + allocation_overhead = λ e.
    let x = ap (λ x. x.value) (step_accepted m bs (allocate t n) (h ∙ ap number e)) in
    omega arith in
    (o.value - allocation_overhead, v, at_address m bs t n (o.value - allocation_overhead) r h (λ e. v (number_names (sym e ∙ h))))
