-- Call 9 meets 000's schema for making a backing store. Assumes nothing.
use Rattle.std.specs.Prelude.{false, List, ◌⊎◌, ◌≡◌, refl, ℕ, ◌+◌, ◌≤◌}
use Rattle.std.proofs.Common.{inl, inr, ⊎_elim, sym, ◌∙◌, ap, arith, ltb-true}
use Rattle.lists.specs.Keyed.{insert}
use Rattle.lists.specs.Tests.{never, not_iff, not_false_iff, reflect}
use Rattle.names.specs.Overhead.{store_overhead, store_taken}
use Rattle.meaning.specs.Model.{Store, Model, Bytes, free, store_name, listed, store_of, context_in}
use Rattle.meaning.specs.Nesting.{Child, child, parent_in}
use Rattle.meaning.specs.Facts.{Sound}
use Rattle.meaning.specs.Changes.{with_used, with_stores}
use Rattle.meaning.specs.Calls.{make_store, checks, change, all_checks, step}
use Rattle.meaning.proofs.Laws.Nested.{named, child_link, link_child}
use Rattle.meaning.proofs.Laws.Step.{accepted_exact, step_accepted}
use Rattle.meaning.proofs.Laws.Within.{context_listed}
use Rattle.laws.specs.ByName.{Listed, total_in, used_in, by_name}
use Rattle.laws.specs.Nesting.{inner_listed, outer_listed}
use Rattle.laws.specs.Geometry.{none_at_free}
use Rattle.laws.specs.StoreChanges.{UsedSet, used_set, Added, added}
use Rattle.laws.specs.StoreCalls.{make_store_sound}
use Rattle.schemas.specs.Memory.{picked, ◌⊕◌⟼◌}
use Rattle.schemas.specs.Reports.{MMReport, number, number_names, number_most}
use Rattle.schemas.specs.Stores.{SameStore, ΔBackingStore, BackingStoreInit, BSAllocateChild}
use Rattle.schemas.specs.Global.{SameStores, GlobalMakeBS}
use Rattle.schemas.specs.Threads.{RThreadMakeBS}
use Rattle.schemas.specs.Reading.{backing_of, stores_of, global_of, store_invariant}
use Rattle.schemas.specs.Steps.{checked, unchecked, told_sound, no_thread_lem, same_store, store_stays, block_stays, global_stays}
use Rattle.schemas.specs.StoreSteps.{same_line, low_end, low_end_taken, stores_change, fixed_vars}

-- a new store at the low end of c's free part, and the stores with it; k is the start of c's line, which is c (named)
abbrev new_at : List Store → ℕ → ℕ → ℕ → Store
new_at ss c n k = record { start = k + store_overhead + used_in ss c; total = store_taken n; used = 0; parent = k }

abbrev made_at : List Store → ℕ → ℕ → ℕ → List Store
made_at ss c n k = insert store_name (new_at ss c n k) (with_used k (used_in ss c + store_taken n) ss)

abbrev new : List Store → ℕ → ℕ → Store
new ss c n = new_at ss c n c

abbrev made : List Store → ℕ → ℕ → List Store
made ss c n = made_at ss c n c

module _ (m : Model) (sound : Sound m) (c : ℕ) (there : Listed m.stores c) (n : ℕ) (room : store_taken n ≤ free (store_of m.stores c)) where
  abbrev ss : List Store
  ss = m.stores

  abbrev mid : List Store
  mid = with_used c (used_in ss c + store_taken n) ss

  abbrev ss' : List Store
  ss' = made ss c n

  abbrev id : ℕ
  id = (new ss c n).start

  sound' : Sound (with_stores m ss')
  sound' = make_store_sound m sound c (store_taken n) there room (omega arith)

  fresh : listed ss id ≡ false
  fresh = none_at_free m sound c there (omega arith)

  unlisted : {k : ℕ} → Listed ss k → id ≡ k → ⊥
  unlisted {k} h e = never (listed ss k) h (rw e at fresh)

  g : UsedSet c (used_in ss c + store_taken n) ss mid
  g = used_set c (used_in ss c + store_taken n) ss

  a : Added (new ss c n) mid ss'
  a = added (new ss c n) mid (g.names id ∙ fresh)

  -- a listed store is the new one or was listed
  old_or_new : (k : ℕ) → Listed ss' k → Listed ss k ⊎ (k ≡ id)
  old_or_new k h = ⊎_elim (λ l. inl (sym (g.names k) ∙ l)) (λ e. inr e) ((a.names k).0 h)

  old : (k : ℕ) → Listed ss k → Listed ss' k
  old k h = (a.names k).1 (inl (g.names k ∙ h))

  id_there : Listed ss' id
  id_there = (a.names id).1 (inr refl)

  old_parent : (k : ℕ) → Listed ss k → parent_in ss' k ≡ parent_in ss k
  old_parent k h = ap (λ s. s.parent) (a.elsewhere k (unlisted h)) ∙ g.parents k h

  old_total : (k : ℕ) → Listed ss k → total_in ss' k ≡ total_in ss k
  old_total k h = ap (λ s. s.total) (a.elsewhere k (unlisted h)) ∙ g.totals k h

  -- the children after: those before, and the new one of c
  child_before : (x s : ℕ) → Child ss x s → Child ss' x s
  child_before x s d =
      let k = child_link m sound d in
      link_child (with_stores m ss') sound' (old_parent x (inner_listed m sound (child d)) ∙ k.0) k.1

  child_new : Child ss' id c
  child_new = link_child (with_stores m ss') sound' (ap (λ s. s.parent) a.here) (omega arith)

  child_after : (x s : ℕ) → Child ss' x s → Child ss x s ⊎ ((x ≡ id) × (s ≡ c))
  child_after x s d =
      let k = child_link (with_stores m ss') sound' d in
      ⊎_elim
      (λ h. inl (link_child m sound (sym (old_parent x h) ∙ k.0) k.1))
      (λ e. inr (e, sym k.0 ∙ ap (parent_in ss') e ∙ ap (λ s. s.parent) a.here))
      (old_or_new x (inner_listed (with_stores m ss') sound' (child d)))

  context_changes : ΔBackingStore (backing_of ss c) (backing_of ss' c)
  context_changes = record { before = store_invariant m sound c there; after = store_invariant (with_stores m ss') sound' c (old c there) }

  parent_allocates : BSAllocateChild (backing_of ss c) (backing_of ss' c) (store_taken n) (low_end (store_of ss c) (store_taken n)) id
  parent_allocates =
      let f = (by_name m sound).fits c there in
      record {
        changes = context_changes;
        memory = low_end_taken (store_of ss c) (store_of ss' c) (store_taken n)
            (record { before = context_changes.before.memory; after = context_changes.after.memory })
            (named ss' c ∙ sym (named ss c)) (old_total c there) (ap (λ s. s.used) (a.elsewhere c (unlisted there)) ∙ g.here there) (omega arith);
        new = (λ d. unlisted (inner_listed m sound (child d)) refl, λ e. omega (arith, named ss c));
        children = λ x. (
          λ d. ⊎_elim (λ b. inl b) (λ b. inr b.0) (child_after x c d),
          λ u. ⊎_elim (λ b. child_before x c b) (λ e. rw e child_new) u,
        );
        self = named ss' c ∙ sym (named ss c);
      }

  child_starts : BackingStoreInit (backing_of ss' id) (low_end (store_of ss c) (store_taken n))
  child_starts =
      let i = store_invariant (with_stores m ss') sound' id id_there in
      let s = ap (λ s. s.start) a.here in
      let t = ap (λ s. s.total) a.here in
      let u = ap (λ s. s.used) a.here in
      let p = named ss c in
      record {
        after = i;
        memory = record { after = i.memory; total = λ x. omega arith; free = λ x h. omega arith; used = λ x. (λ h. omega arith, λ h. absurd h) };
        least = omega arith;
        long = omega arith;
        children = λ x. (
          λ d. ⊎_elim (λ b. unlisted (outer_listed m sound (child b)) refl) (λ b. let e = b.1 in omega arith) (child_after x id d),
          λ h. absurd h,
        );
      }

  made_stores : SameStores (stores_of ss ⊕ c ⟼ backing_of ss' c ⊕ id ⟼ backing_of ss' id) (stores_of ss')
  made_stores = (
    λ k. (
      λ u. ⊎_elim (λ v. ⊎_elim (λ h. old k h) (λ e. rw e (old c there)) v) (λ e. rw e id_there) u,
      λ h. ⊎_elim (λ l. inl (inl l)) (λ e. inr e) (old_or_new k h),
    ),
    λ k u. picked (λ b. SameStore b (backing_of ss' k)) k id (λ e. rw e (same_store _))
        (λ d. picked (λ b. SameStore b (backing_of ss' k)) k c (λ e. rw e (same_store _))
        (λ e. ⊎_elim
        (λ v. ⊎_elim
        (λ h. same_line ss ss' k (old_total k h) (ap (λ s. s.used) (a.elsewhere k (unlisted h)) ∙ g.elsewhere k h e)
        (λ x. (λ f. ⊎_elim (λ b. b) (λ b. absurd (e b.1)) (child_after x k f), child_before x k)))
        (λ q. absurd (e q))
        v)
        (λ q. absurd (d q))
        u)),
  )

  makes : GlobalMakeBS (global_of m) (global_of (with_stores m ss')) n c id
  makes =
      record {
        changes = stores_change m sound ss' sound';
        there = there;
        allocated = low_end (store_of ss c) (store_taken n);
        parent = backing_of ss' c;
        child = backing_of ss' id;
        allocates = inl (parent_allocates, refl);
        new = λ h. unlisted h refl;
        initial = inl (child_starts, refl);
        self = named ss' id;
        stores = made_stores;
        fixed = fixed_vars m sound ss' sound';
      }

pub make_store_meets : (m : Model) (bs : Bytes) (t n : ℕ) (r : MMReport) → (step m bs (make_store t n)).report ≡ number r
    → RThreadMakeBS (global_of m) (global_of (step m bs (make_store t n)).model) t n (step m bs (make_store t n)).value r
unfolding checks change all_checks
make_store_meets m bs t n r h =
    let call = make_store t n in
    let o = told_sound m bs call r (omega arith) h in
    let c = context_in m.threads t in
    ⊎_elim
    (λ a. let f = simp reflect at ((accepted_exact m bs call).0 a.1) in
    let there = context_listed m o.0 t f.1.0 in
    let room = f.1.1.0 in
    let e : (step m bs call).model ≡ with_stores m (made m.stores c n) =
    ap (λ x. x.model) (step_accepted m bs call a.1) ∙ ap (λ k. with_stores m (made_at m.stores c n k)) (named m.stores c) in
    let v : (step m bs call).value ≡ (new m.stores c n).start =
    ap (λ x. x.value) (step_accepted m bs call a.1) ∙ ap (λ k. (new_at m.stores c n k).start) (named m.stores c) in
    inl (record {
      ac = c;
      done = inl (rw (e, v) (makes m o.0 c there n room), a.0);
      promotes = rw e (record { changes = stores_change m o.0 _ (sound' m o.0 c there n room); known = f.1.0; context = refl });
    }))
    (λ a. ⊎_elim
    (λ x. inr (no_thread_lem o.0 a.0 ((not_iff _).0 x.0) x.1))
    (λ x. let known = (not_false_iff _).0 x.0 in
    let there = context_listed m o.0 t known in
    let s = store_stays _ (store_invariant m o.0 c there) in
    ⊎_elim
    (λ y. inl (record {
      ac = c;
      done =
          inr (inr (inr (record {
            stays = global_stays o.0 a.0;
            there = there;
            child_id = 0;
            allocated = low_end (store_of m.stores c) 0;
            after = backing_of m.stores c;
            allocates = inr (record { stays = block_stays s; more = ltb-true _ (store_taken n) y.0; told = number_names y.1 }, s);
            failed = λ e. omega (arith, y.1, ap number e);
          })));
      promotes = record { changes = (global_stays o.0 a.0).changes; known = known; context = refl };
    }))
    (λ y. ⊎_elim (λ z. let l = number_most r in absurd (omega (arith, z.1))) (λ z. absurd (unchecked refl z.1)) (checked y.1))
    (checked x.1))
    (checked a.1))
    o.1
