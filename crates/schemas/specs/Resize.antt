-- Call 11 meets 000's schema for resizing a backing store, at the new total: the size asked for with the overhead. Assumes nothing.
use Rattle.std.specs.Prelude.{false, List, ◌↔◌, ◌≡◌, refl, ℕ, ◌+◌, ◌-◌, ◌<◌, ◌≤◌}
use Rattle.std.proofs.Common.{inl, inr, ⊎_elim, sym, ◌∙◌, ap, arith, ltb-true, eqb-true, eq-eqb}
use Rattle.std.proofs.Math.Decide.{ℕ_discrete, dec_lt}
use Rattle.std.proofs.lemmas.Bool.{eqb-false}
use Rattle.lists.specs.Tests.{not_iff, not_false_iff, reflect}
use Rattle.names.specs.Overhead.{store_overhead, store_taken}
use Rattle.meaning.specs.Model.{Store, Model, Bytes, end, whole, free_part, free, store_of, root_of}
use Rattle.meaning.specs.Nesting.{Child, child, parent_in}
use Rattle.meaning.specs.Facts.{Sound}
use Rattle.meaning.specs.Reports.{not_only_child}
use Rattle.meaning.specs.Changes.{with_used, with_total, with_stores}
use Rattle.meaning.specs.Calls.{resize, checks, change, all_checks, step}
use Rattle.meaning.proofs.Laws.Nested.{named, child_link}
use Rattle.meaning.proofs.Laws.Step.{accepted_exact, step_accepted}
use Rattle.laws.specs.ByName.{Listed, total_in, used_in, by_name}
use Rattle.laws.specs.Nesting.{inner_listed}
use Rattle.laws.specs.Geometry.{nested_inside}
use Rattle.laws.specs.StoreChanges.{Resized, resized}
use Rattle.laws.specs.StoreCalls.{resize_sound}
use Rattle.schemas.specs.Memory.{⟨◌⟩, picked, ◌⊕◌⟼◌, ◌⩤◌}
use Rattle.schemas.specs.Reports.{MMReport, number, number_names}
use Rattle.schemas.specs.Stores.{SameStore, BSResize, BSResizeChild}
use Rattle.schemas.specs.Global.{Global, SameStores, GlobalResizeBS, RGlobalResizeBS}
use Rattle.schemas.specs.Reading.{backing_of, stores_of, global_of, store_invariant}
use Rattle.schemas.specs.Steps.{checked, unchecked, told_sound, no_store_lem, same_store, global_stays}
use Rattle.schemas.specs.StoreSteps.{same_line, children_same, stores_change, fixed_vars}
use Rattle.schemas.specs.ResizeErrors.{is_child, parent_there_lem, only_child, not_only, not_empty_lem, no_room}

module _ (m : Model) (sound : Sound m) (x : ℕ) (there : Listed m.stores x) (not_root : x ≡ root_of m.stores → ⊥) (alone : not_only_child m x ≡ false)
    (last : x + total_in m.stores x ≡ parent_in m.stores x + store_overhead + used_in m.stores (parent_in m.stores x)) (n : ℕ)
    (empty : used_in m.stores x ≡ 0) (least : store_overhead ≤ n) (room : n ≤ total_in m.stores x + free (store_of m.stores (parent_in m.stores x))) where
  abbrev ss : List Store
  ss = m.stores

  abbrev p : ℕ
  p = parent_in ss x

  abbrev child_of : Child ss x p
  child_of = is_child m sound x there not_root

  abbrev up : Listed ss p
  up = parent_there_lem m sound x there not_root

  abbrev used' : ℕ
  used' = used_in ss p + n - total_in ss x

  abbrev ss' : List Store
  ss' = with_used p used' (with_total x n ss)

  sound' : Sound (with_stores m ss')
  sound' = resize_sound m sound x n there not_root alone empty least last room

  g : Resized x n p used' ss ss'
  g = resized x n p used' ss

  lower : p < x
  lower = (child_link m sound child_of).1

  same_children : (y s : ℕ) → Child ss' y s ↔ Child ss y s
  same_children = children_same m sound ss' sound' g.names g.parents

  childless : (y : ℕ) → Child ss y x → ⊥
  childless y c =
      let i = nested_inside m sound (child c) in
      let f = (by_name m sound).fits y (inner_listed m sound (child c)) in
      omega arith

  child_resizes : BSResize (backing_of ss x) (backing_of ss' x) (whole (store_of ss' x)) (whole (store_of ss x))
  child_resizes =
      let i = store_invariant m sound x there in
      let j = store_invariant (with_stores m ss') sound' x (g.names x ∙ there) in
      let f = (by_name m sound).fits x there in
      let l = lower in
      let a = named ss x in
      let b = named ss' x in
      let t = g.total there in
      let u = g.elsewhere x there (omega arith) in
      record {
        changes = record { before = i; after = j };
        memory =
            record {
              changes = record { before = i.memory; after = j.memory };
              room = omega arith;
              empty = λ y. (λ h. omega arith, λ h. absurd h);
              total = λ y. (λ h. h, λ h. h);
              used = λ y. omega arith;
              free = λ y h. omega arith;
              long = omega arith;
              old = λ y. (λ h. h, λ h. h);
            };
        least = omega arith;
        children = (λ y. same_children y x, λ y. (childless y, λ h. absurd h));
        self = b ∙ sym a;
      }

  parent_resizes : BSResizeChild (backing_of ss p) (backing_of ss' p) n (whole (store_of ss x)) (whole (store_of ss' x)) x x
  parent_resizes =
      let i = store_invariant m sound p up in
      let j = store_invariant (with_stores m ss') sound' p (g.names p ∙ up) in
      let f = (by_name m sound).fits p up in
      let lies = nested_inside m sound (child child_of) in
      let l = lower in
      let a = named ss x in
      let b = named ss' x in
      let c = named ss p in
      let d = named ss' p in
      let t = g.total there in
      let v = g.totals p up (omega arith) in
      let u = g.here up in
      record {
        changes = record { before = i; after = j };
        memory =
            record {
              changes = record { before = i.memory; after = j.memory };
              old = λ y h. omega arith;
              room = omega arith;
              new = λ y h. elim (dec_lt y (x + total_in ss x)) [
                | yes k ↦ inr (omega arith)
                | no k ↦ inl (omega arith)
              ];
              long = t;
              used = λ y. (
                λ h. elim (dec_lt y x) [
                  | yes k ↦ inl (omega arith)
                  | no k ↦ inr (omega arith)
                ],
                λ h. ⊎_elim
                    (λ k. let q = k.0 in elim (dec_lt y x) [
                      | yes w ↦ omega arith
                      | no w ↦ absurd (k.1 (omega arith))
                    ])
                    (λ k. omega arith)
                    h,
              );
              free = λ y. (
                λ h. (
                  elim (dec_lt y (x + total_in ss x)) [
                    | yes k ↦ inr (omega arith)
                    | no k ↦ inl (omega arith)
                  ],
                  λ k. omega arith,
                ),
                λ h. elim (dec_lt y (x + n)) [
                  | yes k ↦ absurd (h.1 (⊎_elim (λ q. omega arith) (λ q. omega arith) h.0))
                  | no k ↦ ⊎_elim (λ q. omega arith) (λ q. omega arith) h.0
                ],
              );
              total = λ y. omega arith;
            };
        old = child_of;
        new = inr refl;
        other = λ e. omega arith;
        children = λ y. (
          λ k. inr ((only_child m sound x there not_root alone y).0 ((same_children y p).0 k)),
          λ k. ⊎_elim (λ q. (same_children y p).1 q.0) (λ q. rw q ((same_children x p).1 child_of)) k,
        );
        self = d ∙ sym c;
      }

  resized_stores : SameStores ((⟨ x ⟩ ⩤ stores_of ss) ⊕ p ⟼ backing_of ss' p ⊕ x ⟼ backing_of ss' x) (stores_of ss')
  resized_stores = (
    λ k. (
      λ u. ⊎_elim (λ v. ⊎_elim (λ h. g.names k ∙ h.0) (λ e. rw e (g.names p ∙ up)) v) (λ e. rw e (g.names x ∙ there)) u,
      λ h. elim (ℕ_discrete k x) [
        | yes e ↦ inr e
        | no d ↦ inl (inl (sym (g.names k) ∙ h, d))
      ],
    ),
    λ k u. picked (λ b. SameStore b (backing_of ss' k)) k x (λ e. rw e (same_store _))
        (λ d. picked (λ b. SameStore b (backing_of ss' k)) k p (λ e. rw e (same_store _))
        (λ e. ⊎_elim
        (λ v. ⊎_elim (λ h. same_line ss ss' k (g.totals k h.0 d) (g.elsewhere k h.0 e) (λ y. same_children y k)) (λ q. absurd (e q)) v)
        (λ q. absurd (d q))
        u)),
  )

  resizes : GlobalResizeBS (global_of m) (global_of (with_stores m ss')) x n x
  resizes =
      record {
        changes = stores_change m sound ss' sound';
        not_root = not_root;
        there = there;
        child = backing_of ss' x;
        parent = backing_of ss' p;
        parent_id = p;
        parent_there = up;
        only = only_child m sound x there not_root alone;
        old_addresses = whole (store_of ss x);
        new_addresses = whole (store_of ss' x);
        resizes = inl (child_resizes, refl);
        within = inl (parent_resizes, refl);
        new = inr refl;
        stores = resized_stores;
        fixed = fixed_vars m sound ss' sound';
      }

-- ---- the call

-- Every report but 13, which 000 does not have here. The identifier stays.
pub resize_meets : (m : Model) (bs : Bytes) (x n : ℕ) (r : MMReport) → (step m bs (resize x n)).report ≡ number r → (number r ≡ 13 → ⊥)
    → RGlobalResizeBS (global_of m) (global_of (step m bs (resize x n)).model) x (store_taken n) x r
unfolding checks change all_checks
resize_meets m bs x n r h other =
    let call = resize x n in
    let o = told_sound m bs call r (omega arith) h in
    let ss = m.stores in
    let p = parent_in ss x in
    let a = named ss x in
    let b = named ss p in
    ⊎_elim
    (λ k. let f = simp reflect at ((accepted_exact m bs call).0 k.1) in
    let there = f.1.0 in
    let not_root = f.1.1.0 in
    let alone = f.1.1.1.0 in
    let empty = f.1.1.1.1.0 in
    let least = f.1.1.1.1.1.0 in
    let last = f.1.1.1.1.1.1.0 in
    let room = f.1.1.1.1.1.1.1.0 in
    let e : (step m bs call).model ≡ with_stores m (with_used p (used_in ss p + store_taken n - total_in ss x) (with_total x (store_taken n) ss)) =
    ap (λ i. i.model) (step_accepted m bs call k.1)
    ∙ ap (λ i. with_stores m (with_used i (used_in ss p + store_taken n - total_in ss x) (with_total x (store_taken n) ss))) b in
    inl (rw e (resizes m o.0 x there not_root alone (omega arith) (store_taken n) empty least room), k.0))
    (λ k. inr (⊎_elim
    (λ u. inl (no_store_lem o.0 k.0 ((not_iff _).0 u.0) u.1))
    (λ u. let there = (not_false_iff _).0 u.0 in
    inr (⊎_elim
    (λ v. inl (record { stays = global_stays o.0 k.0; is_root = eqb-true x _ v.0; told = number_names v.1 }))
    (λ v. let not_root = eqb-false x _ v.0 in
    inr (⊎_elim
    (λ w. inl (not_only m o.0 x there not_root k.0 w.0 w.1))
    (λ w. inr (⊎_elim
    (λ y. inl (not_empty_lem m o.0 x there not_root (store_taken n) k.0 (eqb-false _ 0 ((not_iff _).0 y.0)) y.1))
    (λ y. ⊎_elim
    (λ z. let l = ltb-true (store_taken n) store_overhead z.0 in absurd (omega arith))
    (λ z. ⊎_elim
    (λ i. absurd (other (sym i.1)))
    (λ i. let l = eqb-true (end (whole (store_of ss x))) (free_part (store_of ss p)).start ((not_false_iff _).0 i.0) in
    inr (⊎_elim
    (λ j. no_room m o.0 x there not_root w.0 (omega arith) (store_taken n) k.0 (ltb-true _ (store_taken n) j.0) j.1)
    (λ j. absurd (unchecked refl j.1))
    (checked i.1)))
    (checked z.1))
    (checked y.1))
    (checked w.1)))
    (checked v.1)))
    (checked u.1)))
    (checked k.1)))
    o.1

pub resize_value : (m : Model) (bs : Bytes) (x n : ℕ) → (step m bs (resize x n)).report ≡ 0 → (step m bs (resize x n)).value ≡ x
unfolding change
resize_value m bs x n h = ap (λ o. o.value) (step_accepted m bs (resize x n) h)

-- GlobalResizeBS leaves no other identifier than the old one: BSResize keeps self, and a store's self is its identifier.
pub resize_keeps_identifier : {g g' : Global} {x n id : ℕ} → GlobalResizeBS g g' x n id → id ≡ x
resize_keeps_identifier {g} {g'} {x} {n} {id} c =
    let known : g'.stores.dom id = (c.stores.0 id).0 (inr refl) in
    let stored : (g'.stores.at id).self ≡ c.child.self = (rw (eq-eqb id id refl) at (c.stores.1 id (inr refl))).self in
    let kept : c.child.self ≡ (g.stores.at x).self = ⊎_elim (λ b. b.0.self)
    (λ u. ⊎_elim (λ b. b.1.same.self) (λ v. ⊎_elim (λ b. b.stays.same.self) (λ b. b.stays.same.self) v) u)
    c.resizes in
    sym (c.changes.after.selves id known) ∙ stored ∙ kept ∙ c.changes.before.selves x c.there
