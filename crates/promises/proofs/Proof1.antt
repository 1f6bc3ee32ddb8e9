-- Demand 1 holds of all that the methods hand back. Assumes nothing.
use Rattle.std.specs.Prelude.{Bool, true, false, ◌≡◌, refl, ℕ, ◌+◌, ◌≤◌, eqb, if◌then◌else◌}
use Rattle.std.proofs.Common.{⊎_elim, sym, ◌∙◌, ap, arith, ne_eqb}
use Rattle.lists.specs.Tests.{never, not_false_iff, reflect}
use Rattle.lists.specs.Keyed.{has}
use Rattle.lists.specs.KeyedLaws.{at_member, has_iff}
use Rattle.names.specs.Numbers.{number_of}
use Rattle.meaning.specs.Model.{Model, Bytes, free, store_name, no_such_store, store_of, root_of}
use Rattle.meaning.specs.Nesting.{parent_in}
use Rattle.meaning.specs.Rules.{areas_sound}
use Rattle.meaning.specs.Facts.{Sound}
use Rattle.meaning.specs.Reports.{parent_store}
use Rattle.meaning.specs.Calls.{Call, start, root, context_of, set_context, total_of, used_of, free_of, find, allocate, make_store, clear, resize, make_stack, destroy_stack, add_thread, remove_thread, code, Outcome, refused, checks, all_checks, step}
use Rattle.meaning.proofs.Laws.Step.{accepted_exact, accepted_sound, step_refused}
use Rattle.meaning.proofs.Laws.Nested.{named, root_or_other}
use Rattle.meaning.proofs.Laws.Within.{store_within, store_fits, context_listed}
use Rattle.table.specs.declared.Table.{Table}
use Rattle.table.specs.Table.{reading, written}
use Rattle.table.specs.Calls.{unsound, settled, called}
use Rattle.table.specs.Ways.{called_unsound}
use Rattle.promises.specs.Handed.{Given, in_numbers, Handed}
use Rattle.promises.specs.OneAnswer.{forged, handed_called}
use Rattle.promises.specs.Demand1.{impossible, Refused, Demand1}

-- ---- a refused call

settled_refused : (t : Table) (b : Bool) (m : Model) (bs : Bytes) (o : Outcome) →
    let x = if b then unsound t bs else settled t o in
    ((o.report ≡ 0 → ⊥) → o ≡ refused o.report m bs) → (x.report ≡ 0 → ⊥) → x ≡ record { table = t; report = x.report; value = 0; steps = 0; bytes = bs }
settled_refused t true m bs o f h = refl
settled_refused t false m bs o f h =
    let q = f h in
    let same : (if eqb o.report 0 then written o.model else t) ≡ t = rw (ne_eqb o.report 0 h) in
    λ i. record { table = same i; report = o.report; value = ap (λ x. x.value) q i; steps = ap (λ x. x.steps) q i; bytes = ap (λ x. x.bytes) q i }

called_refused : (t : Table) (bs : Bytes) (c : Call) → ((called t bs c).report ≡ 0 → ⊥)
    → called t bs c ≡ record { table = t; report = (called t bs c).report; value = 0; steps = 0; bytes = bs }
unfolding called
called_refused t bs c h = settled_refused t (forged t bs c) (reading t) bs (step (reading t) bs c) (step_refused (reading t) bs c) h

-- ---- an impossible size

-- an accepted call is accepted by the meaning
settled_accepted : (t : Table) (b : Bool) (bs : Bytes) (o : Outcome) → (if b then unsound t bs else settled t o).report ≡ 0 → o.report ≡ 0
settled_accepted t true bs o h = absurd (omega arith)
settled_accepted t false bs o h = h

called_accepted : (t : Table) (bs : Bytes) (c : Call) → (called t bs c).report ≡ 0 → (step (reading t) bs c).report ≡ 0
unfolding called
called_accepted t bs c h = settled_accepted t (forged t bs c) bs (step (reading t) bs c) h

module _ (m : Model) (sound : Sound m) where
  -- a listed store is no longer than the area
  total_within : (x : ℕ) → has store_name m.stores x ≡ true → (store_of m.stores x).total ≤ m.store_area.length
  total_within x h = let lies = store_within m sound x h in omega arith

  -- a store that is not the root has its total in its parent's used part
  resize_within : (s : ℕ) → has store_name m.stores s ≡ true → (s ≡ root_of m.stores → ⊥)
      → (store_of m.stores s).total + free (parent_store m s) ≤ m.store_area.length
  resize_within s h top = ⊎_elim (λ r. absurd (top r.0))
      (λ i.
      let p = parent_in m.stores s in
      let there = (has_iff store_name m.stores p).1 (sound.rule3.others (store_of m.stores s) i).listed in
      let lies = sound.rule4.inside (store_of m.stores p) (store_of m.stores s) (at_member store_name no_such_store m.stores p there) i (sym (named m.stores p)) in
      omega (arith, lies, store_fits m sound p there, total_within p there))
      (root_or_other m sound h)

possible : (m : Model) (bs : Bytes) (c : Call) → (step m bs c).report ≡ 0 → impossible m c ≡ false
unfolding impossible all_checks checks
possible m bs (start a b) h =
    let f = simp reflect at ((accepted_exact m bs (start a b)).0 h) in
    (not_false_iff (areas_sound a b)).1 f.1.1.0
possible m bs root h = refl
possible m bs (context_of x) h = refl
possible m bs (set_context x s) h = refl
possible m bs (total_of s) h = refl
possible m bs (used_of s) h = refl
possible m bs (free_of s) h = refl
possible m bs (find a) h = refl
possible m bs (allocate x n) h =
    let f = simp reflect at ((accepted_exact m bs (allocate x n)).0 h) in
    let sound = accepted_sound m bs (allocate x n) (omega arith) h in
    simp reflect (omega (arith, total_within m sound _ (context_listed m sound x f.1.1.0), f.1.1.1.0))
possible m bs (make_store x n) h =
    let f = simp reflect at ((accepted_exact m bs (make_store x n)).0 h) in
    let sound = accepted_sound m bs (make_store x n) (omega arith) h in
    simp reflect (omega (arith, total_within m sound _ (context_listed m sound x f.1.0), f.1.1.0))
possible m bs (clear x) h = refl
possible m bs (resize s n) h =
    let f = simp reflect at ((accepted_exact m bs (resize s n)).0 h) in
    let sound = accepted_sound m bs (resize s n) (omega arith) h in
    simp reflect (omega (arith, resize_within m sound s f.1.0 f.1.1.0, f.1.1.1.1.1.1.1.0))
possible m bs (make_stack n) h =
    let f = simp reflect at ((accepted_exact m bs (make_stack n)).0 h) in
    let sound = accepted_sound m bs (make_stack n) (omega arith) h in
    simp reflect (omega (arith, sound.rule7.inside, f.1.0))
possible m bs (destroy_stack k) h = refl
possible m bs (add_thread x s) h = refl
possible m bs (remove_thread x) h = refl

-- ---- the demand

pub demand1 : (t : Table) (bs : Bytes) (c : Call) (g : Given) → Handed t bs c g → Demand1 t bs c g
demand1 t bs c g h =
    let e = handed_called t bs c g h in
    let same : number_of g.report ≡ (called t bs c).report = ap (λ o. o.report) e in
    let left : Refused g → in_numbers g ≡ record { table = t; report = (called t bs c).report; value = 0; steps = 0; bytes = bs } =
    λ r. e ∙ called_refused t bs c (λ z. r (same ∙ z)) in
    record {
      forged = λ u n. same ∙ ap (λ o. o.report) (called_unsound t bs c (ne_eqb (code c) 0 n) u);
      size = λ i z. never (impossible (reading t) c) i (possible (reading t) bs c (called_accepted t bs c (sym same ∙ z)));
      value = λ r. ap (λ o. o.value) (left r);
      steps = λ r. ap (λ o. o.steps) (left r);
      table = λ r. ap (λ o. o.table) (left r);
      bytes = λ r. ap (λ o. o.bytes) (left r);
    }
