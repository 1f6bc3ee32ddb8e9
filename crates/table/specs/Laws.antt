-- A table is a faithful picture of its model, and the lowest broken rule is 0 exactly on a sound table. Assumes nothing.
use Rattle.std.specs.Prelude.{Bool, true, false, not, ◌&&◌, List, [], ◌∷◌, ◌↔◌, ◌≡◌, refl, ℕ, eqb, if◌then◌else◌}
use Rattle.std.proofs.Common.{sym, ◌∙◌, eqb-true, eq-eqb}
use Rattle.lists.specs.Tests.{same_test, and_iff, reflect}
use Rattle.meaning.proofs.Laws.Step.{none_given, given_none}
use Rattle.meaning.specs.Model.{Model, table_limits}
use Rattle.meaning.specs.Rules.{rule1, rule2, rule3, rule4, rule5, rule6, rule7, sound}
use Rattle.meaning.specs.Reading.{run_of}
use Rattle.meaning.specs.Reports.{Check, ◌when◌, first_report}
use Rattle.stores.specs.Stores
use Rattle.stores.specs.Stores.{reading as stores_of}
use Rattle.store_rules.specs.Broken.{broken_stores}
use Rattle.threads.specs.Threads
use Rattle.stacks.specs.Stacks
use Rattle.table.specs.declared.Table.{Table}
use Rattle.table.specs.Table.{reading, written, rule8, broken_rule, sound_table, Sized}

-- What is written reads as what it was.
pub reading_written : (m : Model) → m.limits ≡ table_limits → reading (written m) ≡ m
unfolding reading written
reading_written m e =
    λ i. record {
      store_area = m.store_area;
      stack_area = m.stack_area;
      stores = Stores.reading_written m.stores i;
      threads = Threads.reading_written m.threads i;
      stacks = Stacks.reading_written m.stacks i;
      free_run = m.free_run;
      limits = sym e i;
    }

-- A table that obeys rule 8, so every sound one, is what it reads as, written.
pub written_reading : (t : Table) → Sized t → rule8 t ≡ true → written (reading t) ≡ t
unfolding reading written rule8
written_reading t n h =
    let b = (and_iff (Stores.clean t.stores && Threads.clean t.threads) _).0 h in
    let a = (and_iff (Stores.clean t.stores) _).0 b.0 in
    λ i. record {
      areas = t.areas;
      free = t.free;
      stores = Stores.written_reading t.stores n.stores a.0 i;
      threads = Threads.written_reading t.threads n.threads a.1 i;
      stacks = Stacks.written_reading t.stacks n.stacks b.1 i;
    }

-- ---- the lowest broken rule

-- what is left once rules 1 to 4 hold
unfoldable pub lowest_from5 : Table → ℕ
lowest_from5 t =
    let m = reading t in
    first_report (5 when not (rule5 m) ∷ 6 when not (rule6 m) ∷ 7 when not (rule7 m) ∷ 8 when not (rule8 t) ∷ [])

-- rules 2 to 4 are asked together
lowest_of_three : (x y z : Bool) (ks : List Check) →
    let r = first_report (2 when x ∷ 3 when y ∷ 4 when z ∷ []) in
    first_report (2 when x ∷ 3 when y ∷ 4 when z ∷ ks) ≡ (if eqb r 0 then first_report ks else r)
unfolding first_report
lowest_of_three true y z ks = refl
lowest_of_three false true z ks = refl
lowest_of_three false false true ks = refl
lowest_of_three false false false ks = refl

pub broken_1 : (t : Table) → rule1 (reading t) ≡ false → 1 ≡ broken_rule t
unfolding broken_rule first_report
broken_1 t e = rw e

-- rule 1 holds: the others are asked
past_1 : (b : Bool) (ks : List Check) → b ≡ true → first_report (1 when not b ∷ ks) ≡ first_report ks
unfolding first_report
past_1 b ks e = rw e

pub broken_2_to_4 : (t : Table) (k : ℕ) → rule1 (reading t) ≡ true → k ≡ broken_stores (run_of t.areas.stores) (stores_of t.stores)
    → broken_rule t ≡ (if eqb k 0 then lowest_from5 t else k)
unfolding broken_rule lowest_from5 broken_stores reading
broken_2_to_4 t k e q =
    let m = reading t in
    rw q (past_1 (rule1 m) _ e ∙ lowest_of_three (not (rule2 m)) (not (rule3 m)) (not (rule4 m)) (5 when not (rule5 m) ∷ 6 when not (rule6 m) ∷ 7 when not (rule7 m) ∷ 8 when not (rule8 t) ∷ []))

-- No rule is broken exactly on a sound table.
pub broken_none : (t : Table) → (broken_rule t ≡ 0) ↔ (sound_table t ≡ true)
unfolding broken_rule sound_table sound
broken_none t = (
  λ h. let f = simp reflect at (given_none _ refl h) in
      simp reflect (((((((f.0, f.1.0), f.1.1.0), f.1.1.1.0), f.1.1.1.1.0), f.1.1.1.1.1.0), f.1.1.1.1.1.1.0), f.1.1.1.1.1.1.1.0),
  λ h. let f = simp reflect at h in
      none_given _
      (simp reflect (f.0.0.0.0.0.0.0, (f.0.0.0.0.0.0.1, (f.0.0.0.0.0.1, (f.0.0.0.0.1, (f.0.0.0.1, (f.0.0.1, (f.0.1, (f.1, refl))))))))),
)

pub sound_unbroken : (t : Table) → eqb (broken_rule t) 0 ≡ sound_table t
sound_unbroken t = same_test _ _ (λ e. (broken_none t).0 (eqb-true _ _ e)) (λ e. eq-eqb _ _ ((broken_none t).1 e))
