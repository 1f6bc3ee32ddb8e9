-- The run question under demands 1 and 2: a forged table is refused by 16, every refusal gives the empty part, and on a sound table each refusal is given exactly
-- when its condition holds and no earlier one does. `run_number` and `table_run` are what the two methods promise. Assumes nothing.
use Rattle.std.specs.Prelude.{true, false, ◌↔◌, ◌≡◌, ℕ}
use Rattle.std.proofs.Math.Logic.{inl, inr}
use Rattle.std.proofs.Math.Path.{refl}
use Rattle.std.proofs.Common.{sym, ◌∙◌}
use borrow.Author.Tests.{ne_eqb}
use Rattle.lists.specs.Tests.{tested, and_iff}
use Rattle.meaning.specs.Model.{Bytes}
use Rattle.meaning.specs.Rules.{sound}
use Rattle.meaning.specs.Reports.{first_report, First, NoneHolds}
use Rattle.meaning.specs.RunQuestion.{area_checks, run_report, run_part, empty_part}
use Rattle.meaning.proofs.Laws.Step.{first_given, given_first, none_given, given_none}
use Rattle.table.specs.declared.Table.{Table}
use Rattle.table.specs.Table.{reading, rule8, sound_table}
use Rattle.table.specs.Calls.{run_number, table_run}

module _ (t : Table) (stores stacks : Bytes) (a n : ℕ) where
  -- "A forged table" is "refused by number"
  pub run_forged : sound_table t ≡ false → (run_number t stores stacks a n ≡ 16) × (table_run t stores stacks a n ≡ empty_part)
  unfolding run_number table_run
  run_forged e = rw e (refl, refl)

  -- "A refusal returns an empty part"
  pub run_refused : (run_number t stores stacks a n ≡ 0 → ⊥) → table_run t stores stacks a n ≡ empty_part
  unfolding run_number table_run run_part
  run_refused h = elim (tested (sound_table t)) [
    | inl e ↦ rw (e, ne_eqb (run_report (reading t) stores stacks a n) 0 (rw e at h))
    | inr e ↦ rw e
  ]

  module _ (s : sound_table t ≡ true) where
    -- what is asked once the table is sound
    asked : run_number t stores stacks a n ≡ first_report (area_checks (reading t).store_area (reading t).stack_area stores stacks a n)
    unfolding run_number run_report sound_table first_report
    asked = rw (s, ((and_iff (sound (reading t)) (rule8 t)).0 s).0)

    -- "Each refusal is given exactly when its condition holds and no earlier one does."
    pub run_exact : (r : ℕ) → (r ≡ 0 → ⊥) → (run_number t stores stacks a n ≡ r) ↔ First r (area_checks (reading t).store_area (reading t).stack_area stores stacks a n)
    run_exact r z = (λ h. given_first r _ z (sym asked ∙ h), λ f. asked ∙ first_given r _ f)

    pub run_accepted : (run_number t stores stacks a n ≡ 0) ↔ NoneHolds (area_checks (reading t).store_area (reading t).stack_area stores stacks a n)
    unfolding area_checks
    run_accepted = (λ h. given_none _ refl (sym asked ∙ h), λ f. asked ∙ none_given _ f)
