-- The run question as it crosses to C: its report, and the part that it gives. Assumes nothing.
use Rattle.std.specs.Prelude.{true, false, ℕ, ◌-◌, ◌≤◌, eqb, if◌then◌else◌}
use Rattle.std.proofs.Math.Logic.{inl, inr}
use Rattle.std.proofs.Math.Path.{◌≡◌}
use Rattle.std.proofs.Common.{sym, ◌∙◌, arith, ne_eqb}
use Rattle.lists.specs.Tests.{tested}
use Rattle.names.specs.declared.lines.Area.{Area}
use Rattle.meaning.specs.Model.{Bytes, ◌holds◌}
use Rattle.meaning.specs.Reading.{run_of}
use Rattle.meaning.specs.RunQuestion.{Lent, of_stores, of_stacks, Part, part_of, empty_part, run_part}
use Rattle.runs.specs.Runs.{in_second}
use Rattle.table.specs.declared.Table.{Table}
use Rattle.table.specs.Table.{reading, sound_table, Sized}
use Rattle.table.specs.Calls.{run_number, table_run}
use Rattle.table.specs.Lent.{report_sound}
use Rattle.board.specs.declared.run.BoardRun.{BoardRun}

-- the number of a lent area
abbrev pub area_number : Lent → ℕ
area_number of_stores = 0
area_number of_stacks = 1

-- a report and a part
abbrev pub run_as : ℕ → Part → BoardRun
run_as k p = record { report = k; area = area_number p.area; offset = p.offset; length = p.length }

-- what the run question tells: its report, and the part of `table_run`
abbrev pub run_told : Table → Bytes → Bytes → ℕ → ℕ → BoardRun
run_told t stores stacks a n = run_as (run_number t stores stacks a n) (table_run t stores stacks a n)

-- ---- the same by the areas, once the report is known

abbrev pub run_told_by : Area → Area → ℕ → ℕ → ℕ → BoardRun
run_told_by first second k a n = run_as k (if eqb k 0 then part_of (run_of first) (run_of second) a n else empty_part)

module _ (first second : Area) (k a n : ℕ) where
  pub by_refused : (k ≡ 0 → ⊥) → record { report = k; area = 0; offset = 0; length = 0 } ≡ run_told_by first second k a n
  by_refused h = rw (ne_eqb k 0 h)

  pub by_stores : k ≡ 0 → (run_of first holds a) ≡ true → record { report = 0; area = 0; offset = a - first.start; length = n } ≡ run_told_by first second k a n
  unfolding part_of
  by_stores z h = rw (z, h)

  pub by_stacks : k ≡ 0 → (run_of first holds a) ≡ false → record { report = 0; area = 1; offset = a - second.start; length = n } ≡ run_told_by first second k a n
  unfolding part_of
  by_stacks z h = rw (z, h)

module _ (t : Table) (stores stacks : Bytes) (a n : ℕ) where
  pub run_by_areas : run_told_by t.areas.stores t.areas.stacks (run_number t stores stacks a n) a n ≡ run_told t stores stacks a n
  unfolding run_number table_run run_part reading
  run_by_areas = elim (tested (sound_table t)) [
    | inl s ↦ rw s
    | inr s ↦ rw s
  ]

  -- an accepted run that is not in the store area is in the stack area
  pub in_stacks : Sized t → run_number t stores stacks a n ≡ 0 → (run_of t.areas.stores holds a) ≡ false → t.areas.stacks.start ≤ a
  unfolding run_number
  in_stacks long z h = elim (tested (sound_table t)) [
    | inl s ↦ (in_second t.areas.stores t.areas.stacks stores stacks a n (sym (report_sound t long s stores stacks a n) ∙ z) h).0
    | inr s ↦ let k : ◌≡◌ {A = ℕ} 16 0 = rw s at z in absurd (omega arith)
  ]
