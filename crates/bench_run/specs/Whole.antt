-- The lines of a run, one after the other until one ends it, are what the bench prints for the list. Assumes nothing.
use Rattle.std.specs.Prelude.{true, List, [], ◌++◌, ◌≡◌, ℕ, zero, suc, ◌+◌, ◌-◌, ◌*◌, if◌then◌else◌}
use Rattle.std.proofs.Common.{inl, inr, ap, arith}
use Rattle.lists.specs.Tests.{tested}
use Rattle.meaning.specs.Model.{Bytes}
use Rattle.texts.specs.Record.{record_length}
use Rattle.table.specs.declared.Table.{Table}
use Rattle.table.specs.Table.{zero_table}
use Rattle.bench_calls.specs.Bench.{zero_stores}
use Rattle.bench_run.specs.Run.{most_records, run_from, output}
use Rattle.bench_run.specs.Lines.{last_place, line_at, run_line, goes_on}

-- at most so many lines, from a place on: the next begins where the last one left the place, the table and the store buffer
unfoldable pub lines_from : ℕ → List ℕ → ℕ → Table → Bytes → List ℕ
lines_from zero list place t buffer = []
lines_from (suc most) list place t buffer =
    let l = line_at list place t buffer in
    let rest = lines_from most list l.place l.table l.stores in
    l.text ++ (if l.ends then [] else rest)

lines_run : (left : ℕ) (list : List ℕ) (place : ℕ) (t : Table) (buffer : Bytes) → place + record_length * left ≡ last_place
    → lines_from (suc left) list place t buffer ≡ run_from left list place t buffer
unfolding lines_from
lines_run zero list place t buffer e =
    let l = line_at list place t buffer in
    let last : l.ends ≡ true = elim (tested l.ends) [
      | inl h ↦ h
      | inr h ↦ let g = goes_on list place t buffer h in absurd (omega (arith, g.0))
    ] in
    rw (run_line zero list place t buffer e, last)
lines_run (suc left) list place t buffer e =
    let l = line_at list place t buffer in
    elim (tested l.ends) [
      | inl h ↦ rw (run_line (suc left) list place t buffer e, h)
      | inr h ↦
          let g = goes_on list place t buffer h in
          let d : suc left - 1 ≡ left = omega arith in
          rw (run_line (suc left) list place t buffer e, h, d) (ap (λ rest. l.text ++ rest) (lines_run left list l.place l.table l.stores (omega (arith, g.1))))
    ]

-- 3,001 lines at most: an answer to each record, and a stop
pub whole_output : (list : List ℕ) → lines_from (suc most_records) list 0 zero_table zero_stores ≡ output list
unfolding output
whole_output list = lines_run most_records list 0 zero_table zero_stores (omega arith)
