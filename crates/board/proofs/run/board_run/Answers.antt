-- `board::run::board_run` meets its contract: the report of the table's question, and by it the place of the run. Assumes nothing.
use mathlib.Core.Path.{sym, ◌∙◌}
use Rattle.lines.specs.Shape.{unmapped}
use Rattle.table.specs.Table.{Sized}
use Rattle.board.specs.Run.{run_by_areas, in_stacks}
use Rattle.std.proofs.Common.{rules}
use Rattle.board.proofs.run.board_run.Goals as goal

pub run_of-requires : goal.run_of-requires
run_of-requires c z =
    let long : Sized c.args.table = record { stores = search (rules, unmapped); threads = search (rules, unmapped); stacks = search (rules, unmapped) } in
    in_stacks _ _ _ _ _ long (sym c.run_report-report.ensures ∙ z)

pub returns : goal.returns
returns c =
    c.run_of.ensures ∙ rw c.run_report-report.ensures (run_by_areas _ _ _ _ _)
