-- `Table::run` meets its contract: soundness first, then the question on the areas. Assumes nothing.
use Rattle.std.proofs.Common.{rules, false, ◌≡◌, sym, ◌∙◌, arith}
use Rattle.lines.specs.Shape.{unmapped}
use Rattle.table.specs.Table.{sound_table, Sized}
use Rattle.table.specs.Calls.{table_run}
use Rattle.table.specs.Lent.{run_sound_lem}
use Rattle.table.proofs.Table.run.Goals as goal

pub returns-then-not-is_sound : goal.returns-then-not-is_sound
unfolding table_run
returns-then-not-is_sound c =
    let e : sound_table c.args.self ≡ false = sym c.is_sound.ensures ∙ c.if-not-is_sound.true in
    record { bytes = rw e; memory = rw e; place = rw e (omega arith) }

pub returns : goal.returns
returns c =
    let long : Sized c.args.self = record { stores = search (rules, unmapped); threads = search (rules, unmapped); stacks = search (rules, unmapped) } in
    rw (run_sound_lem _ long (sym c.is_sound.ensures ∙ c.if-not-is_sound.false) c.args.stores.now c.args.stacks.now c.args.address c.args.n) c.run.ensures
