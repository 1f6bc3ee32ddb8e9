-- `board::run::run_of`: an address that the area of the stores holds is not before its start. Assumes nothing.
use mathlib.Core.Bool.{true}
use mathlib.Core.Path.{◌≡◌, sym, ◌∙◌}
use Rattle.meaning.specs.Model.{◌holds◌}
use Rattle.meaning.specs.Reading.{run_of}
use Rattle.meaning.proofs.Laws.Agree.{holds_iff}
use Rattle.board.proofs.run.run_of.Goals as goal

pub overflow_sub-result : goal.overflow_sub-result
overflow_sub-result c =
    let in_stores : (run_of c.args.stores holds c.args.address) ≡ true = sym c.holds.ensures ∙ c.if-holds.true in
    ((holds_iff _ _).0 in_stores).0
