-- `board::questions::board_root` meets its contract: the method's, with the report as a number and the caller's table. Assumes nothing.
use mathlib.Core.Path.{refl}
use Rattle.lines.specs.Shape.{unmapped}
use Rattle.table.specs.Table.{Sized}
use Rattle.table.specs.Ways.{sized}
use Rattle.board.specs.Board.{question_told}
use Rattle.std.proofs.Common.{rules}
use Rattle.board.proofs.questions.board_root.Goals as goal

pub returns : goal.returns
returns c =
    let long : Sized c.args.table = sized _ (search (rules, unmapped)) (search (rules, unmapped)) (search (rules, unmapped)) in
    question_told _ long _ refl c.root.result c.from.result c.from.ensures c.root.ensures
