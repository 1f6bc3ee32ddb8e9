-- `board::layout::stack_words` meets its contract. Assumes nothing.
use mathlib.Core.Path.{refl}
use Rattle.board.specs.Layout.{stack_at, lines_none, lines_more}
use Rattle.std.proofs.Common.{rules}
use Rattle.board.proofs.layout.stack_words.Goals as goal

pub loop-line-init : goal.loop-line-init
loop-line-init c = lines_none stack_at _ _ _ _ refl

pub loop-line-preserved : goal.loop-line-preserved
loop-line-preserved c = lines_more stack_at _ _ _ _ _ _ _ c.loop-line.invariant (search rules) c.new.ensures
