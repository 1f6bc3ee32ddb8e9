use Rattle.board.specs.Layout.{stack_at, LinesTo}
use Rattle.board.proofs.layout.stack_words.Given as goal

abbrev pub invariant-loop-line : goal.invariant-loop-line
invariant-loop-line l = LinesTo stack_at 2 330 32 l.line-items l.line-index l.word
