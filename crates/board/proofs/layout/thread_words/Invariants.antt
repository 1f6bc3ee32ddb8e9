use Rattle.board.specs.Layout.{thread_at, LinesTo}
use Rattle.board.proofs.layout.thread_words.Given as goal

abbrev pub invariant-loop-line : goal.invariant-loop-line
invariant-loop-line l = LinesTo thread_at 2 265 32 l.line-items l.line-index l.word
