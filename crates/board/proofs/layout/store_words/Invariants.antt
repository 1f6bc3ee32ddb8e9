use Rattle.board.specs.Layout.{store_at, LinesTo}
use Rattle.board.proofs.layout.store_words.Given as goal

abbrev pub invariant-loop-line : goal.invariant-loop-line
invariant-loop-line l = LinesTo store_at 4 8 64 l.line-items l.line-index l.word
