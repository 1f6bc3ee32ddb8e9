-- `Lines::kept` meets its contract: line by line. Assumes nothing.
use Rattle.std.proofs.Common.{arith, ◌<◌}
use Rattle.lines.proofs.Listed.{kept_step}
use Rattle.lines.proofs.Lines.kept.Goals as goal

pub loop-line-preserved : goal.loop-line-preserved
loop-line-preserved g c =
    let v = g.Self.Lines in
    let m = g.met.Self.Lines in
    let l = c.loop-line in
    let room : v.count_of l.kept < v.shape.limit = omega (arith, l.invariant.0) in
    kept_step v.shape v.count_of v.lines_of v.made v.written m.writes m.counts m.lines_made _ l.line-index c.line-item.result c.loop-line-test.true c.line-item.is l.kept _
    c.test.result _ (λ p h. h _ _ c.test.ensures) room (grind arith) l.invariant
