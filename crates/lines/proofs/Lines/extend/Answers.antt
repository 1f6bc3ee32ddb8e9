-- `Lines::extend` meets its contract: line by line. Assumes nothing.
use Rattle.std.proofs.Common.{arith, ap, ◌∙◌, ◌++◌, ◌≡◌, ◌+◌, ◌<◌, map, take, length, length-append, length-take-le}
use Rattle.std.proofs.lemmas.List.{length-map}
use Rattle.lines.proofs.Listed.{written_count, more_pushed}
use Rattle.lines.proofs.Lines.extend.Goals as goal

pub loop-line-preserved : goal.loop-line-preserved
loop-line-preserved g c =
    let v = g.Self.Lines in
    let m = g.met.Self.Lines in
    let l = c.loop-line in
    let more = map v.shape.view c.args.more.now in
    λ ms h e.
    let w = l.invariant ms h e in
    let n : length (ms ++ take l.line-index more) ≡ length ms + l.line-index = simp length-append (omega (arith, length-take-le l.line-index more (omega (arith, c.loop-line-test.true, length-map c.args.more.now v.shape.view)))) in
    let room : v.count_of l.self < v.shape.limit = omega (arith, h, n, c.loop-line-test.true, ap v.count_of w ∙ written_count v.shape v.count_of v.lines_of v.made v.written m.writes m.counts m.lines_made (ms ++ take l.line-index more)) in
    more_pushed v.shape v.count_of v.lines_of v.made v.written m.writes m.counts m.lines_made c.args.more.now l.line-index c.line-item.result c.loop-line-test.true c.line-item.is l.self c.push.new.self ms room (c.push.ensures.room room) w
