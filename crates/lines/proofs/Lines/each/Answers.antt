-- `Lines::each` meets its contract: line by line. Assumes nothing.
use Rattle.std.proofs.Common.{arith, rules, ◌<◌}
use Rattle.lines.proofs.Listed.{pushed_count, each_pushed}
use Rattle.lines.proofs.Lines.each.Goals as goal

pub loop-old-preserved : goal.loop-old-preserved
loop-old-preserved g c =
    let v = g.Self.Lines in
    let m = g.met.Self.Lines in
    let l = c.loop-old in
    let room : v.count_of l.changed < v.shape.limit = omega (arith, l.invariant.0, c.loop-old-test.true, c.listed-listed.ensures.few) in
    let push = c.push.ensures.room room in (
      omega (arith, l.invariant.0, pushed_count v.shape v.count_of v.lines_of v.made v.written m.writes m.counts m.lines_made l.changed c.push.new.self _ push),
      λ f h. each_pushed v.shape v.count_of v.lines_of v.made v.written m.writes m.counts m.lines_made c.listed-listed.result.now l.old-index c.old-item.result c.loop-old-test.true c.old-item.is l.changed c.push.new.self f _
          (search (rules, h)) room push (l.invariant.1 f h),
    )
