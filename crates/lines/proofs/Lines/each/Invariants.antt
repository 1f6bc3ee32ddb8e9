use Rattle.std.proofs.Common.{◌≤◌, ◌≡◌, map, take}
use Rattle.lines.proofs.Lines.each.Given as goal

abbrev pub invariant-loop-old : goal.invariant-loop-old
invariant-loop-old g l =
    let v = g.Self.Lines in
    (v.count_of l.changed ≤ l.old-index)
    × ((f : v.Meaning → v.Meaning) → ((line new : g.row.Self-Line.Denot) → goal.F-post g l.fn.change line new → v.shape.view new ≡ f (v.shape.view line))
    → l.changed ≡ v.written (map f (take l.old-index (map v.shape.view l.listed))))
