use Rattle.std.proofs.Common.{◌≤◌, ◌-◌, length}
use Rattle.lines.specs.Shape.{live}
use Rattle.lines.specs.Halves.{Between}
use Rattle.lines.proofs.Lines.half_place.Given as goal

abbrev pub invariant-loop-low : goal.invariant-loop-low
invariant-loop-low g l =
    let v = g.Self.Lines in
    (l.high ≤ length l.listed) × Between v.name (live v.shape (length l.listed) l.listed) l.key l.low l.high

abbrev pub decreases-loop-low : goal.decreases-loop-low
decreases-loop-low g l = l.high - l.low
