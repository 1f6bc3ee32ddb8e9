use Rattle.std.proofs.Common.{◌≤◌, ◌≡◌, map, take, Bool}
use Rattle.lists.specs.Lists.{keep}
use Rattle.lines.proofs.Lines.kept.Given as goal

abbrev pub invariant-loop-line : goal.invariant-loop-line
invariant-loop-line g l =
    let v = g.Self.Lines in
    (v.count_of l.kept ≤ l.line-index)
    × ((p : v.Meaning → Bool) → ((line : g.row.Self-Line.Denot) (b : Bool) → goal.F-post g l.fn.test line b → b ≡ p (v.shape.view line))
    → l.kept ≡ v.written (keep p (take l.line-index (map v.shape.view l.listed))))
