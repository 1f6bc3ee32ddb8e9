use Rattle.std.proofs.Common.{◌≡◌, ◌≤◌, ◌+◌, ◌++◌, List, map, take, length}
use Rattle.lines.proofs.Lines.extend.Given as goal

abbrev pub invariant-loop-line : goal.invariant-loop-line
invariant-loop-line g l =
    let v = g.Self.Lines in
    (ms : List v.Meaning) → length ms + length l.more ≤ v.shape.limit → l.initial.self ≡ v.written ms → l.self ≡ v.written (ms ++ take l.line-index (map v.shape.view l.more))
