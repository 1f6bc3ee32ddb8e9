use Rattle.std.proofs.Common.{◌≤◌}
use Rattle.finding.specs.Steps.{Come}
use Rattle.finding.proofs.descend.Given as goal

abbrev pub invariant-loop-line : goal.invariant-loop-line
invariant-loop-line l = (l.found.steps ≤ l.line-index) × Come l.lines l.fn.root.0 l.address l.found.store.0 l.found.steps l.line-index
