use Rattle.std.proofs.Common.{◌≤◌, length}
use Rattle.bench.proofs.load.Given as goal

abbrev pub invariant-loop : goal.invariant-loop
invariant-loop l = l.end ≤ length l.list
