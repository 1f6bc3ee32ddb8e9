use Rattle.std.proofs.Common.{◌≤◌, ◌+◌, ◌*◌, length}
use Rattle.lines.specs.Carried.{Summed}
use Rattle.stacks.specs.Stacks.{stack_line}
use Rattle.stack_rules.specs.Pass.{stack_bytes}
use Rattle.stack_rules.proofs.bytes_with.Given as goal

abbrev pub invariant-loop-k : goal.invariant-loop-k
invariant-loop-k l = (l.bytes ≤ 4_294_967_295 * (l.k-index + 1)) × Summed stack_line stack_bytes l.fn.first (length l.lines) l.lines l.bytes l.k-index
