use Rattle.std.proofs.Common.{length}
use Rattle.lines.specs.Carried.{Chained}
use Rattle.meaning.specs.Reading.{run_of}
use Rattle.stacks.specs.Stacks.{stack_line}
use Rattle.stack_rules.specs.Pass.{stack_end, fits_from}
use Rattle.stack_rules.proofs.in_order.Given as goal

abbrev pub invariant-loop-k : goal.invariant-loop-k
invariant-loop-k l = Chained stack_line (fits_from (run_of l.area) (run_of l.run)) stack_end 0 (length l.lines) l.lines l.last l.k-index
