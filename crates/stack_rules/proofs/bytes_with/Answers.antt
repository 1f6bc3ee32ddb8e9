-- `stack_rules::bytes_with` meets its contract: a sum from a first number on. Assumes nothing.
use Rattle.std.proofs.Common.{rules, arith, ◌∙◌, ap, ◌+◌}
use Rattle.lists.specs.Lists.{sum}
use Rattle.lines.specs.Shape.{live_whole}
use Rattle.lines.specs.Carried.{sum_more, sum_end}
use Rattle.stacks.specs.Stacks.{stack_line}
use Rattle.stack_rules.specs.Pass.{stack_bytes}
use Rattle.stack_rules.proofs.bytes_with.Goals as goal

pub loop-k-preserved : goal.loop-k-preserved
loop-k-preserved c = let l = c.loop-k in
    (search rules, sum_more stack_line stack_bytes _ _ _ (omega arith) l.bytes l.k-index c.loop-k-test.true l.invariant.1)

pub returns : goal.returns
returns c = let l = c.loop-k in
    sum_end stack_line stack_bytes _ _ _ (omega arith) l.bytes l.k-index c.loop-k-test.false l.invariant.1
    ∙ ap (λ ks. sum stack_bytes ks + c.args.first) (live_whole stack_line c.listed-lines.result.now ∙ c.listed-lines.ensures.reads)
