-- `stack_rules::in_order` meets its contract: each line is tested from where the one before it ended. Assumes nothing.
use Rattle.std.proofs.Common.{arith, sym, ◌∙◌, ap}
use Rattle.lines.specs.Shape.{live_whole}
use Rattle.lines.specs.Carried.{chain_stop, chain_more, chain_end}
use Rattle.meaning.specs.Reading.{run_of}
use Rattle.stacks.specs.Stacks.{stack_line}
use Rattle.stack_rules.specs.Pass.{in_order}
use Rattle.stack_rules.proofs.in_order.Goals as goal

pub returns-then-not-fits_from : goal.returns-then-not-fits_from
unfolding in_order
returns-then-not-fits_from c = let l = c.loop-k in
    chain_stop stack_line _ _ _ _ _ (omega arith) l.last l.k-index c.loop-k-test.true (sym c.fits_from.ensures ∙ c.if-not-fits_from.true) l.invariant
    ∙ ap (in_order (run_of c.args.area) (run_of c.args.run)) (live_whole stack_line c.listed-lines.result.now ∙ c.listed-lines.ensures.reads)

pub loop-k-preserved : goal.loop-k-preserved
loop-k-preserved c = let l = c.loop-k in
    chain_more stack_line _ _ _ _ _ (omega arith) l.last l.k-index _ c.loop-k-test.true (sym c.fits_from.ensures ∙ c.if-not-fits_from.false) c.stack_end-last.ensures l.invariant

pub returns : goal.returns
unfolding in_order
returns c = let l = c.loop-k in
    chain_end stack_line _ _ _ _ _ (omega arith) l.last l.k-index c.loop-k-test.false l.invariant
    ∙ ap (in_order (run_of c.args.area) (run_of c.args.run)) (live_whole stack_line c.listed-lines.result.now ∙ c.listed-lines.ensures.reads)
