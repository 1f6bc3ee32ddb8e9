-- `bench_lists::play` ends: the place rises with each line. Assumes nothing.
use Rattle.bench_run.specs.Lines.{place_rises}
use Rattle.bench_lists.proofs.play.Goals as goal

pub loop-onward-smaller : goal.loop-onward-smaller
loop-onward-smaller c = place_rises _ _ _ _ _ _ c.next-next.ensures.told c.in-Continue.is

pub loop-onward-smaller-then-eq : goal.loop-onward-smaller-then-eq
loop-onward-smaller-then-eq c = place_rises _ _ _ _ _ _ c.next-next.ensures.told c.in-Continue.is
