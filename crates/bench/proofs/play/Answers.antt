-- `bench::play` ends: the place rises with each line. Assumes nothing.
use Rattle.bench_run.specs.Lines.{place_rises}
use Rattle.bench.proofs.play.Goals as goal

pub loop-stores-smaller : goal.loop-stores-smaller
loop-stores-smaller c = place_rises _ _ _ _ _ _ c.next-next.ensures.told c.in-Continue.is
