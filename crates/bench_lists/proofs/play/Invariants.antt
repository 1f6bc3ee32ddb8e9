use Rattle.std.proofs.Common.{◌-◌}
use Rattle.bench_run.specs.Lines.{last_place}
use Rattle.bench_lists.proofs.play.Given as goal

-- the place rises with each line, up to the end of 3,000 records
abbrev pub decreases-loop-onward : goal.decreases-loop-onward
decreases-loop-onward l = last_place - l.from.place
