use Prim.Native.Nat.{◌-◌}
use lib.ListN.{length}
use Rattle.translation.specs.Walks.{Here}
use Rattle.translation.proofs.translate.Given as goal

abbrev pub invariant-loop-call : goal.invariant-loop-call
invariant-loop-call l = Here l.text l.initial.records l.records l.place l.end

abbrev pub decreases-loop-call : goal.decreases-loop-call
decreases-loop-call l = length l.records - l.end
