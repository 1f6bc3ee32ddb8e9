use Rattle.std.proofs.Common.{◌≡◌, ◌+◌, length}
use Rattle.lines.specs.Shape.{live}
use Rattle.stores.specs.Stores.{store_line}
use Rattle.store_rules.specs.Steps.{Standing}
use Rattle.store_rules.proofs.nest.Given as goal

abbrev pub invariant-loop-c : goal.invariant-loop-c
invariant-loop-c l = (length l.ends ≡ 64) × Standing (live store_line (length l.lines) l.lines) (l.c-index + 1) l.ends
