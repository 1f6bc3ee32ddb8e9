-- Between two turns. Assumes nothing.
use Rattle.std.proofs.Common.{◌≡◌}
use Rattle.notation.proofs.Reading.{ReadTo}
use Rattle.notation.proofs.digits.Given as goal

abbrev pub invariant-loop-b : goal.invariant-loop-b
invariant-loop-b l = (l.count ≡ l.b-index) × ReadTo l.text l.value l.b-index
