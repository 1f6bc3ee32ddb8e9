-- `store_rules::lies_in` meets its contract. Assumes nothing.
use Rattle.std.proofs.Common.{le-leb}
use Rattle.std.proofs.lemmas.Bool.{lt-leb}
use Rattle.meaning.specs.Model.{◌inside◌}
use Rattle.store_rules.proofs.lies_in.Goals as goal

pub returns-then-from-c : goal.returns-then-from-c
unfolding ◌inside◌
returns-then-from-c c = rw (le-leb _ _ c.if-from-c.true, c.end_of.ensures)

pub returns-else-from-c : goal.returns-else-from-c
unfolding ◌inside◌
returns-else-from-c c = rw (lt-leb _ _ c.if-from-c.false)
