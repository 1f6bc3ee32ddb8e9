-- `finding::find` refuses an address that the root does not hold. Assumes nothing.
use Rattle.finding.specs.Steps.{find_outside}
use Rattle.finding.proofs.find.Goals as goal

pub returns-in_default-clause-told : goal.returns-in_default-clause-told
returns-in_default-clause-told c = find_outside _ _ _ _ c.holds.ensures c.if-holds.false _ _ c.listed.ensures.reads c.in-Some.ensures.cases.0
