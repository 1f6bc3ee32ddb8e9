-- `store_rules::root_sound` meets its contract. Assumes nothing.
use Rattle.std.proofs.Common.{rules, tests, ◌∙◌, ap}
use Rattle.meaning.specs.Reading.{run_of}
use Rattle.meaning.specs.Rules.{root_sound}
use Rattle.store_rules.proofs.First.{root_told}
use Rattle.store_rules.proofs.root_sound.Goals as goal

pub returns : goal.returns
returns c =
    root_told (run_of c.args.area) c.listed.result.now c.first.result _ _ c.first.ensures.value c.is_some_and.ensures (λ s h. search (rules, tests))
    ∙ ap (root_sound (run_of c.args.area)) c.listed.ensures.reads
