-- `store_rules::all_fit` meets its contract. Assumes nothing.
use Rattle.std.proofs.Common.{rules, tests, ◌∙◌, ap}
use Rattle.std.proofs.lemmas.Iterator.{YieldsList-from_slice}
use Rattle.std.proofs.lemmas.Iterator.Search.{all_from_yields_List}
use Rattle.lists.specs.Lists.{all}
use Rattle.lines.proofs.Listed.{all_line}
use Rattle.meaning.specs.Rules.{fits}
use Rattle.stores.specs.Stores.{view, store_line}
use Rattle.store_rules.proofs.all_fit.Goals as goal

pub returns : goal.returns
returns c =
    all_from_yields_List (λ a. fits (view a)) _ _ _ c.all.ensures.ran (YieldsList-from_slice c.listed.result.now (cc)) (λ x b q h. search (rules, tests))
    ∙ all_line store_line fits c.listed.result.now ∙ ap (all fits) c.listed.ensures.reads
