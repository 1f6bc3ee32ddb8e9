-- `store_rules::all_hang` meets its contract. Assumes nothing.
use Rattle.std.proofs.Common.{rules, tests, sym, ◌∙◌, ap, drop}
use Rattle.std.proofs.lemmas.List.{drop-map}
use Rattle.std.proofs.lemmas.Iterator.{YieldsList-from_slice}
use Rattle.std.proofs.lemmas.Iterator.Adapters.{YieldsList-from_skip}
use Rattle.std.proofs.lemmas.Iterator.Search.{all_from_yields_List}
use Rattle.lists.specs.Lists.{all}
use Rattle.lines.specs.Shape.{rest_drop}
use Rattle.lines.proofs.Listed.{all_line}
use Rattle.meaning.specs.Rules.{hangs}
use Rattle.stores.specs.Stores.{view, store_line, reading}
use Rattle.store_rules.proofs.all_hang.Goals as goal

pub returns : goal.returns
returns c =
    let l = reading c.args.stores.now in
    all_from_yields_List (λ a. hangs l (view a)) _ _ _ c.all.ensures.ran (YieldsList-from_skip 1 (YieldsList-from_slice c.listed.result.now (cc)) (cc)) (λ x b q h. search (rules, tests))
    ∙ all_line store_line (hangs l) _ ∙ ap (all (hangs l)) (sym (drop-map view 1 c.listed.result.now) ∙ ap (drop 1) c.listed.ensures.reads ∙ sym (rest_drop l))
