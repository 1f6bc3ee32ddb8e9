-- `Stores::has_other_child` meets its contract: of the lines but the first some one is. Assumes nothing.
use Rattle.std.proofs.Common.{rules, tests, sym, ◌∙◌, ap, drop}
use Rattle.std.proofs.lemmas.List.{drop-map}
use Rattle.std.proofs.lemmas.Iterator.{YieldsList-from_slice}
use Rattle.std.proofs.lemmas.Iterator.Adapters.{YieldsList-from_skip}
use Rattle.std.proofs.lemmas.Iterator.Search.{any_from_yields_List}
use Rattle.lists.specs.Lists.{any}
use Rattle.lines.specs.Shape.{rest_drop}
use Rattle.lines.proofs.Listed.{any_line}
use Rattle.stores.specs.Stores.{view, store_line, reading, is_other_child}
use Rattle.stores.proofs.Stores.has_other_child.Goals as goal

pub returns : goal.returns
returns c =
    let p = is_other_child c.args.parent.0 c.args.store.0 in
    any_from_yields_List (λ a. p (view a)) _ _ _ c.any.ensures.ran (YieldsList-from_skip 1 (YieldsList-from_slice c.listed.result.now (cc)) (cc)) (λ x b q h. search (rules, tests))
    ∙ any_line store_line p _ ∙ ap (any p) (sym (drop-map view 1 c.listed.result.now) ∙ ap (drop 1) c.listed.ensures.reads ∙ sym (rest_drop (reading c.args.self.now)))
