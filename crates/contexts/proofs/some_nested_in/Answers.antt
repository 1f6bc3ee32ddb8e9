-- `contexts::some_nested_in` meets its contract. Assumes nothing.
use Rattle.std.proofs.Common.{rules, tests, ◌∙◌, ap}
use Rattle.std.proofs.lemmas.Iterator.{YieldsList-from_slice}
use Rattle.std.proofs.lemmas.Iterator.Search.{any_from_yields_List}
use Rattle.lists.specs.Lists.{any}
use Rattle.lines.proofs.Listed.{any_line}
use Rattle.threads.specs.Threads.{view, thread_line}
use Rattle.stores.specs.Stores.{reading}
use Rattle.contexts.specs.Contexts.{in_nested}
use Rattle.contexts.proofs.some_nested_in.Goals as goal

pub returns : goal.returns
returns c =
    let p = in_nested (reading c.args.stores.now) c.args.store.0 in
    any_from_yields_List (λ t. p (view t)) _ _ _ c.any.ensures.ran (YieldsList-from_slice c.listed.result.now (cc)) (λ x b q h. search (rules, tests))
    ∙ any_line thread_line p c.listed.result.now ∙ ap (any p) c.listed.ensures.reads
