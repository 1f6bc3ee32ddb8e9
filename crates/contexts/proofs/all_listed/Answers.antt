-- `contexts::all_listed` meets its contract. Assumes nothing.
use Rattle.std.proofs.Common.{rules, tests, ◌∙◌, ap}
use Rattle.std.proofs.lemmas.Iterator.{YieldsList-from_slice}
use Rattle.std.proofs.lemmas.Iterator.Search.{all_from_yields_List}
use Rattle.lists.specs.Lists.{all}
use Rattle.lines.proofs.Listed.{all_line}
use Rattle.threads.specs.Threads.{view, thread_line}
use Rattle.stores.specs.Stores.{reading}
use Rattle.contexts.specs.Contexts.{in_listed}
use Rattle.contexts.proofs.all_listed.Goals as goal

pub returns : goal.returns
returns c =
    let p = in_listed (reading c.args.stores.now) in
    all_from_yields_List (λ t. p (view t)) _ _ _ c.all.ensures.ran (YieldsList-from_slice c.listed.result.now (cc)) (λ x b q h. search (rules, tests))
    ∙ all_line thread_line p c.listed.result.now ∙ ap (all p) c.listed.ensures.reads
