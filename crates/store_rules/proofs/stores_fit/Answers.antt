-- `store_rules::stores_fit` meets its contract: under rule 3 the pass is rule 4. Assumes nothing.
use Rattle.std.proofs.Common.{sym, ◌∙◌, ap, ◌&&◌, []}
use Rattle.lists.specs.Lists.{rest}
use Rattle.stores.specs.Stores.{reading}
use Rattle.store_rules.specs.Pass.{walk, walk_fits}
use Rattle.store_rules.proofs.stores_fit.Goals as goal

pub returns-then-all_fit : goal.returns-then-all_fit
returns-then-all_fit c =
    let l = reading c.args.stores.now in
    c.nest.ensures ∙ ap (λ b. b && walk l [] (rest l)) (sym c.if-all_fit.true ∙ c.all_fit.ensures) ∙ walk_fits l c.requires

pub returns-else-all_fit : goal.returns-else-all_fit
returns-else-all_fit c =
    let l = reading c.args.stores.now in
    c.if-all_fit.false ∙ ap (λ b. b && walk l [] (rest l)) (sym c.if-all_fit.false ∙ c.all_fit.ensures) ∙ walk_fits l c.requires
