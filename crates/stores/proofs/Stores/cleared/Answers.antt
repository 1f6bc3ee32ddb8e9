-- `Stores::cleared` meets its contract: what stays is written, read again, and its used set. Assumes nothing.
use Rattle.std.proofs.Common.{rules, tests, ◌∙◌, ap}
use Rattle.meaning.specs.Changes.{with_used}
use Rattle.stores.specs.Stores.{is_outside, reading, written, reading_written}
use Rattle.stores.proofs.Stores.cleared.Goals as goal

pub returns : goal.returns
returns c =
    let k = c.args.store.0 in
    let kept = c.kept.ensures (is_outside (reading c.args.self.now) k) (λ line b h. search (rules, tests)) in
    c.with_used.ensures ∙ ap (λ s. written (with_used k 0 (reading s))) kept ∙ ap (λ l. written (with_used k 0 l)) (reading_written _)
