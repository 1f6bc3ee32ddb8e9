-- `Threads::context` meets its contract. Assumes nothing.
use Rattle.std.proofs.Common.{rules, tests, sym, ◌∙◌, ap, unwrap_or}
use Rattle.meaning.specs.Model.{Thread, thread_name, no_such_thread}
use Rattle.lines.specs.Search.{at_find}
use Rattle.threads.specs.Threads.{reading}
use Rattle.threads.proofs.Threads.context.Goals as goal

pub returns : goal.returns
returns c =
    let a = at_find thread_name no_such_thread (reading c.args.self.now) c.args.id.0 in
    let f = ap (λ (o : _). (unwrap_or o (no_such_thread c.args.id.0)).context) c.find.ensures in
    (search (rules, tests)) ∙ f ∙ ap (λ (t : Thread). t.context) (sym a)
