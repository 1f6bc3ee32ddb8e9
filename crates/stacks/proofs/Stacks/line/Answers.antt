-- `Stacks::line` meets its contract. Assumes nothing.
use Rattle.std.proofs.Common.{rules, ◌∙◌, ◌≡◌, unwrap_or}
use Rattle.meaning.specs.Model.{stack_name, no_such_stack}
use Rattle.lines.specs.Search.{line_found}
use Rattle.stacks.specs.Stacks.{stack_line}
use Rattle.stacks.proofs.Stacks.line.Goals as goal

pub returns : goal.returns
returns c =
    let found : c.unwrap_or.result ≡ unwrap_or c.find.result c.new.result = search rules in
    found ∙ line_found stack_line stack_name no_such_stack _ _ _ _ c.find.ensures c.new.ensures
