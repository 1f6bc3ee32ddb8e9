-- `Stores::line` meets its contract. Assumes nothing.
use Rattle.std.proofs.Common.{◌∙◌}
use Rattle.meaning.specs.Model.{store_name, no_such_store}
use Rattle.lines.specs.Search.{line_found}
use Rattle.stores.specs.Stores.{store_line}
use Rattle.stores.proofs.Stores.line.Goals as goal

pub returns : goal.returns
returns c = c.unwrap_or.ensures ∙ line_found store_line store_name no_such_store _ _ _ _ c.find.ensures c.new.ensures
