-- `Table::allocate` meets its contract: the block is zeroed where the call on the lists is accepted, and no byte changes where it is refused. Assumes nothing.
use Rattle.std.proofs.Common.{rules, true, ◌≡◌, sym, ◌∙◌}
use Rattle.lines.specs.Shape.{unmapped}
use Rattle.table.specs.Table.{sound_table, Sized}
use Rattle.table.specs.Ways.{sized}
use Rattle.table.specs.Lent.{block_told}
use Rattle.table.proofs.Table.allocate.Goals as goal

pub returns-clause-bytes : goal.returns-clause-bytes
returns-clause-bytes c =
    let long : Sized c.args.self = sized _ (search (rules, unmapped)) (search (rules, unmapped)) (search (rules, unmapped)) in
    let sound : sound_table c.args.self ≡ true = sym c.is_sound.ensures ∙ c.if-not-is_sound.false in
    let r = c.allocate-roomed.ensures in
    c.zero_block.ensures ∙ block_told _ long sound _ _ _ c.if-area-home.false _ _ r.told r.refused (search rules)
