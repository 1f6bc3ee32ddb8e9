-- `Lines::rises` meets its contract: each line is compared with the next. Assumes nothing.
use Rattle.std.proofs.Common.{rules, tests, ◌∙◌, ap, ltb}
use Rattle.std.proofs.lemmas.List.Sorted.{answers_always}
use Rattle.lists.specs.Keyed.{rising}
use Rattle.lines.proofs.Listed.{rising_line}
use Rattle.lines.proofs.Lines.rises.Goals as goal

pub returns : goal.returns
returns g c =
    let l = g.Self.Lines in
    rising_line l.shape l.name _ _ (c.is_sorted_by.ensures.cases (λ a b. ltb (l.name (l.shape.view a)) (l.name (l.shape.view b))) (answers_always _ _ _ (λ f a r h e. search (rules, tests)))) ∙ ap (rising l.name) (search rules)
