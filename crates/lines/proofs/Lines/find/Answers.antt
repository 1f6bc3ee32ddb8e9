-- `Lines::find` meets its contract: the first line that is read with the key. Assumes nothing.
use Rattle.std.proofs.Common.{rules, tests, ◌∙◌, ap, eqb, option_map}
use Rattle.std.specs.List.{find}
use Rattle.std.proofs.lemmas.Iterator.{YieldsList-from_slice}
use Rattle.std.proofs.lemmas.Iterator.Search.{find_from_yields_List}
use Rattle.lines.proofs.Listed.{find_line}
use Rattle.lines.proofs.Lines.find.Goals as goal

pub returns : goal.returns
returns g c =
    let l = g.Self.Lines in
    let k = c.number-key.result in
    let p = find_from_yields_List (λ a. eqb (l.name (l.shape.view a)) k) _ _ _ c.find.ensures.ran (YieldsList-from_slice c.listed.result.now (cc)) (λ x b q h. search (rules, tests)) in
    let e = ap (option_map l.shape.view) (c.copied.ensures ∙ p) in
    e ∙ find_line l.shape (λ m. eqb (l.name m) k) _ ∙ ap (find (λ m. eqb (l.name m) k)) c.listed.ensures.reads ∙ ap (λ j. find (λ m. eqb (l.name m) j) (l.reading c.args.self.now)) c.number-key.ensures
