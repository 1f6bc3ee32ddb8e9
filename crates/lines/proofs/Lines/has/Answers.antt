-- `Lines::has` meets its contract: some line that is read has the key. Assumes nothing.
use Rattle.std.proofs.Common.{rules, tests, ◌∙◌, ◌≡◌, refl, ap, eqb, map}
use Rattle.std.proofs.lemmas.Iterator.{YieldsList-from_slice}
use Rattle.std.proofs.lemmas.Iterator.Search.{any_from_yields_List}
use Rattle.lists.specs.Keyed.{has}
use Rattle.lines.proofs.Listed.{has_line}
use Rattle.lines.proofs.Lines.has.Goals as goal

pub returns-else-half_place-len : goal.returns-else-half_place-len
returns-else-half_place-len g c =
    let l = g.Self.Lines in
    let k = c.number-key.result in
    let ls = c.iter.result.rest.now in
    let read : map l.shape.view ls ≡ l.reading c.args.self.now = rw c.iter.ensures.rest (search rules) in
    any_from_yields_List (λ a. eqb (l.name (l.shape.view a)) k) _ _ _ c.any.ensures.ran (YieldsList-from_slice ls refl) (λ x b q h. search (rules, tests))
    ∙ has_line l.shape l.name k ls ∙ ap (λ b. has l.name b k) read ∙ ap (has l.name (l.reading c.args.self.now)) c.number-key.ensures
