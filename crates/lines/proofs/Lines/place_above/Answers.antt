-- `Lines::place_above` meets its contract. Assumes nothing.
use Rattle.std.proofs.Common.{rules, tests, ◌∙◌, ap, arith, ltb, map, length, unwrap_or, ◌≤◌}
use Rattle.std.proofs.lemmas.List.{length-map}
use Rattle.std.proofs.lemmas.Iterator.{YieldsList-from_slice}
use Rattle.std.proofs.lemmas.Iterator.Search.{position_from_yields_List}
use Rattle.lines.specs.Search.{place, place_most}
use Rattle.lines.proofs.Listed.{place_line, found_or}
use Rattle.lines.proofs.Lines.place_above.Goals as goal

pub returns : goal.returns
returns g c =
    let l = g.Self.Lines in
    let k = c.args.key in
    let p = position_from_yields_List (λ a. ltb k (l.name (l.shape.view a))) _ _ _ c.position.ensures.ran (YieldsList-from_slice c.listed-listed.result.now (cc)) (λ x b q h. search (rules, tests)) in
    let e = place_line l.shape (λ m. ltb k (l.name m)) c.listed-listed.result.now in
    let most : place (λ m. ltb k (l.name m)) (map l.shape.view c.listed-listed.result.now) ≤ length c.listed-listed.result.now = omega (arith, place_most (λ m. ltb k (l.name m)) (map l.shape.view c.listed-listed.result.now), length-map c.listed-listed.result.now l.shape.view) in
    c.unwrap_or.ensures ∙ ap (λ o. unwrap_or o (length c.listed-listed.result.now)) p ∙ found_or _ _ (omega (arith, e, most)) ∙ e ∙ ap (place (λ m. ltb k (l.name m))) c.listed-listed.ensures.reads
