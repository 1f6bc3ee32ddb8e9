-- `Lines::is_clean` meets its contract. Assumes nothing.
use Rattle.std.proofs.Common.{rules, tests, arith, sym, ◌∙◌, ap, drop, le-leb, leb, true, ◌≡◌, ◌&&◌, length-drop, take_all}
use Rattle.std.proofs.lemmas.Iterator.{YieldsList-from_slice}
use Rattle.std.proofs.lemmas.Iterator.Search.{all_from_yields_List}
use Rattle.lines.specs.Shape.{blank}
use Rattle.lines.proofs.Listed.{all_so}
use Rattle.lines.proofs.Lines.is_clean.Goals as goal

pub returns-then-n-lines : goal.returns-then-n-lines
unfolding blank
returns-then-n-lines g c =
    let l = g.Self.Lines in
    let p = all_from_yields_List l.shape.is_zeros _ _ _ c.all.ensures.ran (YieldsList-from_slice (drop c.count-n.result c.lines-lines.result.now) (c.iter.ensures.rest ∙ take_all _ _ (simp length-drop (omega arith)))) (λ x b q h. search (rules, tests)) in
    let h : leb c.count-n.result l.shape.limit ≡ true = le-leb _ _ (omega (arith, c.lines-lines.ensures.long)) in
    p ∙ all_so l.shape.is_zeros _ ∙ ap (λ b. b && blank l.shape c.count-n.result c.lines-lines.result.now) (sym h)
    ∙ rw (c.lines-lines.ensures.all, c.count-n.ensures) (sym (g.met.Self.Lines.cleans c.args.self.now))
