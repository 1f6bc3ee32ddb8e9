-- The lines that are read are what the list reads as. Assumes nothing.
use Rattle.std.proofs.Common.{arith, sym, ◌∙◌, ap, length-take}
use Rattle.lines.specs.Shape.{live}
use Rattle.lines.proofs.Listed.{listed_reads}
use Rattle.lines.proofs.Lines.listed.Goals as goal

pub returns-clause-reads : goal.returns-clause-reads
returns-clause-reads g c =
    let l = g.Self.Lines in
    let k = c.lines-lines.ensures in
    listed_reads l.shape c.count.result c.min-n.result c.lines-lines.result.now k.long (omega arith) ∙ ap (live l.shape c.count.result) k.all ∙ ap (λ n. live l.shape n (l.lines_of c.args.self.now)) c.count.ensures ∙ sym (g.met.Self.Lines.reads c.args.self.now)

pub returns-clause-few : goal.returns-clause-few
returns-clause-few g c = simp length-take (omega (arith, c.lines-lines.ensures.long))
