-- `Stores::nested_in` meets its contract: it asks the parent, whose start is lower. Assumes nothing.
use Rattle.std.proofs.Common.{rules, arith, sym, ◌∙◌, ◌≡◌, ◌≤◌, ◌<◌}
use Rattle.meaning.specs.Nesting.{parent_in, nested}
use Rattle.stores.specs.Stores.{reading}
use Rattle.stores.specs.Climb.{climbs_stop, climbs_here, climbs_more}
use Rattle.stores.proofs.Stores.+nested_in.Goals as goal

pub returns-else-lt : goal.returns-else-lt
unfolding nested
returns-else-lt t c =
    let a = c.args in
    let h : a.store.0 ≤ c.parent-up.result.0 = search rules in
    c.if-lt.false ∙ sym (climbs_stop (parent_in (reading a.self.now)) a.store.0 a.inside.0 (omega (arith, c.parent-up.ensures, h)))

pub returns-then-eq : goal.returns-then-eq
unfolding nested
returns-then-eq t c =
    let a = c.args in
    let e = c.parent-up.ensures in
    let h : c.parent-up.result.0 < a.store.0 = search rules in
    let q : c.parent-up.result.0 ≡ a.inside.0 = search rules in
    c.if-eq.true ∙ sym (climbs_here (parent_in (reading a.self.now)) a.store.0 a.inside.0 (omega (arith, e, h)) (sym e ∙ q))

pub returns-else-eq : goal.returns-else-eq
unfolding nested
returns-else-eq t c =
    let a = c.args in
    let e = c.parent-up.ensures in
    let h : c.parent-up.result.0 < a.store.0 = search rules in
    let q : c.parent-up.result.0 ≡ a.inside.0 → ⊥ = search rules in
    c.nested_in.ensures ∙ rw e (sym (climbs_more (parent_in (reading a.self.now)) a.store.0 a.inside.0 (omega (arith, e, h)) (λ p. q (e ∙ p))))
