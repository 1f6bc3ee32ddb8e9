-- `Table::broken_rule` meets its contract: the rules in their order, each asked where those before it hold. Assumes nothing.
use mathlib.Core.Bool.{true}
use mathlib.Core.Path.{◌≡◌, sym, ◌∙◌}
use borrow.Author.Tests.{eq-eqb, ne_eqb}
use Rattle.meaning.specs.Reports.{first_report}
use Rattle.meaning.specs.Rules.{rule5, rule6, rule7}
use Rattle.table.specs.Table.{reading, rule8, broken_rule}
use Rattle.table.specs.Laws.{lowest_from5, broken_1, broken_2_to_4}
use Rattle.table.proofs.Table.broken_rule.Goals as goal
use Rattle.table.proofs.Table.broken_rule.Goals.{Else-k-ne0, Else-not-threads_placed, Else-not-fit, Else-not-run_sound}

-- what is left past each test
from_5 : (c : Else-k-ne0) → broken_rule c.args.self ≡ lowest_from5 c.args.self
unfolding reading
from_5 c = broken_2_to_4 c.args.self _ (sym c.sound.ensures ∙ c.if-not-sound.false) c.broken_rule-k.ensures ∙ rw (eq-eqb _ _ c.if-k-ne0.false)

placed : (c : Else-not-threads_placed) → rule5 (reading c.args.self) ≡ true
unfolding reading
placed c = sym c.threads_placed.ensures ∙ c.if-not-threads_placed.false

fit : (c : Else-not-fit) → rule6 (reading c.args.self) ≡ true
unfolding reading
fit c = sym c.fit.ensures ∙ c.if-not-fit.false

run : (c : Else-not-run_sound) → rule7 (reading c.args.self) ≡ true
unfolding reading
run c = sym c.run_sound.ensures ∙ c.if-not-run_sound.false

pub returns-then-not-sound : goal.returns-then-not-sound
unfolding reading
returns-then-not-sound c = broken_1 c.args.self (sym c.sound.ensures ∙ c.if-not-sound.true)

pub returns-then-k-ne0 : goal.returns-then-k-ne0
unfolding reading
returns-then-k-ne0 c = sym (broken_2_to_4 c.args.self _ (sym c.sound.ensures ∙ c.if-not-sound.false) c.broken_rule-k.ensures ∙ rw (ne_eqb _ _ c.if-k-ne0.true))

pub returns-then-not-threads_placed : goal.returns-then-not-threads_placed
unfolding lowest_from5 first_report reading rule8
returns-then-not-threads_placed c =
    let a = goal.at.returns-then-not-threads_placed c in
    sym (from_5 a.Else-k-ne0 ∙ rw (sym c.threads_placed.ensures ∙ c.if-not-threads_placed.true))

pub returns-then-not-fit : goal.returns-then-not-fit
unfolding lowest_from5 first_report reading rule8
returns-then-not-fit c =
    let a = goal.at.returns-then-not-fit c in
    sym (from_5 a.Else-k-ne0 ∙ rw (placed a.Else-not-threads_placed, sym c.fit.ensures ∙ c.if-not-fit.true))

pub returns-then-not-run_sound : goal.returns-then-not-run_sound
unfolding lowest_from5 first_report reading rule8
returns-then-not-run_sound c =
    let a = goal.at.returns-then-not-run_sound c in
    sym (from_5 a.Else-k-ne0 ∙ rw (placed a.Else-not-threads_placed, fit a.Else-not-fit, sym c.run_sound.ensures ∙ c.if-not-run_sound.true))

pub returns-then-not-all_clean : goal.returns-then-not-all_clean
unfolding lowest_from5 first_report reading rule8
returns-then-not-all_clean c =
    let a = goal.at.returns-then-not-all_clean c in
    sym (from_5 a.Else-k-ne0
    ∙ rw (placed a.Else-not-threads_placed, fit a.Else-not-fit, run a.Else-not-run_sound, sym c.all_clean.ensures ∙ c.if-not-all_clean.true))

pub returns : goal.returns
unfolding lowest_from5 first_report reading rule8
returns c =
    let a = goal.at.returns c in
    sym (from_5 a.Else-k-ne0
    ∙ rw (placed a.Else-not-threads_placed, fit a.Else-not-fit, run a.Else-not-run_sound, sym c.all_clean.ensures ∙ c.if-not-all_clean.false))
