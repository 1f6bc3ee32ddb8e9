-- `store_rules::nest` meets its contract: one pass, which remembers where each parent's last child ended. Assumes nothing.
use Rattle.std.proofs.Common.{rules, arith, refl, sym, ◌∙◌, ap, ◌≡◌, ◌<◌, true, length, map, get_or, ◌+◌}
use Rattle.std.proofs.Math.Path.{subst}
use mathlib.Core.List.{List, []}
use Rattle.lists.specs.Lists.{rest}
use Rattle.lines.specs.Shape.{live, live_whole}
use Rattle.lines.specs.Halves.{Halved}
use Rattle.names.specs.declared.lines.Store.{Store as Line}
use Rattle.meaning.specs.Model.{Store, store_name}
use Rattle.meaning.specs.Rules.{stores_hang}
use Rattle.stores.specs.Stores.{view, zeros, store_line}
use Rattle.store_rules.specs.Pass.{walk}
use Rattle.store_rules.specs.Steps.{pass_start, pass_end, parent_low, pass_out, pass_early, pass_more}
use Rattle.store_rules.proofs.Behind.{at_other, other_in, others_done}
use Rattle.store_rules.proofs.nest.Goals as goal
use Rattle.store_rules.proofs.nest.Goals.{After-half_place-j, then-not-lies_in-via-then-not-lies_in, then-not-lies_in-via-else-not-lies_in+then-c-ends}

-- all lines of the slice
abbrev all_of : List Line → List Store
all_of ls = live store_line (length ls) ls

-- they are the list
same : (ls : List Line) (l : List Store) → map view ls ≡ l → all_of ls ≡ l
same ls l e = live_whole store_line ls ∙ e

-- the pass over them is the pass over the list
walked : (ls : List Line) (l : List Store) → map view ls ≡ l → walk (all_of ls) [] (rest (all_of ls)) ≡ walk l [] (rest l)
walked ls l e = ap (λ m. walk m [] (rest m)) (same ls l e)

hung : (c : After-half_place-j) → stores_hang (all_of c.listed-lines.result.now) ≡ true
hung c = ap stores_hang (same c.listed-lines.result.now _ c.listed-lines.ensures.reads) ∙ c.requires

-- the line of the turn, and its place among all lines
line : (c : After-half_place-j) → get_or c.others-c-items.result.now c.loop-c.c-index zeros ≡ get_or c.listed-lines.result.now (c.loop-c.c-index + 1) zeros
line c = at_other c.listed-lines.result.now c.others-c-items.result.now c.loop-c.c-index zeros c.others-c-items.ensures

high : (c : After-half_place-j) → c.loop-c.c-index + 1 < length c.listed-lines.result.now
high c = other_in c.listed-lines.result.now c.others-c-items.result.now c.loop-c.c-index c.others-c-items.ensures c.loop-c-test.true

-- the parent is found by halves, at a place below the line's own
found : (c : After-half_place-j) → Halved store_name (all_of c.listed-lines.result.now) (view (get_or c.listed-lines.result.now (c.loop-c.c-index + 1) zeros)).parent c.half_place-j.result
found c =
    rw (← line c)
    (subst (λ l. Halved store_name l (view (get_or c.others-c-items.result.now c.loop-c.c-index zeros)).parent c.half_place-j.result)
    (sym (same c.listed-lines.result.now _ c.listed-lines.ensures.reads)) c.half_place-j.ensures)

low : (c : After-half_place-j) → c.half_place-j.result < length c.listed-lines.result.now
low c = parent_low _ _ (omega arith) (hung c) (c.loop-c.c-index + 1) (omega arith) (high c) _ (found c)

pub loop-c-init : goal.loop-c-init
loop-c-init c = (refl, pass_start _ _ (omega arith) c.listed-lines.ensures.few _ refl)

pub offset_bounds-lines-j : goal.offset_bounds-lines-j
offset_bounds-lines-j c = let h = low c in search rules

pub bounds-lines-j : goal.bounds-lines-j
bounds-lines-j c = low c

pub offset_bounds-ends-j : goal.offset_bounds-ends-j
offset_bounds-ends-j c = let h = low (goal.at.offset_bounds-ends-j c).After-half_place-j in search rules

pub bounds-ends-j : goal.bounds-ends-j
bounds-ends-j c = omega (arith, low (goal.at.bounds-ends-j c).After-half_place-j, c.listed-lines.ensures.few)

pub offset_bounds-ends-j-in-loop-c : goal.offset_bounds-ends-j-in-loop-c
offset_bounds-ends-j-in-loop-c c = let h = low (goal.at.offset_bounds-ends-j-in-loop-c c).After-half_place-j in search rules

pub bounds-ends-j-in-loop-c : goal.bounds-ends-j-in-loop-c
bounds-ends-j-in-loop-c c = omega (arith, low (goal.at.bounds-ends-j-in-loop-c c).After-half_place-j, c.listed-lines.ensures.few)

pub returns-then-not-lies_in : goal.returns-then-not-lies_in
returns-then-not-lies_in c =
    let a = (goal.at.returns-then-not-lies_in c).After-half_place-j in
    let l = c.loop-c in
    let w = walked c.listed-lines.result.now _ c.listed-lines.ensures.reads in
    elim c.then-not-lies_in.branch [
      | then-not-lies_in-via-then-not-lies_in b ↦
          pass_out _ _ (omega arith) (hung a) (l.c-index + 1) (omega arith) (high a) _ (found a) l.ends l.invariant.1 _ (rw (← line a) c.lies_in.ensures) b.if-not-lies_in.true ∙ w
      | then-not-lies_in-via-else-not-lies_in+then-c-ends b ↦
          pass_early _ _ (omega arith) (hung a) (l.c-index + 1) (omega arith) (high a) _ (found a) l.ends l.invariant.1 _ (rw (← line a) c.lies_in.ensures) b.if-not-lies_in.false (rw (← line a) b.if-c-ends.true) ∙ w
    ]

pub loop-c-preserved : goal.loop-c-preserved
loop-c-preserved c =
    let a = (goal.at.loop-c-preserved c).After-half_place-j in
    let l = c.loop-c in
    (search rules, pass_more _ _ (omega arith) (hung a) (l.c-index + 1) (omega arith) (high a) _ (found a) l.ends l.invariant.1 _ (rw (← line a) c.lies_in.ensures) c.if-not-lies_in.false (rw (← line a) c.if-c-ends.false) (omega (arith, c.listed-lines.ensures.few, l.invariant.0)) _ (rw (← line a) c.end_of.ensures))

pub returns : goal.returns
returns c = let l = c.loop-c in pass_end _ _ (omega arith) (l.c-index + 1) l.ends (others_done c.listed-lines.result.now c.others-c-items.result.now l.c-index c.others-c-items.ensures c.loop-c-test.false) l.invariant.1 ∙ walked c.listed-lines.result.now _ c.listed-lines.ensures.reads
