-- `runs::run` meets its contract: an empty part where the report refuses, else the part of the area that holds the address. Assumes nothing.
use Rattle.std.proofs.Common.{◌≡◌, sym, ◌∙◌, ◌-◌, ◌≤◌, arith, length}
use Rattle.meaning.specs.RunQuestion.{empty_part, of_stores, of_stacks}
use Rattle.runs.specs.Runs.{part, part_refused, part_first, part_second, in_first, in_second}
use Rattle.runs.proofs.run.Goals as goal
use Rattle.runs.proofs.run.Goals.{Then-number-ne0, Then-holds, Else-holds}

nothing : (c : Then-number-ne0) → part c.args.first c.args.second c.args.stores.now c.args.stacks.now c.args.address c.args.n ≡ empty_part
nothing c = part_refused _ _ _ _ _ _ _ c.report.ensures (λ e. c.if-number-ne0.true (c.number.ensures ∙ e))

-- where the report accepts and the first area holds the address, the part is of that area, within its bytes
of_first : (c : Then-holds) → part c.args.first c.args.second c.args.stores.now c.args.stacks.now c.args.address c.args.n ≡ record { area = of_stores; offset = c.args.address - c.args.first.start; length = c.args.n }
of_first c = part_first _ _ _ _ _ _ (sym c.report.ensures ∙ sym c.number.ensures ∙ c.if-number-ne0.false) (sym c.holds.ensures ∙ c.if-holds.true)

lies_first : (c : Then-holds) → (c.args.first.start ≤ c.args.address) × (c.args.address - c.args.first.start ≤ length c.args.stores.now)
lies_first c = in_first c.args.first c.args.second c.args.stores.now c.args.stacks.now c.args.address c.args.n (sym c.report.ensures ∙ sym c.number.ensures ∙ c.if-number-ne0.false) (sym c.holds.ensures ∙ c.if-holds.true)

-- and else of the second
of_second : (c : Else-holds) → part c.args.first c.args.second c.args.stores.now c.args.stacks.now c.args.address c.args.n ≡ record { area = of_stacks; offset = c.args.address - c.args.second.start; length = c.args.n }
of_second c = part_second _ _ _ _ _ _ (sym c.report.ensures ∙ sym c.number.ensures ∙ c.if-number-ne0.false) (sym c.holds.ensures ∙ c.if-holds.false)

lies_second : (c : Else-holds) → (c.args.second.start ≤ c.args.address) × (c.args.address - c.args.second.start ≤ length c.args.stacks.now)
lies_second c = in_second c.args.first c.args.second c.args.stores.now c.args.stacks.now c.args.address c.args.n (sym c.report.ensures ∙ sym c.number.ensures ∙ c.if-number-ne0.false) (sym c.holds.ensures ∙ c.if-holds.false)

pub returns-then-number-ne0 : goal.returns-then-number-ne0
returns-then-number-ne0 c =
    let e = nothing (goal.at.returns-then-number-ne0 c).Then-number-ne0 in
    record { bytes = rw e; memory = rw e; place = rw e (omega arith) }

pub overflow_sub-address : goal.overflow_sub-address
overflow_sub-address c = (lies_first (goal.at.overflow_sub-address c).Then-holds).0

pub clipped-requires : goal.clipped-requires
clipped-requires c = (lies_first (goal.at.clipped-requires c).Then-holds).1

pub returns-then-holds : goal.returns-then-holds
returns-then-holds c =
    let e = of_first (goal.at.returns-then-holds c).Then-holds in
    record { bytes = rw e c.clipped.ensures.bytes; memory = rw e c.clipped.ensures.memory; place = rw e c.clipped.ensures.place }

pub overflow_sub-address-2 : goal.overflow_sub-address-2
overflow_sub-address-2 c = (lies_second (goal.at.overflow_sub-address-2 c).Else-holds).0

pub clipped-requires-2 : goal.clipped-requires-2
clipped-requires-2 c = (lies_second (goal.at.clipped-requires-2 c).Else-holds).1

pub returns : goal.returns
returns c =
    let e = of_second (goal.at.returns c).Else-holds in
    record { bytes = rw e c.clipped-2.ensures.bytes; memory = rw e c.clipped-2.ensures.memory; place = rw e c.clipped-2.ensures.place }
