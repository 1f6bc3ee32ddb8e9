-- `notation::digits` meets its contract: digit by digit. Assumes nothing.
use Rattle.std.proofs.Common.{arith, rules, refl, ◌≡◌, true, slice_index_or}
use Rattle.texts.specs.Decimal.{is_digit}
use Rattle.notation.proofs.Reading.{read_none, read_digit}
use Rattle.notation.proofs.digits.Goals as goal

pub loop-b-init : goal.loop-b-init
loop-b-init c = (refl, read_none c.args.text.now)

pub overflow_mul-value : goal.overflow_mul-value
overflow_mul-value c = omega (arith, c.loop-b.invariant.1.low)

pub overflow_add-value : goal.overflow_add-value
overflow_add-value c = omega (arith, c.loop-b.invariant.1.low, c.from.ensures, c.type_inv.text c.loop-b.b-index)

pub loop-b-preserved : goal.loop-b-preserved
loop-b-preserved c =
    let l = c.loop-b in
    let digit : is_digit (slice_index_or c.args.text.now l.b-index 0) ≡ true = search rules in
    (omega (arith, l.invariant.0), rw (c.min-value.ensures, c.from.ensures) (read_digit c.args.text.now l.value l.b-index l.invariant.1 c.loop-b-test.true digit))
