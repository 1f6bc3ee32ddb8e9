-- `translation::translate` meets its contract. Assumes nothing.
use Rattle.std.proofs.Common.{◌≡◌, arith, Ok, Err, Some, None}
use Rattle.std.proofs.lemmas.Result.{err_from_is_err_and}
use Rattle.notation.specs.Notation.{written}
use Rattle.texts.specs.Buffer.{end_of}
use Rattle.translation.specs.declared.Refused.TheVariants.{TooMany}
use Rattle.translation.specs.Translation.{record_of}
use Rattle.translation.specs.Walks.{here_first, here_end, here_wrong, here_full, here_more}
use Rattle.translation.proofs.translate.Goals as goal

pub loop-call-init : goal.loop-call-init
loop-call-init c = here_first _ _

pub returns-in_err-call-clause-outcome : goal.returns-in_err-call-clause-outcome
returns-in_err-call-clause-outcome c =
    let p = err_from_is_err_and c.from_residual.result c.from_residual.ensures.1 in
    let w : written c.args.text.now c.loop-call.place ≡ Err c.in_err-call.field-0.0 = grind arith in
    rw (p.1, p.2) (here_wrong _ _ _ _ _ _ c.loop-call.invariant w)

pub returns-in_err-end-clause-outcome : goal.returns-in_err-end-clause-outcome
returns-in_err-end-clause-outcome c =
    let p = err_from_is_err_and c.from_residual-in_err-end.result c.from_residual-in_err-end.ensures.1 in
    let e : c.in_err-end.field-0.0 ≡ TooMany = grind arith in
    let w : written c.args.text.now c.loop-call.place ≡ Ok (Some c.in-Some.call) = grind arith in
    let n : end_of c.loop-call.end (record_of c.in-Some.call) c.loop-call.records ≡ None = grind arith in
    rw (p.1, p.2, e) (here_full _ _ _ _ _ c.in-Some.call _ c.write_record-next.ensures.0 c.loop-call.invariant w n)

pub loop-call-smaller : goal.loop-call-smaller
loop-call-smaller c =
    let w : written c.args.text.now c.loop-call.place ≡ Ok (Some c.in-Some.call) = grind arith in
    let n : end_of c.loop-call.end (record_of c.in-Some.call) c.loop-call.records ≡ Some c.in_ok-end.end = grind arith in
    let h = here_more _ _ _ _ _ c.in-Some.call _ c.write_record-next.ensures.0 _ c.loop-call.invariant w n in
    omega arith

pub loop-call-preserved : goal.loop-call-preserved
loop-call-preserved c =
    let w : written c.args.text.now c.loop-call.place ≡ Ok (Some c.in-Some.call) = grind arith in
    let n : end_of c.loop-call.end (record_of c.in-Some.call) c.loop-call.records ≡ Some c.in_ok-end.end = grind arith in
    (here_more _ _ _ _ _ c.in-Some.call _ c.write_record-next.ensures.0 _ c.loop-call.invariant w n).1

pub returns-clause-outcome : goal.returns-clause-outcome
returns-clause-outcome c =
    let w : written c.args.text.now c.loop-call.place ≡ Ok None = grind arith in
    here_end _ _ _ _ _ c.loop-call.invariant w
