-- `bench_run::put_answer` meets its contract: every text fits. Assumes nothing.
use Rattle.std.specs.Prelude.{◌≡◌, Some, is_some, length}
use Rattle.std.proofs.Common.{rules, arith, ap, sym, ◌∙◌}
use Rattle.answer_text.specs.Text.{answer_text}
use Rattle.bench_run.specs.Lines.{answer_fits}
use Rattle.bench_run.proofs.put_answer.Goals as goal

pub unwrap-requires : goal.unwrap-requires
unwrap-requires c =
    let f = answer_fits _ (search rules) _ _ _ (search rules) (search rules) (search rules) _ _ c.write_answer.ensures in
    ap is_some f.1

pub returns : goal.returns
returns c =
    let f = answer_fits _ (search rules) _ _ _ (search rules) (search rules) (search rules) _ _ c.write_answer.ensures in
    let e : Some c.unwrap.result ≡ Some (length (answer_text c.args.code c.args.report c.args.value)) = sym c.unwrap.ensures ∙ f.1 in
    let n : c.unwrap.result ≡ length (answer_text c.args.code c.args.report c.args.value) = cc in
    (f.0, n, omega (arith, f.2))
