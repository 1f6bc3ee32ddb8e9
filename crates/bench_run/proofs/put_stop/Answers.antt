-- `bench_run::put_stop` meets its contract: every text fits. Assumes nothing.
use Rattle.std.specs.Prelude.{◌≡◌, Some, is_some, length}
use Rattle.std.proofs.Common.{rules, arith, ap, sym, ◌∙◌}
use Rattle.answer_text.specs.Text.{stop_text}
use Rattle.bench_run.specs.Lines.{stop_fits}
use Rattle.bench_run.proofs.put_stop.Goals as goal

pub unwrap-requires : goal.unwrap-requires
unwrap-requires c =
    let f = stop_fits _ (search rules) _ (search rules) _ _ c.write_stop.ensures in
    ap is_some f.1

pub returns : goal.returns
returns c =
    let f = stop_fits _ (search rules) _ (search rules) _ _ c.write_stop.ensures in
    let e : Some c.unwrap.result ≡ Some (length (stop_text c.args.offset)) = sym c.unwrap.ensures ∙ f.1 in
    let n : c.unwrap.result ≡ length (stop_text c.args.offset) = cc in
    (f.0, n, omega (arith, f.2))
