-- A thread's line that is found, or the report where none is. Assumes nothing.
use Rattle.std.specs.Prelude.{List, ◌≡◌, refl, ℕ, eqb, Option, Ok, Err, ok_or, option_map, if◌then◌else◌}
use Rattle.std.specs.List.{find}
use Rattle.lists.specs.Keyed.{has, at}
use Rattle.lines.proofs.Found.{found_or}
use Rattle.meaning.specs.Model.{Thread, thread_name, no_such_thread}
use Rattle.names.specs.declared.lines.Thread.{Thread as Line}
use Rattle.names.specs.declared.report.Report.{Report}
use Rattle.threads.specs.Threads.{view, back}

pub line_or : (k : ℕ) (r : Report) (ts : List Thread) (o : Option Line) → option_map view o ≡ find (λ t. eqb (thread_name t) k) ts
    → ok_or o r ≡ (if has thread_name ts k then Ok (back (at thread_name no_such_thread ts k)) else Err r)
line_or = found_or view back (λ a. refl) thread_name no_such_thread
