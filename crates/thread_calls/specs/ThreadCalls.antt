-- What the calls on threads give: document 01's rows of calls 2, 3, 14 and 15, on a model of the stores and threads alone. Assumes nothing.
use Rattle.std.specs.Prelude.{Bool, Result, Ok, Err, List, [], ℕ, eqb, if◌then◌else◌}
use Rattle.meaning.specs.Model.{Store, Thread}
use Rattle.meaning.specs.Reports.{threads_full}
use Rattle.meaning.specs.Changes.{placed}
use Rattle.meaning.specs.Calls.{Call, Outcome, row}
use Rattle.meaning.specs.Parts.{stores_alone, told_by}
use Rattle.names.specs.declared.report.Report.{Report}
use Rattle.names.specs.Numbers.{Told, told_of}
use Rattle.threads.specs.declared.Threads.{Threads}
use Rattle.threads.specs.Threads.{reading, written}

-- the threads after a call and what is told of it, in document 01's numbers
pub record Seen : Type 0 where
  pub threads : Threads
  pub told : Told

-- a call that was made on a list: an accepted one hands back the new list and has no value, a refused one leaves the list that it was made on
abbrev pub seen : Threads → Result Threads Report → Seen
seen old (Ok threads) = record { threads = threads; told = told_of (Ok 0) }
seen old (Err r) = record { threads = old; told = told_of (Err r) }

-- a change: an accepted call writes the row's threads, a refused one leaves them as they are
abbrev pub seen_by : Threads → Outcome → Seen
seen_by threads o = record { threads = if eqb o.report 0 then written o.model.threads else threads; told = told_by o }

unfoldable pub threads_after : List Store → Threads → Call → Seen
threads_after ss threads c = seen_by threads (row (stores_alone ss (reading threads)) [] c)

-- report 14 of call 14: "32 threads and this one new"
abbrev pub crowded : List Thread → ℕ → Bool
crowded ts t = threads_full (stores_alone [] ts) t

-- the list with a thread in a context, as call 14 writes it; the same list where the thread has no place
abbrev pub placed_if_room : Threads → ℕ → ℕ → Threads
placed_if_room threads t c = if crowded (reading threads) t then threads else written (placed t c (reading threads))
