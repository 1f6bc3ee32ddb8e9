-- Models of some lists alone, for the calls that look at no more, and what a question asked of them tells. Assumes nothing.
use Rattle.std.specs.Prelude.{List, []}
use Rattle.names.specs.Numbers.{Told}
use Rattle.meaning.specs.Model.{Run, Store, Thread, Stack, Model, table_limits}
use Rattle.meaning.specs.Calls.{Call, Outcome, row}

abbrev pub no_run : Run
no_run = record { start = 0; length = 0 }

-- stores and threads
abbrev pub stores_alone : List Store → List Thread → Model
stores_alone ss ts = record { store_area = no_run; stack_area = no_run; stores = ss; threads = ts; stacks = []; free_run = no_run; limits = table_limits }

-- stacks in their area, with the free run
abbrev pub stacks_alone : Run → List Stack → Run → Model
stacks_alone area ks run = record { store_area = no_run; stack_area = area; stores = []; threads = []; stacks = ks; free_run = run; limits = table_limits }

-- the report and the value of a call by its row
abbrev pub told_by : Outcome → Told
told_by o = record { report = o.report; value = o.value }

-- a question, by its row
unfoldable pub replied : List Store → List Thread → Call → Told
replied ss ts c = told_by (row (stores_alone ss ts) [] c)
