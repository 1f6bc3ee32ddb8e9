-- A call on a table, as document 01 has it: what the manager promises of each of its sixteen calls and of the run question. `Called` is the meaning's `Outcome`
-- with a table for the model; `Seen` and `SeenFound` are what an `Answer` and a `Found` of the code carry of it. Assumes nothing.
use Rattle.std.specs.Prelude.{not, ◌&&◌, ℕ, eqb, if◌then◌else◌}
use Rattle.names.specs.Numbers.{number_of}
use Rattle.meaning.specs.Model.{Bytes}
use Rattle.meaning.specs.Calls.{Call, code, Outcome, step}
use Rattle.meaning.specs.RunQuestion.{Part, run_report, run_part, empty_part}
use Rattle.table.specs.declared.Table.{Table}
use Rattle.table.specs.declared.answer.Answer.{Answer}
use Rattle.table.specs.declared.answer.Found.{Found}
use Rattle.table.specs.Table.{reading, written, sound_table}

-- what a call gives: the table after it, report, value, the steps that call 7 tells, and the lent bytes after it
pub record Called : Type 0 where
  pub table : Table
  pub report : ℕ
  pub value : ℕ
  pub steps : ℕ
  pub bytes : Bytes

-- an unsound table: report 16, value 0, the same table and the same bytes
abbrev pub unsound : Table → Bytes → Called
unsound t bs = record { table = t; report = 16; value = 0; steps = 0; bytes = bs }

-- what the meaning gives: an accepted call writes the new model as a table, a refused one leaves the table as it was
abbrev pub settled : Table → Outcome → Called
settled t o =
    record { table = if eqb o.report 0 then written o.model else t; report = o.report; value = o.value; steps = o.steps; bytes = o.bytes }

-- "Every call but 0 first checks soundness (16)"; the rest is the meaning's, on what the table reads as.
unfoldable pub called : Table → Bytes → Call → Called
called t bs c = if not (eqb (code c) 0) && not (sound_table t) then unsound t bs else settled t (step (reading t) bs c)

-- ---- the run question

-- its report: 16 on an unsound table, else the meaning's
unfoldable pub run_number : Table → Bytes → Bytes → ℕ → ℕ → ℕ
run_number t stores stacks a n = if sound_table t then run_report (reading t) stores stacks a n else 16

-- its part: empty on an unsound table, else the meaning's
unfoldable pub table_run : Table → Bytes → Bytes → ℕ → ℕ → Part
table_run t stores stacks a n = if sound_table t then run_part (reading t) stores stacks a n else empty_part

-- ---- an answer of the code, in document 01's numbers

pub record Seen : Type 0 where
  pub table : Table
  pub report : ℕ
  pub value : ℕ

abbrev pub seen : Answer → Seen
seen a = record { table = a.table; report = number_of a.report; value = a.value }

-- the answer that a call is to give
abbrev pub answer : Called → Seen
answer o = record { table = o.table; report = o.report; value = o.value }

-- an answer of find, which carries the steps
pub record SeenFound : Type 0 where
  pub table : Table
  pub report : ℕ
  pub value : ℕ
  pub steps : ℕ

abbrev pub seen_found : Found → SeenFound
seen_found f = record { table = f.table; report = number_of f.report; value = f.value; steps = f.steps }

-- an answer of find without its steps
abbrev pub told_of_found : SeenFound → Seen
told_of_found f = record { table = f.table; report = f.report; value = f.value }

abbrev pub found_answer : Called → SeenFound
found_answer o = record { table = o.table; report = o.report; value = o.value; steps = o.steps }
