-- What the calls on stacks give: document 01's rows of calls 12 and 13, on a model of the stack area, the stacks and the free run alone. Assumes nothing.
use Rattle.std.specs.Prelude.{Bool, ◌&&◌, Result, Ok, Err, [], eqb, if◌then◌else◌}
use Rattle.meaning.specs.Model.{Run}
use Rattle.meaning.specs.Calls.{Call, Outcome, row}
use Rattle.meaning.specs.Parts.{stacks_alone, told_by}
use Rattle.meaning.specs.Reading.{run_of, area_of, fits32}
use Rattle.names.specs.declared.lines.Area.{Area}
use Rattle.names.specs.declared.report.Report.{Report}
use Rattle.names.specs.Numbers.{Told, told_of}
use Rattle.stacks.specs.declared.Stacks.{Stacks}
use Rattle.stacks.specs.Stacks.{reading, written}
use Rattle.stack_calls.specs.declared.Piled.{Piled}

-- the stacks and the free run after a call and what is told of it, in document 01's numbers
pub record Seen : Type 0 where
  pub stacks : Stacks
  pub free : Area
  pub told : Told

-- a call that was made on stacks and a free run: an accepted one hands back the new ones, a refused one leaves those that it was made on
abbrev pub seen : Stacks → Area → Result Piled Report → Seen
seen stacks free (Ok p) = record { stacks = p.stacks; free = p.free; told = told_of (Ok p.value) }
seen stacks free (Err r) = record { stacks = stacks; free = free; told = told_of (Err r) }

-- a refusal leaves both as they are
abbrev pub kept : Stacks → Area → Told → Seen
kept stacks free t = record { stacks = stacks; free = free; told = t }

-- the run can be written as an area
abbrev pub run_fits : Run → Bool
run_fits r = fits32 r.start && fits32 r.length

-- An accepted call writes the row's stacks and free run, a refused one leaves both as they are. A free run that cannot be written comes of an unsound table
-- only: it is refused with 16.
abbrev pub seen_by : Stacks → Area → Outcome → Seen
seen_by stacks free o =
    if eqb o.report 0
    then
    (if run_fits o.model.free_run
    then record { stacks = written o.model.stacks; free = area_of o.model.free_run; told = told_by o }
    else kept stacks free (record { report = 16; value = 0 }))
    else kept stacks free (told_by o)

unfoldable pub piled : Area → Stacks → Area → Call → Seen
piled area stacks free c = seen_by stacks free (row (stacks_alone (run_of area) (reading stacks) (run_of free)) [] c)
