-- What it is that the methods hand back follows the meaning: on a sound table each step of the code is the meaning's step on what the table reads as. Assumes nothing.
use Rattle.std.specs.Prelude.{true, ◌≡◌}
use Rattle.names.specs.Numbers.{number_of}
use Rattle.meaning.specs.Model.{Bytes}
use Rattle.meaning.specs.Calls.{Call, step}
use Rattle.table.specs.declared.Table.{Table}
use Rattle.table.specs.Table.{reading, sound_table, Sized}
use Rattle.promises.specs.Handed.{Given}

-- a table of the code that is sound
pub record Good (t : Table) : Type 0 where
  pub sized : Sized t
  pub sound : sound_table t ≡ true

-- one call
pub record Meant (t : Table) (bs : Bytes) (c : Call) (g : Given) : Type 0 where
  pub model : reading g.table ≡ (step (reading t) bs c).model
  pub bytes : g.bytes ≡ (step (reading t) bs c).bytes
  pub report : number_of g.report ≡ (step (reading t) bs c).report
  pub value : g.value ≡ (step (reading t) bs c).value
  pub steps : g.steps ≡ (step (reading t) bs c).steps
  pub good : Good g.table
