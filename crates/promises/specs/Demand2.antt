-- Demand 2: "On a sound table each call answers and changes the table exactly as documents 000 and 01 say. Each refusal is given exactly when its condition
-- holds and no earlier one does." What a refusal leaves is in demand 1. `demand2` of Proof2.antt of proofs proves it of every table whose arrays are as long as they are
-- declared (`Sized`), where the table is sound or the call is a start. Assumes nothing.
use Rattle.std.specs.Prelude.{true, ◌↔◌, ◌≡◌, ℕ}
use Rattle.names.specs.Numbers.{number_of}
use Rattle.meaning.specs.Model.{Bytes}
use Rattle.meaning.specs.Reports.{First, NoneHolds}
use Rattle.meaning.specs.Calls.{Call, Outcome, checks, change}
use Rattle.table.specs.declared.Table.{Table}
use Rattle.table.specs.Table.{reading, written, sound_table}
use Rattle.table.specs.Calls.{Called}
use Rattle.promises.specs.Handed.{Given, in_numbers}

-- what the call table's last column says, with the new model written as a table
abbrev pub changed : Outcome → Called
changed o = record { table = written o.model; report = 0; value = o.value; steps = o.steps; bytes = o.bytes }

-- On the table t, lent the bytes bs, the call c hands back g.
pub record Demand2 (t : Table) (bs : Bytes) (c : Call) (g : Given) : Type 0 where
  -- "Each refusal is given exactly when its condition holds and no earlier one does."
  pub refused : (r : ℕ) → (r ≡ 0 → ⊥) → (number_of g.report ≡ r) ↔ First r (checks (reading t) bs c)
  pub accepted : (number_of g.report ≡ 0) ↔ NoneHolds (checks (reading t) bs c)
  -- "each call answers and changes the table exactly as documents 000 and 01 say"
  pub answers : number_of g.report ≡ 0 → in_numbers g ≡ changed (change (reading t) bs c)
  -- "An accepted change of a sound table gives a sound table, and an accepted start gives one from anything."
  pub sound : number_of g.report ≡ 0 → sound_table g.table ≡ true
