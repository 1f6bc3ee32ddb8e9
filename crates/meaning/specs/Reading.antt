-- An area of the table as a run of the model, and back; and whether a number fits the table's 32 bits. Assumes nothing.
use Rattle.std.specs.Prelude.{Bool, ℕ, ltb}
use Rattle.names.specs.declared.lines.Area.{Area}
use Rattle.meaning.specs.Model.{Run}

abbrev pub run_of : Area → Run
run_of a = record { start = a.start; length = a.length }

abbrev pub area_of : Run → Area
area_of r = record { start = r.start; length = r.length }

-- the number fits 32 bits
abbrev pub fits32 : ℕ → Bool
fits32 n = ltb n 4_294_967_296
