-- What is told of a text that goes wrong. Assumes nothing.
use Rattle.std.specs.Prelude.{List, ◌++◌, ℕ, codes, decimal}
use Rattle.notation.specs.declared.Fault.{Fault}

-- "bad text at byte" and the place
abbrev pub fault_told : Fault → List ℕ
fault_told fault = codes "bad text at byte " ++ decimal fault.place
