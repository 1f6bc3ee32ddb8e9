-- The numbers so far stand behind the mark and the code.
use Rattle.std.proofs.Common.{◌≡◌, ◌∷◌, take, replicate}
use Rattle.std.specs.Prelude.{flat_map}
use Rattle.texts.specs.Buffer.{overwritten}
use Rattle.record_bytes.specs.Records.{low_first}
use Rattle.record_bytes.proofs.bytes_of.Given as goal

abbrev pub invariant-loop-i : goal.invariant-loop-i
invariant-loop-i l = l.bytes ≡ overwritten 3 (flat_map low_first (take l.i l.n-items)) (77 ∷ 83 ∷ l.code ∷ replicate 16 0)
