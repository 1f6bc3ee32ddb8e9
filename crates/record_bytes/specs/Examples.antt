-- The first record of document 01's example by computation. Assumes nothing.
use Rattle.std.specs.Prelude.{[], ◌∷◌, ◌≡◌, refl}
use Rattle.record_bytes.specs.Records.{record_bytes}

-- 0(4096,256,8192,64)
pub example_record : record_bytes 0 (4096 ∷ 256 ∷ 8192 ∷ 64 ∷ []) ≡ 77 ∷ 83 ∷ 0 ∷ 0 ∷ 16 ∷ 0 ∷ 0 ∷ 0 ∷ 1 ∷ 0 ∷ 0 ∷ 0 ∷ 32 ∷ 0 ∷ 0 ∷ 64 ∷ 0 ∷ 0 ∷ 0 ∷ []
unfolding record_bytes
example_record = refl
