-- The bytes of call 8, in words: where its block lies, and what becomes of the bytes. Bytes.antt of proofs proves it. Assumes nothing.
use Rattle.std.specs.Prelude.{◌≡◌, ℕ, ◌+◌, ◌-◌, ◌<◌, ◌≤◌, length, get_or}
use Rattle.meaning.specs.Model.{Model, Bytes, free_part}
use Rattle.meaning.specs.Reports.{context_store}

-- the offset in the store area of the block that a thread's next allocation takes
abbrev pub block_offset : Model → ℕ → ℕ
block_offset m t = (free_part (context_store m t)).start - m.store_area.start

-- The bytes after an accepted allocation, against those before it: the block lies in them; as many, all of the block 0, all others the same.
pub record BlockZeroed (o n : ℕ) (before after : Bytes) : Type 0 where
  pub there : o + n ≤ length before
  pub long : length after ≡ length before
  pub low : (i : ℕ) → i < o → get_or after i 0 ≡ get_or before i 0
  pub block : (i d : ℕ) → o ≤ i → i < o + n → get_or after i d ≡ 0
  pub high : (i : ℕ) → o + n ≤ i → get_or after i 0 ≡ get_or before i 0
