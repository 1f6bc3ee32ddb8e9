-- A buffer with bytes put at a place. Assumes nothing.
use Rattle.std.specs.Prelude.{Bool, List, ◌++◌, ◌≡◌, ℕ, ◌+◌, leb, length, take, drop, Option, Some, None, if◌then◌else◌}

-- the buffer with the bytes from `at` on; all others stay
unfoldable pub overwritten : ℕ → List ℕ → List ℕ → List ℕ
overwritten at bytes buffer = take at buffer ++ bytes ++ drop (at + length bytes) buffer

abbrev pub fits : ℕ → List ℕ → List ℕ → Bool
fits at bytes buffer = leb (at + length bytes) (length buffer)

-- what the buffer holds after bytes are written at a place: nothing changes where they do not fit
unfoldable pub placed : ℕ → List ℕ → List ℕ → List ℕ
placed at bytes buffer = if fits at bytes buffer then overwritten at bytes buffer else buffer

-- the place after them, or the same place where they do not fit
unfoldable pub place_after : ℕ → List ℕ → List ℕ → ℕ
place_after at bytes buffer = if fits at bytes buffer then at + length bytes else at

-- the place after bytes that are written at a place of a buffer, where they fit
unfoldable pub end_of : ℕ → List ℕ → List ℕ → Option ℕ
end_of at bytes buffer = if fits at bytes buffer then Some (at + length bytes) else None

-- bytes put at a place: what the buffer then holds, and the place after the bytes
abbrev pub Put : ℕ → List ℕ → List ℕ → List ℕ → ℕ → Type 0
Put at bytes buffer after place = (after ≡ overwritten at bytes buffer) × (place ≡ at + length bytes)
