-- The three overheads and the bytes that a request of n takes with each, as a whole number. Document 01, "What the manager covers": "The constants 4, 16 and
-- 8 stand once, as allocation, store and stack overhead". Assumes nothing.
use Rattle.std.specs.Prelude.{ℕ, ◌+◌}

abbrev pub allocation_overhead : ℕ
allocation_overhead = 4

abbrev pub store_overhead : ℕ
store_overhead = 16

abbrev pub stack_overhead : ℕ
stack_overhead = 8

-- call 8 takes n + 4 bytes
abbrev pub block_taken : ℕ → ℕ
block_taken n = n + allocation_overhead

-- call 9 takes n + 16 bytes, and call 11 gives this total
abbrev pub store_taken : ℕ → ℕ
store_taken n = n + store_overhead

-- call 12 takes n + 8 bytes
abbrev pub stack_taken : ℕ → ℕ
stack_taken n = n + stack_overhead
