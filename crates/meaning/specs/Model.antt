-- The model: what a table means, on lists and whole numbers. Document 01, "What the manager covers" and "The table". A store's and a stack's identifier is
-- its first address; a thread's is any number. Assumes nothing.
use Rattle.std.specs.Prelude.{Bool, ◌&&◌, ◌||◌, List, [], ◌∷◌, ℕ, ◌+◌, ◌-◌, leb, ltb, eqb}
use Rattle.lists.specs.Keyed.{has, at}
use Rattle.names.specs.Overhead.{store_overhead}

-- ---- runs of addresses

-- `length` addresses from `start` on: an area, the free run, a store's or a stack's total, a part of a store
pub record Run : Type 0 where
  pub start : ℕ
  pub length : ℕ

-- the address after the last
abbrev pub end : Run → ℕ
end r = r.start + r.length

infix 40 ◌holds◌ ◌inside◌ ◌apart_from◌
-- the run holds the address
unfoldable pub ◌holds◌ : Run → ℕ → Bool
r holds a = leb r.start a && ltb a (end r)

-- the first run lies in the second
unfoldable pub ◌inside◌ : Run → Run → Bool
r inside s = leb s.start r.start && leb (end r) (end s)

-- the runs share no address: one ends before the other begins, or one is empty
unfoldable pub ◌apart_from◌ : Run → Run → Bool
r apart_from s = leb (end r) s.start || leb (end s) r.start || eqb r.length 0 || eqb s.length 0

-- ---- lines

pub record Store : Type 0 where
  pub start : ℕ
  pub total : ℕ
  pub used : ℕ
  pub parent : ℕ

pub record Thread : Type 0 where
  pub identifier : ℕ
  pub context : ℕ

pub record Stack : Type 0 where
  pub start : ℕ
  pub total : ℕ

-- how many lines a table has: "At most 64 stores, 32 threads, 32 stacks." A table of this size has `table_limits`; no call changes them.
pub record Limits : Type 0 where
  pub stores : ℕ
  pub threads : ℕ
  pub stacks : ℕ

-- The lists hold the lines in use alone: counts and lines past them are the table's.
pub record Model : Type 0 where
  pub store_area : Run
  pub stack_area : Run
  pub stores : List Store
  pub threads : List Thread
  pub stacks : List Stack
  pub free_run : Run
  pub limits : Limits

-- the bytes of a lent area, from its first address on
abbrev pub Bytes : Type 0
Bytes = List ℕ

abbrev pub table_limits : Limits
table_limits = record { stores = 64; threads = 32; stacks = 32 }

-- ---- parts of a line

-- a store's total, as the addresses it covers
abbrev pub whole : Store → Run
whole s = record { start = s.start; length = s.total }

-- "Its used part is the used bytes from start + 16"
abbrev pub used_part : Store → Run
used_part s = record { start = s.start + store_overhead; length = s.used }

-- "used + free + 16 = total"
abbrev pub free : Store → ℕ
free s = s.total - (s.used + store_overhead)

-- "its free part is the rest, up to its end"
abbrev pub free_part : Store → Run
free_part s = record { start = end (used_part s); length = free s }

-- a stack's total, as the addresses it covers
abbrev pub stack_run : Stack → Run
stack_run k = record { start = k.start; length = k.total }

-- ---- lines by identifier

abbrev pub store_name : Store → ℕ
store_name s = s.start

abbrev pub thread_name : Thread → ℕ
thread_name t = t.identifier

abbrev pub stack_name : Stack → ℕ
stack_name k = k.start

-- a store with this identifier is listed
abbrev pub listed : List Store → ℕ → Bool
listed ss s = has store_name ss s

-- what stands for a store that is not listed: an empty one that is its own parent
abbrev pub no_such_store : ℕ → Store
no_such_store s = record { start = s; total = 0; used = 0; parent = s }

-- the store of this identifier
abbrev pub store_of : List Store → ℕ → Store
store_of ss s = at store_name no_such_store ss s

-- what stands for a thread that is not listed: context 0
abbrev pub no_such_thread : ℕ → Thread
no_such_thread t = record { identifier = t; context = 0 }

-- the context of this thread
abbrev pub context_in : List Thread → ℕ → ℕ
context_in ts t = (at thread_name no_such_thread ts t).context

-- what stands for a stack that is not listed: an empty one
abbrev pub no_such_stack : ℕ → Stack
no_such_stack k = record { start = k; total = 0 }

-- the stack of this identifier
abbrev pub stack_of : List Stack → ℕ → Stack
stack_of ks k = at stack_name no_such_stack ks k

-- the root's identifier: "The first store is the root"
abbrev pub root_of : List Store → ℕ
root_of [] = 0
root_of (r ∷ ss) = r.start
