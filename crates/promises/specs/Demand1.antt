-- Demand 1: "Every call, on every table and every argument, returns. A forged table (except at a start) and an impossible size are refused by number. A refused
-- call returns the value 0 and leaves the table and every lent byte as it was." That every call returns is proved of every function by the language.
-- `demand1` of Proof1.antt of proofs proves the rest, of every table, every call and all bytes. Assumes nothing.
use Rattle.std.specs.Prelude.{Bool, true, false, not, ◌≡◌, ltb}
use Rattle.names.specs.Numbers.{number_of}
use Rattle.names.specs.Overhead.{block_taken, store_taken, stack_taken}
use Rattle.meaning.specs.Model.{Model, Bytes}
use Rattle.meaning.specs.Rules.{areas_sound}
use Rattle.meaning.specs.Calls.{Call, start, root, context_of, set_context, total_of, used_of, free_of, find, allocate, make_store, clear, resize, make_stack, destroy_stack, add_thread, remove_thread, code}
use Rattle.table.specs.declared.Table.{Table}
use Rattle.table.specs.Table.{reading, sound_table}
use Rattle.promises.specs.Handed.{Given}

-- an impossible size: areas that break rule 1, and n bytes with their overhead where the whole area is shorter
unfoldable pub impossible : Model → Call → Bool
impossible m (start a b) = not (areas_sound a b)
impossible m root = false
impossible m (context_of x) = false
impossible m (set_context x s) = false
impossible m (total_of s) = false
impossible m (used_of s) = false
impossible m (free_of s) = false
impossible m (find a) = false
impossible m (allocate x n) = ltb m.store_area.length (block_taken n)
impossible m (make_store x n) = ltb m.store_area.length (store_taken n)
impossible m (clear x) = false
impossible m (resize s n) = ltb m.store_area.length (store_taken n)
impossible m (make_stack n) = ltb m.stack_area.length (stack_taken n)
impossible m (destroy_stack k) = false
impossible m (add_thread x s) = false
impossible m (remove_thread x) = false

-- a refusal is a report other than 0
abbrev pub Refused : Given → Type 0
Refused g = number_of g.report ≡ 0 → ⊥

-- On the table t, lent the bytes bs, the call c hands back g.
pub record Demand1 (t : Table) (bs : Bytes) (c : Call) (g : Given) : Type 0 where
  -- "A forged table (except at a start)
  pub forged : sound_table t ≡ false → (code c ≡ 0 → ⊥) → number_of g.report ≡ 16
  -- and an impossible size are refused by number."
  pub size : impossible (reading t) c ≡ true → Refused g
  -- "A refused call returns the value 0
  pub value : Refused g → g.value ≡ 0
  -- (call 7's steps: "0 with a refusal")
  pub steps : Refused g → g.steps ≡ 0
  -- and leaves the table
  pub table : Refused g → g.table ≡ t
  -- and every lent byte as it was."
  pub bytes : Refused g → g.bytes ≡ bs
