-- The sixteen calls: document 01, "The calls, with their checks in order". `checks` is the table's middle column, `change` its last, and `step` is a call
-- whole: the first check whose condition holds is the report, else the change is made. Assumes nothing.
use Rattle.std.specs.Prelude.{not, ◌&&◌, List, [], ◌∷◌, ℕ, ◌+◌, ◌-◌, eqb, if◌then◌else◌}
use Rattle.lists.specs.Keyed.{insert, remove}
use Rattle.names.specs.Overhead.{allocation_overhead, block_taken, store_taken, stack_taken}
use Rattle.meaning.specs.Model.{Run, Store, Stack, Model, Bytes, free, free_part, stack_run, store_name, thread_name, stack_name, store_of, context_in, stack_of, root_of}
use Rattle.meaning.specs.Nesting.{depth, store_holding}
use Rattle.meaning.specs.Changes.{with_used, with_total, cleared, with_context, placed, shortened, joined, zeroed, started, with_stores, with_threads, with_stacks}
use Rattle.meaning.specs.Rules.{sound}
use Rattle.meaning.specs.Reports.{Check, ◌when◌, first_report, ◌exceeds◌, context_store, parent_store, no_room_to_resize, not_empty, too_small, no_store, in_use, is_root, not_only_child, outside_root, no_stack, cannot_shrink, no_thread, not_last, touches_no_end, stores_full, stacks_full, threads_full, bad_areas, not_the_length}

-- Threads, stores and stacks are given by identifier; n is a size.
pub data Call : Type 0 where
  start : (stores stacks : Run) → Call
  root : Call
  context_of : (thread : ℕ) → Call
  set_context : (thread store : ℕ) → Call
  total_of : (store : ℕ) → Call
  used_of : (store : ℕ) → Call
  free_of : (store : ℕ) → Call
  find : (address : ℕ) → Call
  allocate : (thread n : ℕ) → Call
  make_store : (thread n : ℕ) → Call
  clear : (thread : ℕ) → Call
  resize : (store n : ℕ) → Call
  make_stack : (n : ℕ) → Call
  destroy_stack : (stack : ℕ) → Call
  add_thread : (thread store : ℕ) → Call
  remove_thread : (thread : ℕ) → Call

-- "Code in front"
abbrev pub code : Call → ℕ
code (start a b) = 0
code root = 1
code (context_of t) = 2
code (set_context t s) = 3
code (total_of s) = 4
code (used_of s) = 5
code (free_of s) = 6
code (find a) = 7
code (allocate t n) = 8
code (make_store t n) = 9
code (clear t) = 10
code (resize s n) = 11
code (make_stack n) = 12
code (destroy_stack k) = 13
code (add_thread t s) = 14
code (remove_thread t) = 15

-- ---- the middle column: the checks of each call in their order, without 16

unfoldable pub checks : Model → Bytes → Call → List Check
checks m bs (start a b) = 4 when too_small a ∷ 15 when bad_areas a b ∷ []
checks m bs root = []
checks m bs (context_of t) = 12 when no_thread m t ∷ []
checks m bs (set_context t s) = 12 when no_thread m t ∷ 5 when no_store m s ∷ []
checks m bs (total_of s) = 5 when no_store m s ∷ []
checks m bs (used_of s) = 5 when no_store m s ∷ []
checks m bs (free_of s) = 5 when no_store m s ∷ []
checks m bs (find a) = 9 when outside_root m a ∷ []
checks m bs (allocate t n) =
    15 when not_the_length m.store_area bs ∷ 12 when no_thread m t ∷ 1 when (block_taken n exceeds free (context_store m t)) ∷ []
checks m bs (make_store t n) = 12 when no_thread m t ∷ 1 when (store_taken n exceeds free (context_store m t)) ∷ 14 when stores_full m ∷ []
checks m bs (clear t) = 12 when no_thread m t ∷ 6 when in_use m (context_in m.threads t) ∷ []
checks m bs (resize s n) =
    5 when no_store m s ∷ 7 when is_root m s ∷ 8 when not_only_child m s ∷ 2 when not_empty m s ∷ 11 when cannot_shrink n ∷ 13 when not_last m s
    ∷ 1 when no_room_to_resize m s n ∷ []
checks m bs (make_stack n) = 1 when (stack_taken n exceeds m.free_run.length) ∷ 14 when stacks_full m ∷ []
checks m bs (destroy_stack k) = 10 when no_stack m k ∷ 13 when touches_no_end m.free_run (stack_run (stack_of m.stacks k)) ∷ []
checks m bs (add_thread t s) = 5 when no_store m s ∷ 14 when threads_full m t ∷ []
checks m bs (remove_thread t) = []

-- ---- changes

-- What a call gives: the report, the value, the steps that call 7 tells, the model and the bytes after it.
pub record Outcome : Type 0 where
  pub report : ℕ
  pub value : ℕ
  pub steps : ℕ
  pub model : Model
  pub bytes : Bytes

-- an accepted call with value v
abbrev pub accepted : ℕ → Model → Bytes → Outcome
accepted v m bs = record { report = 0; value = v; steps = 0; model = m; bytes = bs }

-- "Call 7 also tells the number of parent-to-child steps from the root to the answer"
abbrev pub found : ℕ → Model → Bytes → Outcome
found s m bs = record { report = 0; value = s; steps = depth m.stores s; model = m; bytes = bs }

-- "Every refusal has value 0 and changes no table field and no byte"; call 7 tells 0 steps with it.
abbrev pub refused : ℕ → Model → Bytes → Outcome
refused r m bs = record { report = r; value = 0; steps = 0; model = m; bytes = bs }

-- the last column: value and change of each call
unfoldable pub change : Model → Bytes → Call → Outcome
change m bs (start a b) = accepted a.start (started m a b) bs
change m bs root = accepted (root_of m.stores) m bs
change m bs (context_of t) = accepted (context_in m.threads t) m bs
change m bs (set_context t s) = accepted 0 (with_threads m (with_context t s m.threads)) bs
change m bs (total_of s) = accepted (store_of m.stores s).total m bs
change m bs (used_of s) = accepted (store_of m.stores s).used m bs
change m bs (free_of s) = accepted (free (store_of m.stores s)) m bs
change m bs (find a) = found (store_holding m.stores a) m bs
change m bs (allocate t n) =
    let c = context_store m t in
    let block = (free_part c).start in
    let taken = block_taken n in
    accepted (block + allocation_overhead)
    (with_stores m (with_used c.start (c.used + taken) m.stores))
    (zeroed (block - m.store_area.start) taken bs)
change m bs (make_store t n) =
    let c = context_store m t in
    let taken = store_taken n in
    let new : Store = record { start = (free_part c).start; total = taken; used = 0; parent = c.start } in
    accepted new.start (with_stores m (insert store_name new (with_used c.start (c.used + taken) m.stores))) bs
change m bs (clear t) = accepted 0 (with_stores m (cleared (context_in m.threads t) m.stores)) bs
change m bs (resize s n) =
    let p = parent_store m s in
    let total = store_taken n in
    let used = p.used + total - (store_of m.stores s).total in
    accepted s (with_stores m (with_used p.start used (with_total s total m.stores))) bs
change m bs (make_stack n) =
    let taken = stack_taken n in
    let new : Stack = record { start = m.free_run.start; total = taken } in
    accepted new.start (with_stacks m (insert stack_name new m.stacks) (shortened m.stack_area m.free_run taken)) bs
change m bs (destroy_stack k) =
    accepted 0 (with_stacks m (remove stack_name k m.stacks) (joined m.free_run (stack_run (stack_of m.stacks k)))) bs
change m bs (add_thread t s) = accepted 0 (with_threads m (placed t s m.threads)) bs
change m bs (remove_thread t) = accepted 0 (with_threads m (remove thread_name t m.threads)) bs

-- ---- a call whole

-- "Every call but 0 first checks soundness (16)": rules 1 to 7 here, and rule 8 where the table stands before its model.
unfoldable pub all_checks : Model → Bytes → Call → List Check
all_checks m bs c = 16 when (not (eqb (code c) 0) && not (sound m)) ∷ checks m bs c

-- The first check whose condition holds refuses; where none does, the call is accepted and the change is made.
abbrev pub decide : List Check → Model → Bytes → Outcome → Outcome
decide ks m bs o =
    let r = first_report ks in
    if eqb r 0 then o else refused r m bs

-- a call by its row of the table alone
unfoldable pub row : Model → Bytes → Call → Outcome
row m bs c = decide (checks m bs c) m bs (change m bs c)

-- a call whole, as the manager makes it
unfoldable pub step : Model → Bytes → Call → Outcome
step m bs c = decide (all_checks m bs c) m bs (change m bs c)
