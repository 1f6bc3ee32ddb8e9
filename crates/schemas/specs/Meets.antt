-- What the manager's step meets of 000, call by call: for every report of MMReport that a call tells, the robust schema of its name, from the model before,
-- read as a state, to the model after, with the other half of the state as it was. Assumes nothing.
use Rattle.std.specs.Prelude.{◌⊎◌, true, false, ◌≡◌, refl, ℕ, ◌+◌}
use Rattle.std.proofs.Common.{sym, ◌∙◌, ap, arith}
use Rattle.names.specs.Overhead.{allocation_overhead, store_taken}
use Rattle.meaning.specs.Model.{Model, Bytes}
use Rattle.meaning.specs.Calls.{Call, start, root, context_of, set_context, total_of, used_of, free_of, find, allocate, make_store, clear, resize, make_stack, destroy_stack, add_thread, remove_thread, Outcome, code, step}
use Rattle.schemas.specs.Reports.{MMReport, MMfragmentation, number, number_names, Success}
use Rattle.schemas.specs.Stores.{Backing, BackingStore, BSSizeTooSmall}
use Rattle.schemas.specs.Global.{Global, ΞGlobalMemoryManager, GlobalNonexistentBS, RGlobalMemoryManagerInit, RGlobalGetRootBackingStore, RGlobalGetTotalSize, RGlobalGetUsedSize, RGlobalGetFreeSize, RGlobalFindAddress, RGlobalResizeBS}
use Rattle.schemas.specs.Threads.{ThreadAdd, ThreadRemove, RThreadGetAC, RThreadSetAC, RThreadAllocateMemory, RThreadMakeBS, RThreadClearBS}
use Rattle.schemas.specs.Stacks.{StackSpace, ΞStackMemoryManager, StackMemoryManagerInit, RStackCreate, RStackDelete}
use Rattle.schemas.specs.Reading.{global_of, stacks_of}
use Rattle.schemas.specs.Steps.{told_sound}
use Rattle.schemas.specs.Untouched.{on_stacks, stacks_untouched, stores_untouched}
use Rattle.schemas.specs.Start.{start_meets}
use Rattle.schemas.specs.Questions.{root_meets, context_meets, total_meets, used_meets, free_meets, find_meets}
use Rattle.schemas.specs.ThreadCalls.{set_meets, add_meets, remove_meets}
use Rattle.schemas.specs.Allocate.{allocate_meets}
use Rattle.schemas.specs.MakeStore.{make_store_meets}
use Rattle.schemas.specs.Clear.{clear_meets}
use Rattle.schemas.specs.Resize.{resize_meets, resize_value}
use Rattle.schemas.specs.StackCalls.{make_stack_meets, destroy_stack_meets}

-- the half of stores and threads, from before a call to after it
abbrev OnStores : Model → Outcome → (Global → Global → Type 1) → Type 1
OnStores m o schema = schema (global_of m) (global_of o.model) × ΞStackMemoryManager (stacks_of m) (stacks_of o.model)

-- the half of stacks
abbrev OnStacks : Model → Outcome → (StackSpace → StackSpace → Type 0) → Type 1
OnStacks m o schema = schema (stacks_of m) (stacks_of o.model) × ΞGlobalMemoryManager (global_of m) (global_of o.model)

-- what a call that tells the report r meets, where o is its outcome
abbrev pub Meets : Model → Outcome → Call → MMReport → Type 1
-- 0: the two initialisations; of a short store area, the error half of RBackingStoreInit, whatever the store
Meets m o (start a b) r =
    (RGlobalMemoryManagerInit (global_of o.model) a r × StackMemoryManagerInit (stacks_of o.model) b)
    ⊎ ((store : Backing) → BackingStore store → BSSizeTooSmall store store a r)
Meets m o root r = OnStores m o (λ g g'. RGlobalGetRootBackingStore g g' o.value r)
Meets m o (context_of t) r = OnStores m o (λ g g'. RThreadGetAC g g' t o.value r)
Meets m o (set_context t s) r = OnStores m o (λ g g'. RThreadSetAC g g' t s r)
Meets m o (total_of s) r = OnStores m o (λ g g'. RGlobalGetTotalSize g g' s o.value r)
Meets m o (used_of s) r = OnStores m o (λ g g'. RGlobalGetUsedSize g g' s o.value r)
Meets m o (free_of s) r = OnStores m o (λ g g'. RGlobalGetFreeSize g g' s o.value r)
Meets m o (find a) r = OnStores m o (λ g g'. RGlobalFindAddress g g' a o.value r)
-- 8: the value is 000's address plus the overhead
Meets m o (allocate t n) r =
    (address : ℕ) × (Success r → o.value ≡ address + allocation_overhead) × OnStores m o (λ g g'. RThreadAllocateMemory g g' t n address r)
Meets m o (make_store t n) r = OnStores m o (λ g g'. RThreadMakeBS g g' t n o.value r)
Meets m o (clear t) r = OnStores m o (λ g g'. RThreadClearBS g g' t r)
-- 11: 000's new size is the new total, and its new identifier, the value, is the old one; 13 is no report of 000's here
Meets m o (resize s n) r =
    (r ≡ MMfragmentation → ⊥) → (Success r → o.value ≡ s) × OnStores m o (λ g g'. RGlobalResizeBS g g' s (store_taken n) s r)
Meets m o (make_stack n) r = OnStacks m o (λ s s'. RStackCreate s s' n o.value r)
Meets m o (destroy_stack k) r = OnStacks m o (λ s s'. RStackDelete s s' k r)
-- 14: ThreadAdd reports nothing; the refusal of an unknown store is document 01's
Meets m o (add_thread t s) r = OnStores m o (λ g g'. (ThreadAdd g g' t s × Success r) ⊎ GlobalNonexistentBS g g' s r)
Meets m o (remove_thread t) r = OnStores m o (λ g g'. ThreadRemove g g' t × Success r)

module _ (m : Model) (bs : Bytes) (c : Call) (r : MMReport) (n : code c ≡ 0 → ⊥) (h : (step m bs c).report ≡ number r) where
  stacks_same : on_stacks c ≡ false → ΞStackMemoryManager (stacks_of m) (stacks_of (step m bs c).model)
  stacks_same s = stacks_untouched m bs c (told_sound m bs c r n h).0 n s

  stores_same : on_stacks c ≡ true → ΞGlobalMemoryManager (global_of m) (global_of (step m bs c).model)
  stores_same s = stores_untouched m bs c (told_sound m bs c r n h).0 n s

-- Every call that tells a report of MMReport meets its schema.
pub step_meets : (m : Model) (bs : Bytes) (c : Call) (r : MMReport) → (step m bs c).report ≡ number r → Meets m (step m bs c) c r
step_meets m bs (start a b) r h = start_meets m bs a b r h
step_meets m bs root r h = (root_meets m bs r h, stacks_same m bs root r (omega arith) h refl)
step_meets m bs (context_of t) r h = (context_meets m bs t r h, stacks_same m bs (context_of t) r (omega arith) h refl)
step_meets m bs (set_context t s) r h = (set_meets m bs t s r h, stacks_same m bs (set_context t s) r (omega arith) h refl)
step_meets m bs (total_of s) r h = (total_meets m bs s r h, stacks_same m bs (total_of s) r (omega arith) h refl)
step_meets m bs (used_of s) r h = (used_meets m bs s r h, stacks_same m bs (used_of s) r (omega arith) h refl)
step_meets m bs (free_of s) r h = (free_meets m bs s r h, stacks_same m bs (free_of s) r (omega arith) h refl)
step_meets m bs (find a) r h = (find_meets m bs a r h, stacks_same m bs (find a) r (omega arith) h refl)
step_meets m bs (allocate t n) r h =
    let a = allocate_meets m bs t n r h in
    (a.0, a.1, (a.2, stacks_same m bs (allocate t n) r (omega arith) h refl))
step_meets m bs (make_store t n) r h = (make_store_meets m bs t n r h, stacks_same m bs (make_store t n) r (omega arith) h refl)
step_meets m bs (clear t) r h = (clear_meets m bs t r h, stacks_same m bs (clear t) r (omega arith) h refl)
step_meets m bs (resize s n) r h = λ other. let c = resize s n in (
  λ ok. resize_value m bs s n (h ∙ ap number ok),
  (resize_meets m bs s n r h (λ e. other (number_names (sym e))), stacks_same m bs c r (omega arith) h refl),
)
step_meets m bs (make_stack n) r h = (make_stack_meets m bs n r h, stores_same m bs (make_stack n) r (omega arith) h refl)
step_meets m bs (destroy_stack k) r h = (destroy_stack_meets m bs k r h, stores_same m bs (destroy_stack k) r (omega arith) h refl)
step_meets m bs (add_thread t s) r h = (add_meets m bs t s r h, stacks_same m bs (add_thread t s) r (omega arith) h refl)
step_meets m bs (remove_thread t) r h = (remove_meets m bs t r h, stacks_same m bs (remove_thread t) r (omega arith) h refl)
