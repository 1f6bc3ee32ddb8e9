-- Which lines a call touches, and what "all else stays" says: the statement that Stays.antt proves of every call. Of a store that stays the parent never
-- changes, the total by a resize alone, and the used by the calls that take or give back its bytes. Assumes nothing.
use Rattle.std.specs.Prelude.{Bool, true, false, List, ◌≡◌, ℕ, eqb}
use Rattle.lists.specs.Keyed.{has, at}
use Rattle.meaning.specs.Model.{Store, Model, free_part, thread_name, stack_name, no_such_thread, no_such_stack, context_in}
use Rattle.meaning.specs.Nesting.{nested, parent_in}
use Rattle.meaning.specs.Reports.{context_store}
use Rattle.meaning.specs.Calls.{Call, start, root, context_of, set_context, total_of, used_of, free_of, find, allocate, make_store, clear, resize, make_stack, destroy_stack, add_thread, remove_thread}
use Rattle.laws.specs.ByName.{Listed, total_in, used_in}

-- By identifier: the stores of another used, of another total, those that go and those that come; the threads and the stacks that change, go or come.
pub record Touched : Type 0 where
  pub used : ℕ → Bool
  pub total : ℕ → Bool
  pub gone : ℕ → Bool
  pub made : ℕ → Bool
  pub threads : ℕ → Bool
  pub stacks : ℕ → Bool

-- tests of identifiers: none, every one, only s
abbrev pub nothing : ℕ → Bool
nothing k = false

abbrev pub anything : ℕ → Bool
anything k = true

abbrev pub just : ℕ → ℕ → Bool
just s k = eqb k s

abbrev no_line : Touched
no_line = record { used = nothing; total = nothing; gone = nothing; made = nothing; threads = nothing; stacks = nothing }

abbrev every_line : Touched
every_line = record { used = anything; total = anything; gone = anything; made = anything; threads = anything; stacks = anything }

abbrev pub store_lines : (ℕ → Bool) → (ℕ → Bool) → (ℕ → Bool) → (ℕ → Bool) → Touched
store_lines used total gone made = record { used = used; total = total; gone = gone; made = made; threads = nothing; stacks = nothing }

abbrev pub thread_line : ℕ → Touched
thread_line t = record { used = nothing; total = nothing; gone = nothing; made = nothing; threads = just t; stacks = nothing }

abbrev pub stack_line : ℕ → Touched
stack_line k = record { used = nothing; total = nothing; gone = nothing; made = nothing; threads = nothing; stacks = just k }

-- call by call
unfoldable pub touched : Model → Call → Touched
touched m (start a b) = every_line
touched m root = no_line
touched m (context_of t) = no_line
touched m (set_context t s) = thread_line t
touched m (total_of s) = no_line
touched m (used_of s) = no_line
touched m (free_of s) = no_line
touched m (find a) = no_line
touched m (allocate t n) = store_lines (just (context_in m.threads t)) nothing nothing nothing
touched m (make_store t n) = store_lines (just (context_in m.threads t)) nothing nothing (just (free_part (context_store m t)).start)
touched m (clear t) = store_lines (just (context_in m.threads t)) nothing (λ k. nested m.stores k (context_in m.threads t)) nothing
touched m (resize s n) = store_lines (just (parent_in m.stores s)) (just s) nothing nothing
touched m (make_stack n) = stack_line m.free_run.start
touched m (destroy_stack k) = stack_line k
touched m (add_thread t s) = thread_line t
touched m (remove_thread t) = thread_line t

-- ---- what stays

-- both lists have the same line of this key, or neither has one
abbrev pub SameLine : {A : Type 0} → (A → ℕ) → (ℕ → A) → List A → List A → ℕ → Type 0
SameLine key none l after k = (has key after k ≡ has key l k) × (at key none after k ≡ at key none l k)

-- A listed store that does not go stays listed, with its parent, its total and its used where they are not touched; none comes that is not made.
pub record StoresStay (t : Touched) (ss after : List Store) : Type 0 where
  pub stay : (k : ℕ) → Listed ss k → t.gone k ≡ false → Listed after k
  pub come : (k : ℕ) → Listed after k → t.made k ≡ false → Listed ss k
  pub parents : (k : ℕ) → Listed ss k → t.gone k ≡ false → parent_in after k ≡ parent_in ss k
  pub totals : (k : ℕ) → Listed ss k → t.gone k ≡ false → t.total k ≡ false → total_in after k ≡ total_in ss k
  pub useds : (k : ℕ) → Listed ss k → t.gone k ≡ false → t.used k ≡ false → used_in after k ≡ used_in ss k

-- The stores stay so; a thread or stack that is not touched stays as it is; and so does the free run, where no stack is touched.
pub record Stays (t : Touched) (m after : Model) : Type 0 where
  pub stores : StoresStay t m.stores after.stores
  pub threads : (k : ℕ) → t.threads k ≡ false → SameLine thread_name no_such_thread m.threads after.threads k
  pub stacks : (k : ℕ) → t.stacks k ≡ false → SameLine stack_name no_such_stack m.stacks after.stacks k
  pub free_run : ((k : ℕ) → t.stacks k ≡ false) → after.free_run ≡ m.free_run
