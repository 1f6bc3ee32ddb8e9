-- When each report number is given: document 01, "Report numbers". A condition stands under its number; 16 is `sound` of Rules.antt with
-- the table's rule 8, and 3 is not used.
-- Assumes nothing.
use Rattle.std.specs.Prelude.{Bool, true, false, not, ◌&&◌, ◌||◌, List, [], ◌∷◌, ◌≡◌, ℕ, ◌+◌, length, leb, ltb, eqb, if◌then◌else◌}
use Rattle.lists.specs.Lists.{all, any, rest}
use Rattle.lists.specs.Keyed.{has}
use Rattle.names.specs.Overhead.{store_overhead, store_taken}
use Rattle.meaning.specs.Model.{Run, Store, Model, Bytes, end, ◌holds◌, whole, free, free_part, thread_name, stack_name, listed, store_of, context_in, root_of}
use Rattle.meaning.specs.Nesting.{nested, parent_in}
use Rattle.meaning.specs.Rules.{areas_sound}

-- a report, and whether its condition holds
pub record Check : Type 0 where
  pub report : ℕ
  pub condition : Bool

infix 70 ◌when◌
abbrev pub ◌when◌ : ℕ → Bool → Check
n when b = record { report = n; condition = b }

-- the report that checks in order give: the first whose condition holds, 0 where none does
unfoldable pub first_report : List Check → ℕ
first_report [] = 0
first_report (k ∷ ks) = if k.condition then k.report else first_report ks

-- r is the report of the first of the checks whose condition holds: its own holds and no earlier one does
pub data First (r : ℕ) : List Check → Type 0 where
  here : {k : Check} {ks : List Check} → k.condition ≡ true → k.report ≡ r → First r (k ∷ ks)
  later : {k : Check} {ks : List Check} → k.condition ≡ false → First r ks → First r (k ∷ ks)

-- no condition of the checks holds
abbrev pub NoneHolds : List Check → Type 0
NoneHolds ks = all (λ k. not k.condition) ks ≡ true

-- the store of a listed thread's context
abbrev pub context_store : Model → ℕ → Store
context_store m t = store_of m.stores (context_in m.threads t)

-- the parent of a store, as a store
abbrev pub parent_store : Model → ℕ → Store
parent_store m s = store_of m.stores (parent_in m.stores s)

infix 40 ◌exceeds◌
-- 1 out of memory. Calls 8, 9, 12: n plus overhead, as whole numbers, exceeds the free bytes.
abbrev pub ◌exceeds◌ : ℕ → ℕ → Bool
bytes exceeds room = ltb room bytes

-- Call 11: n + 16 exceeds the store's old total plus its parent's free.
abbrev pub no_room_to_resize : Model → ℕ → ℕ → Bool
no_room_to_resize m s n = store_taken n exceeds ((store_of m.stores s).total + free (parent_store m s))

-- 2 not empty: the store's used is not 0.
abbrev pub not_empty : Model → ℕ → Bool
not_empty m s = not (eqb (store_of m.stores s).used 0)

-- 4 size too small: store area shorter than 16.
abbrev pub too_small : Run → Bool
too_small area = ltb area.length store_overhead

-- 5 no such store: identifier not listed.
abbrev pub no_store : Model → ℕ → Bool
no_store m s = not (listed m.stores s)

-- 6 store in use: some thread's context is nested in the store to be cleared.
abbrev pub in_use : Model → ℕ → Bool
in_use m s = any (λ t. nested m.stores t.context s) m.threads

-- 7 root resize: the store is the root.
abbrev pub is_root : Model → ℕ → Bool
is_root m s = eqb s (root_of m.stores)

-- 8 not only child: its parent has another child.
abbrev pub not_only_child : Model → ℕ → Bool
not_only_child m s = any (λ c. eqb c.parent (parent_in m.stores s) && not (eqb c.start s)) (rest m.stores)

-- 9 unknown address: outside the root's total (call 7), or the run rule (RunQuestion.antt).
abbrev pub outside_root : Model → ℕ → Bool
outside_root m a = not (whole (store_of m.stores (root_of m.stores)) holds a)

-- 10 no such stack: identifier not listed.
abbrev pub no_stack : Model → ℕ → Bool
no_stack m k = not (has stack_name m.stacks k)

-- 11 cannot shrink: new total below 16.
abbrev pub cannot_shrink : ℕ → Bool
cannot_shrink n = ltb (store_taken n) store_overhead

-- 12 no thread context: thread not listed.
abbrev pub no_thread : Model → ℕ → Bool
no_thread m t = not (has thread_name m.threads t)

-- 13 fragmentation. Call 11: the store does not end where its parent's free part begins, even at an equal size.
abbrev pub not_last : Model → ℕ → Bool
not_last m s = not (eqb (end (whole (store_of m.stores s))) (free_part (parent_store m s)).start)

-- Call 13: the free run is not empty and the stack touches neither end of it.
abbrev pub touches_no_end : Run → Run → Bool
touches_no_end run stack = not (eqb run.length 0) && not (eqb (end stack) run.start || eqb (end run) stack.start)

-- 14 table full: 64 stores, 32 stacks, or 32 threads and this one new.
abbrev pub stores_full : Model → Bool
stores_full m = leb m.limits.stores (length m.stores)

abbrev pub stacks_full : Model → Bool
stacks_full m = leb m.limits.stacks (length m.stacks)

abbrev pub threads_full : Model → ℕ → Bool
threads_full m t = leb m.limits.threads (length m.threads) && no_thread m t

-- 15 bad area. Call 0: rule 1 broken otherwise than by a short store area, which 4 tells before.
abbrev pub bad_areas : Run → Run → Bool
bad_areas stores stacks = not (areas_sound stores stacks)

-- Elsewhere: a lent area's length is not the table's.
abbrev pub not_the_length : Run → Bytes → Bool
not_the_length area bytes = not (eqb (length bytes) area.length)
