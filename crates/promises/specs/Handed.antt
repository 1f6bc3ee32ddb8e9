-- What a caller of the table's methods gets, by their promises and by nothing else. The three demands are about it. Assumes nothing.
use Rattle.std.specs.Prelude.{List, [], ◌∷◌, ◌≡◌, ℕ}
use Rattle.names.specs.declared.report.Report.{Report}
use Rattle.names.specs.Numbers.{number_of}
use Rattle.meaning.specs.Model.{Bytes}
use Rattle.meaning.specs.Calls.{Call, start, root, context_of, set_context, total_of, used_of, free_of, find, allocate, make_store, clear, resize, make_stack, destroy_stack, add_thread, remove_thread}
use Rattle.table.specs.declared.Table.{Table}
use Rattle.table.specs.Calls.{Called, Seen, SeenFound, called, answer, found_answer}

-- The table, the report, the value, the steps where the call is find and 0 elsewhere, and the bytes of the store area after the call.
pub record Given : Type 0 where
  pub table : Table
  pub report : Report
  pub value : ℕ
  pub steps : ℕ
  pub bytes : Bytes

-- the same, in document 01's numbers
abbrev pub in_numbers : Given → Called
in_numbers g = record { table = g.table; report = number_of g.report; value = g.value; steps = g.steps; bytes = g.bytes }

abbrev pub seen_in : Given → Seen
seen_in g = record { table = g.table; report = number_of g.report; value = g.value }

abbrev pub seen_found_in : Given → SeenFound
seen_found_in g = record { table = g.table; report = number_of g.report; value = g.value; steps = g.steps }

-- The promise of a method that is lent no bytes and tells no steps: `told`. Steps and bytes are no part of its answer; they stand here as 0 and as they were.
pub record ByAnswer (t : Table) (bs : Bytes) (c : Call) (g : Given) : Type 0 where
  pub told : seen_in g ≡ answer (called t [] c)
  pub steps : g.steps ≡ 0
  pub bytes : g.bytes ≡ bs

-- The promise of find.
pub record ByFind (t : Table) (bs : Bytes) (a : ℕ) (g : Given) : Type 0 where
  pub told : seen_found_in g ≡ found_answer (called t [] (find a))
  pub bytes : g.bytes ≡ bs

-- The promise of allocate, which is lent the store area.
pub record ByAllocate (t : Table) (bs : Bytes) (x n : ℕ) (g : Given) : Type 0 where
  pub told : seen_in g ≡ answer (called t bs (allocate x n))
  pub steps : g.steps ≡ 0
  pub bytes : g.bytes ≡ (called t bs (allocate x n)).bytes

-- On the table t and the bytes bs the method of the call hands back g.
abbrev pub Handed : Table → Bytes → Call → Given → Type 0
Handed t bs (start a b) g = ByAnswer t bs (start a b) g
Handed t bs root g = ByAnswer t bs root g
Handed t bs (context_of x) g = ByAnswer t bs (context_of x) g
Handed t bs (set_context x s) g = ByAnswer t bs (set_context x s) g
Handed t bs (total_of s) g = ByAnswer t bs (total_of s) g
Handed t bs (used_of s) g = ByAnswer t bs (used_of s) g
Handed t bs (free_of s) g = ByAnswer t bs (free_of s) g
Handed t bs (find a) g = ByFind t bs a g
Handed t bs (allocate x n) g = ByAllocate t bs x n g
Handed t bs (make_store x n) g = ByAnswer t bs (make_store x n) g
Handed t bs (clear x) g = ByAnswer t bs (clear x) g
Handed t bs (resize s n) g = ByAnswer t bs (resize s n) g
Handed t bs (make_stack n) g = ByAnswer t bs (make_stack n) g
Handed t bs (destroy_stack k) g = ByAnswer t bs (destroy_stack k) g
Handed t bs (add_thread x s) g = ByAnswer t bs (add_thread x s) g
Handed t bs (remove_thread x) g = ByAnswer t bs (remove_thread x) g

-- Calls made one after the other, each on the table and the bytes that the one before left, and what each hands back.
pub data Made : Table → Bytes → List Call → List Given → Type 0 where
  none : {t : Table} {bs : Bytes} → Made t bs [] []
  first : {t : Table} {bs : Bytes} {c : Call} {cs : List Call} {g : Given} {gs : List Given} → Handed t bs c g → Made g.table g.bytes cs gs
      → Made t bs (c ∷ cs) (g ∷ gs)

-- the table and the bytes after them
unfoldable pub last_table : Table → List Given → Table
last_table t [] = t
last_table t (g ∷ gs) = last_table g.table gs

unfoldable pub last_bytes : Bytes → List Given → Bytes
last_bytes bs [] = bs
last_bytes bs (g ∷ gs) = last_bytes g.bytes gs
