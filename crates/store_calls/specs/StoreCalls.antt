-- The calls that take or give back room, by their rows of document 01's table, on the lists that they look at. Assumes nothing.
use Rattle.std.specs.Prelude.{Bool, ◌&&◌, Result, Ok, Err, List, [], ◌≡◌, ◌≢◌, ℕ, ◌+◌, ◌-◌, length, eqb, if◌then◌else◌}
use borrow.Author.Tests.{ne_eqb}
use Rattle.names.specs.declared.report.Report.{Report}
use Rattle.names.specs.Numbers.{Told, told_of, number_of}
use Rattle.names.specs.Overhead.{store_taken}
use lib.ListN.{length-map}
use Rattle.meaning.specs.Model.{Store, Model, store_of}
use Rattle.meaning.specs.Changes.{with_used}
use Rattle.meaning.specs.Reports.{first_report, parent_store}
use Rattle.meaning.specs.Calls.{Call, Outcome, start, root, context_of, set_context, total_of, used_of, free_of, find, allocate, make_store, clear, resize, make_stack, destroy_stack, add_thread, remove_thread, checks, change, row}
use Rattle.meaning.specs.Parts.{stores_alone, told_by}
use Rattle.meaning.specs.Reading.{fits32}
use Rattle.threads.specs.declared.Threads.{Threads}
use Rattle.threads.specs.Threads.{reading as threads_of, written as threads_written, reading_written}
use Rattle.stores.specs.declared.Stores.{Stores}
use Rattle.stores.specs.Stores.{reading as stores_of, written as stores_written}
use Rattle.store_calls.specs.declared.room.Roomed.{Roomed}

-- the stores after a call, and what it tells
pub record Seen : Type 0 where
  pub stores : Stores
  pub told : Told

-- a call that was made on a list: an accepted one hands back the new list, a refused one leaves the list that it was made on
abbrev pub seen : Stores → Result Roomed Report → Seen
seen old (Ok r) = record { stores = r.stores; told = told_of (Ok r.value) }
seen old (Err r) = record { stores = old; told = told_of (Err r) }

-- checks that give this report: no error where it is 0, else the error of its number
abbrev pub Refuses : ℕ → Result (Unit {0}) Report → Type 0
Refuses k (Ok u) = k ≡ 0
Refuses k (Err r) = (number_of r ≡ k) × (k ≢ 0)

-- the used of a resized store's parent
abbrev pub resized_used : Model → ℕ → ℕ → ℕ
resized_used m s n = (parent_store m s).used + store_taken n - (store_of m.stores s).total

-- the numbers that a call makes fit 32 bits; on a sound table they do
abbrev pub all_fit : Model → Call → ℕ → Bool
all_fit m (start a b) v = fits32 v
all_fit m root v = fits32 v
all_fit m (context_of t) v = fits32 v
all_fit m (set_context t s) v = fits32 v
all_fit m (total_of s) v = fits32 v
all_fit m (used_of s) v = fits32 v
all_fit m (free_of s) v = fits32 v
all_fit m (find a) v = fits32 v
all_fit m (allocate t n) v = fits32 v
all_fit m (make_store t n) v = fits32 v
all_fit m (clear t) v = fits32 v
all_fit m (resize s n) v = fits32 (store_taken n) && fits32 (resized_used m s n)
all_fit m (make_stack n) v = fits32 v
all_fit m (destroy_stack k) v = fits32 v
all_fit m (add_thread t s) v = fits32 v
all_fit m (remove_thread t) v = fits32 v

-- a refusal
abbrev pub kept : Stores → ℕ → Seen
kept stores r = record { stores = stores; told = record { report = r; value = 0 } }

-- an accepted call: its stores are written where its numbers fit, else it is refused by 16
abbrev pub settled : Stores → Bool → Outcome → Seen
settled stores fit o = if fit then record { stores = stores_written o.model.stores; told = told_by o } else kept stores 16

-- a call that takes or gives back room
unfoldable pub roomed : Stores → Threads → Call → Seen
roomed stores threads c =
    let m = stores_alone (stores_of stores) (threads_of threads) in
    let o = row m [] c in
    if eqb o.report 0 then settled stores (all_fit m c o.value) o else kept stores o.report

-- call 11 where its checks find nothing
unfoldable pub resized : Stores → ℕ → ℕ → Seen
resized stores s n =
    let m = stores_alone (stores_of stores) [] in
    settled stores (all_fit m (resize s n) s) (change m [] (resize s n))

-- call 9 takes its room before the new store is put in: there are as many stores as before
pub grown_length : (ss : List Store) (s used : ℕ) → length (with_used s used ss) ≡ length ss
grown_length ss s used = length-map ss _

-- ---- the two ways out of call 11, from the report that its checks give

module _ (stores : Stores) (s n : ℕ) where
  no_threads : threads_of (threads_written []) ≡ []
  no_threads = reading_written []

  pub resize_refused : (r : ℕ) → r ≡ first_report (checks (stores_alone (stores_of stores) []) [] (resize s n)) → (r ≡ 0 → ⊥)
      → kept stores r ≡ roomed stores (threads_written []) (resize s n)
  unfolding roomed row
  resize_refused r e h = rw (no_threads, ← e, ne_eqb r 0 h, ne_eqb r 0 h)

  pub resize_accepted : (r : ℕ) → r ≡ first_report (checks (stores_alone (stores_of stores) []) [] (resize s n)) → r ≡ 0
      → resized stores s n ≡ roomed stores (threads_written []) (resize s n)
  unfolding roomed row resized change
  resize_accepted r e h = rw (no_threads, ← e, h)
