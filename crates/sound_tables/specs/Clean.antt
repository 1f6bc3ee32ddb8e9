-- A list that is written obeys rule 8, where it is no longer than the table has lines. Assumes nothing.
use Rattle.std.specs.Prelude.{true, List, ◌≡◌, refl, ◌≤◌, length}
use Rattle.std.proofs.Common.{le-leb}
use Rattle.lists.specs.Tests.{and_iff}
use Rattle.lines.specs.Shape.{blank_past}
use Rattle.meaning.specs.Model.{Store, Thread, Stack}
use Rattle.stores.specs.Stores
use Rattle.threads.specs.Threads
use Rattle.stacks.specs.Stacks

pub stores_clean_lem : (ss : List Store) → length ss ≤ 64 → Stores.clean (Stores.written ss) ≡ true
unfolding Stores.clean Stores.written
stores_clean_lem ss h = (and_iff _ _).1 (le-leb (length ss) 64 h, blank_past Stores.store_line refl ss)

pub threads_clean_lem : (ts : List Thread) → length ts ≤ 32 → Threads.clean (Threads.written ts) ≡ true
unfolding Threads.clean Threads.written
threads_clean_lem ts h = (and_iff _ _).1 (le-leb (length ts) 32 h, blank_past Threads.thread_line refl ts)

pub stacks_clean_lem : (ks : List Stack) → length ks ≤ 32 → Stacks.clean (Stacks.written ks) ≡ true
unfolding Stacks.clean Stacks.written
stacks_clean_lem ks h = (and_iff _ _).1 (le-leb (length ks) 32 h, blank_past Stacks.stack_line refl ks)
