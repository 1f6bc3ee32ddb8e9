-- The table after an accepted start. Assumes nothing.
use Rattle.std.specs.Prelude.{true, false, List, [], ◌∷◌, ◌≡◌, ltb}
use Rattle.names.specs.Overhead.{store_overhead}
use Rattle.names.specs.declared.lines.Area.{Area}
use Rattle.meaning.specs.Model.{Store}
use Rattle.meaning.specs.Rules.{areas_sound}
use Rattle.meaning.specs.Reading.{run_of}
use Rattle.meaning.specs.Reports.{first_report}
use Rattle.meaning.specs.Calls.{start, checks, change, all_checks, step}
use Rattle.stores.specs.Stores.{written as stores_written}
use Rattle.threads.specs.Threads.{written as threads_written}
use Rattle.stacks.specs.Stacks.{written as stacks_written}
use Rattle.table.specs.declared.Table.{Table}
use Rattle.table.specs.Table.{written}
use Rattle.table.specs.Calls.{called, answer}

abbrev pub root_alone : Area → List Store
root_alone a = record { start = a.start; total = a.length; used = 0; parent = a.start } ∷ []

abbrev pub fresh_table : Area → Area → Table
fresh_table a b =
    record {
      areas = record { stores = a; stacks = b };
      free = b;
      stores = stores_written (root_alone a);
      threads = threads_written [];
      stacks = stacks_written [];
    }

-- ---- the three ways out of a start

module _ (t : Table) (a b : Area) where
  pub start_small : ltb a.length store_overhead ≡ true → answer (called t [] (start (run_of a) (run_of b))) ≡ record { table = t; report = 4; value = 0 }
  unfolding called step all_checks checks first_report
  start_small e = rw e

  pub start_bad : ltb a.length store_overhead ≡ false → areas_sound (run_of a) (run_of b) ≡ false → answer (called t [] (start (run_of a) (run_of b))) ≡ record { table = t; report = 15; value = 0 }
  unfolding called step all_checks checks first_report
  start_bad e f = rw (e, f)

  pub start_good : ltb a.length store_overhead ≡ false → areas_sound (run_of a) (run_of b) ≡ true → answer (called t [] (start (run_of a) (run_of b))) ≡ record { table = fresh_table a b; report = 0; value = a.start }
  unfolding called step all_checks checks change first_report written
  start_good e f = rw (e, f)
