-- The table that the board holds: the model that it means, a model written as a table, and the eight rules of soundness on any table. Document 01,
-- "The table". Assumes nothing.
use Rattle.std.specs.Prelude.{Bool, not, ◌&&◌, [], ◌∷◌, ◌≡◌, ℕ, length}
use Rattle.meaning.specs.Model.{Model, table_limits}
use Rattle.meaning.specs.Reading.{run_of, area_of}
use Rattle.meaning.specs.Rules.{rule1, rule2, rule3, rule4, rule5, rule6, rule7, sound}
use Rattle.meaning.specs.Reports.{◌when◌, first_report}
use Rattle.stores.specs.Stores.{reading as stores_of, written as stores_written, clean as stores_clean}
use Rattle.threads.specs.Threads.{reading as threads_of, written as threads_written, clean as threads_clean}
use Rattle.stacks.specs.Stacks.{reading as stacks_of, written as stacks_written, clean as stacks_clean}
use Rattle.stores.specs.declared.Stores.{Stores}
use Rattle.threads.specs.declared.Threads.{Threads}
use Rattle.stacks.specs.declared.Stacks.{Stacks}
use Rattle.names.specs.declared.lines.Area.{Area}
use Rattle.table.specs.declared.Table.{Table}

-- what a table means
unfoldable pub reading : Table → Model
reading t =
    record {
      store_area = run_of t.areas.stores;
      stack_area = run_of t.areas.stacks;
      stores = stores_of t.stores;
      threads = threads_of t.threads;
      stacks = stacks_of t.stacks;
      free_run = run_of t.free;
      limits = table_limits;
    }

-- a model as a table, with zeros past the counts
unfoldable pub written : Model → Table
written m =
    record {
      areas = record { stores = area_of m.store_area; stacks = area_of m.stack_area };
      free = area_of m.free_run;
      stores = stores_written m.stores;
      threads = threads_written m.threads;
      stacks = stacks_written m.stacks;
    }

-- an area without addresses
abbrev pub no_area : Area
no_area = record { start = 0; length = 0 }

-- "Before an accepted call 0 the table is all zeros"
unfoldable pub zero_table : Table
zero_table =
    record {
      areas = record { stores = no_area; stacks = no_area };
      free = no_area;
      stores = stores_written [];
      threads = threads_written [];
      stacks = stacks_written [];
    }

-- 8. The counts are at most 64, 32 and 32, and lines past them hold zeros.
abbrev pub all_clean : Stores → Threads → Stacks → Bool
all_clean ss ts ks = stores_clean ss && threads_clean ts && stacks_clean ks

unfoldable pub rule8 : Table → Bool
rule8 t = all_clean t.stores t.threads t.stacks

-- the lowest of the eight rules that is broken, 0 if none
unfoldable pub broken_rule : Table → ℕ
broken_rule t =
    let m = reading t in
    first_report
    (1 when not (rule1 m) ∷ 2 when not (rule2 m) ∷ 3 when not (rule3 m) ∷ 4 when not (rule4 m) ∷ 5 when not (rule5 m) ∷ 6 when not (rule6 m)
    ∷ 7 when not (rule7 m) ∷ 8 when not (rule8 t) ∷ [])

-- "A table is sound when all of these hold"
unfoldable pub sound_table : Table → Bool
sound_table t = sound (reading t) && rule8 t

-- The logic sees an array as a list of any length. Every table of the code is sized: its arrays are as long as they are declared.
pub record Sized (t : Table) : Type 0 where
  pub stores : length t.stores.lines ≡ 64
  pub threads : length t.threads.lines ≡ 32
  pub stacks : length t.stacks.lines ≡ 32
