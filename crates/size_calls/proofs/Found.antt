-- A store's line that is found, or the report where none is. Assumes nothing.
use Rattle.std.specs.Prelude.{List, ◌≡◌, refl, ℕ, eqb, Option, Ok, Err, ok_or, option_map, if◌then◌else◌}
use Rattle.std.specs.List.{find}
use Rattle.lines.proofs.Found.{found_or}
use Rattle.meaning.specs.Model.{Store, store_name, no_such_store, listed, store_of}
use Rattle.names.specs.declared.lines.Store.{Store as Line}
use Rattle.names.specs.declared.report.Report.{Report}
use Rattle.stores.specs.Stores.{view, back}

pub line_or : (k : ℕ) (r : Report) (ss : List Store) (o : Option Line) → option_map view o ≡ find (λ s. eqb (store_name s) k) ss
    → ok_or o r ≡ (if listed ss k then Ok (back (store_of ss k)) else Err r)
line_or = found_or view back (λ a. refl) store_name no_such_store
