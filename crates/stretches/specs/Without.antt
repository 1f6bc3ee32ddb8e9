-- The model without what is in S: every store nested in S gone, S's used 0, and every context nested in S moved to S. Assumes nothing.
use Rattle.std.specs.Prelude.{List, map, ℕ}
use Rattle.meaning.specs.Model.{Store, Thread, Model}
use Rattle.meaning.specs.Changes.{cleared, with_stores, with_threads}
use Rattle.stretches.specs.Stretch.{instead}

abbrev pub move_line : ℕ → List Store → Thread → Thread
move_line S ss t = record { identifier = t.identifier; context = instead S ss t.context }

-- every context nested in S moved to S
abbrev pub moved_threads : ℕ → List Store → List Thread → List Thread
moved_threads S ss ts = map (move_line S ss) ts

abbrev pub without : ℕ → Model → Model
without S m = with_stores (with_threads m (moved_threads S m.stores m.threads)) (cleared S m.stores)
