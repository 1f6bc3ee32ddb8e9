-- What rule 2 asks of the first store, and the lowest of rules 2, 3 and 4 that is broken. Assumes nothing.
use Rattle.std.specs.Prelude.{Bool, not, ◌&&◌, List, [], ◌∷◌, ℕ, eqb}
use Rattle.meaning.specs.Model.{Run, Store}
use Rattle.meaning.specs.Rules.{root_sound, stores_hang, stores_fit}
use Rattle.meaning.specs.Reports.{◌when◌, first_report}

-- what rule 2 asks of the first store
abbrev pub is_root : Run → Store → Bool
is_root area r = eqb r.start area.start && eqb r.total area.length && eqb r.parent r.start

-- the lowest of rules 2, 3 and 4 that is broken, 0 where none is
unfoldable pub broken_stores : Run → List Store → ℕ
broken_stores area ss = first_report (2 when not (root_sound area ss) ∷ 3 when not (stores_hang ss) ∷ 4 when not (stores_fit ss) ∷ [])
