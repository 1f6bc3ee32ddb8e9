-- Call 7 on the table: on a sound table the way down from the root is the call's answer. Assumes nothing.
use Rattle.std.specs.Prelude.{true, false, ◌≡◌, refl, ℕ}
use mathlib.Core.List.{[]}
use Rattle.std.proofs.Common.{sym, ◌∙◌}
use Rattle.std.proofs.Math.Path.{ap}
use Rattle.meaning.specs.Calls.{find, checks, change, row}
use Rattle.stores.specs.Stores.{reading as stores_of}
use Rattle.finding.specs.Descent.{Finding, descent}
use Rattle.finding.specs.Right.{descent_right}
use Rattle.table.specs.declared.Table.{Table}
use Rattle.table.specs.Table.{reading, sound_table, Sized}
use Rattle.table.specs.Calls.{SeenFound, called, found_answer}
use Rattle.table.specs.Ways.{called_unsound, called_sound, same_table}
use Rattle.table.specs.EachCall.{is_sound}

-- the same table, and what the way down tells
abbrev pub found_of : Table → Finding → SeenFound
found_of t f = record { table = t; report = f.report; value = f.value; steps = f.steps }

-- report 16 and the same table
pub unsound_found : (t : Table) (a : ℕ) → sound_table t ≡ false → record { table = t; report = 16; value = 0; steps = 0 } ≡ found_answer (called t [] (find a))
unsound_found t a e = ap found_answer (sym (called_unsound t [] (find a) refl e))

module _ (t : Table) (n : Sized t) (h : sound_table t ≡ true) where
  pub find_called : (a : ℕ) → found_of t (descent (stores_of t.stores) a) ≡ found_answer (called t [] (find a))
  unfolding reading row change
  find_called a =
      let o = row (reading t) [] (find a) in
      ap (found_of t) (descent_right (reading t) (is_sound t n h) [] a)
      ∙ ap (λ x. record { table = x; report = o.report; value = o.value; steps = o.steps }) (sym (same_table t n h (checks (reading t) [] (find a)) _ _ []))
      ∙ ap found_answer (sym (called_sound t n h [] (find a)))
