-- The three tests of runs, opened. Assumes nothing.
use Rattle.std.specs.Prelude.{◌&&◌, ◌||◌, ◌≡◌, refl, ℕ, leb, ltb, eqb}
use Rattle.meaning.specs.Model.{Run, end, ◌holds◌, ◌inside◌, ◌apart_from◌}

pub holds_is : (r : Run) (address : ℕ) → (r holds address) ≡ (leb r.start address && ltb address (end r))
unfolding ◌holds◌
holds_is r address = refl

pub inside_is : (r s : Run) → (r inside s) ≡ (leb s.start r.start && leb (end r) (end s))
unfolding ◌inside◌
inside_is r s = refl

pub apart_is : (r s : Run) → (r apart_from s) ≡ (leb (end r) s.start || leb (end s) r.start || eqb r.length 0 || eqb s.length 0)
unfolding ◌apart_from◌
apart_is r s = refl
