-- Rule 2 of the line that stands first in a slice. Assumes nothing.
use Rattle.std.specs.Prelude.{Bool, List, [], ◌∷◌, map, ◌≡◌, refl, false, Option, Some, None, MatchOption, slice_get, unwrap_or}
use Rattle.std.proofs.Common.{sym, ap, ◌∙◌}
use Rattle.std.proofs.lemmas.Bool.{true≢false}
use Rattle.std.specs.Option.{is_some, option_copied}
use denote.Bor.{Bor}
use Rattle.names.specs.declared.lines.Store.{Store as Line}
use Rattle.meaning.specs.Model.{Run}
use Rattle.meaning.specs.Rules.{root_sound}
use Rattle.stores.specs.Stores.{view}
use Rattle.store_rules.specs.Broken.{is_root}

root_none : (area : Run) (ls : List Line) → None ≡ slice_get ls 0 → false ≡ root_sound area (map view ls)
unfolding root_sound
root_none area [] e = refl
root_none area (a ∷ ls) e = absurd (true≢false (ap is_some (sym e)))

root_first : (area : Run) (ls : List Line) (r : Line) → Some r ≡ slice_get ls 0 → is_root area (view r) ≡ root_sound area (map view ls)
unfolding root_sound
root_first area [] r e = absurd (true≢false (ap is_some e))
root_first area (a ∷ ls) r e = ap (λ o. is_root area (view (unwrap_or o r))) e

-- the test of the first line, false where there is none
pub root_told : (area : Run) (ls : List Line) (o : Option (Bor Line)) (b : Bool) (P : Bor Line → Type 0)
    → option_copied o ≡ slice_get ls 0
    → MatchOption o (b ≡ false) P
    → ((s : Bor Line) → P s → b ≡ is_root area (view s.now))
    → b ≡ root_sound area (map view ls)
root_told area ls None b P e m w = m ∙ root_none area ls e
root_told area ls (Some s) b P e m w = w s m ∙ root_first area ls s.now e
