-- The list of stores: how its lines read, how a list is written, and when it is clean. Assumes nothing.
use Rattle.std.specs.Prelude.{Bool, true, not, ◌&&◌, List, ◌≡◌, refl, ℕ, leb, eqb, length}
use Rattle.std.proofs.Common.{leb-true, eqb-true}
use Rattle.lists.specs.Tests.{and_iff}
use Rattle.lines.specs.Shape.{Shape, live, pad, blank, live_pad, written_back}
use Rattle.meaning.specs.Model.{Store}
use Rattle.meaning.specs.Nesting.{nested}
use Rattle.names.specs.declared.lines.Store.{Store as Line}
use Rattle.stores.specs.declared.Stores.{Stores}

-- a line of the table as a store of the model
abbrev pub view : Line → Store
view s = record { start = s.id.0; total = s.total; used = s.used; parent = s.parent.0 }

-- a store of the model as a line
abbrev pub back : Store → Line
back s = record { id = record { 0 = s.start }; total = s.total; used = s.used; parent = record { 0 = s.parent } }

-- the line of zeros
abbrev pub zeros : Line
zeros = record { id = record { 0 = 0 }; total = 0; used = 0; parent = record { 0 = 0 } }

-- the line holds zeros
abbrev pub is_zeros : Line → Bool
is_zeros s = eqb s.id.0 0 && eqb s.total 0 && eqb s.used 0 && eqb s.parent.0 0

pub zeros_only : (s : Line) → is_zeros s ≡ true → s ≡ zeros
zeros_only s h =
    let b = (and_iff (eqb s.id.0 0 && eqb s.total 0 && eqb s.used 0) (eqb s.parent.0 0)).0 h in
    let d = (and_iff (eqb s.id.0 0 && eqb s.total 0) (eqb s.used 0)).0 b.0 in
    let e = (and_iff (eqb s.id.0 0) (eqb s.total 0)).0 d.0 in
    λ i. record {
      id = record { 0 = eqb-true s.id.0 0 e.0 i };
      total = eqb-true s.total 0 e.1 i;
      used = eqb-true s.used 0 d.1 i;
      parent = record { 0 = eqb-true s.parent.0 0 b.1 i };
    }

-- all of this as the shape of a list of 64 lines
abbrev pub store_line : Shape Line Store
store_line = record { view = view; back = back; back_view = λ s. refl; view_back = λ s. refl; zeros = zeros; is_zeros = is_zeros; is_zeros_true = zeros_only; limit = 64 }

-- the stores that are listed
unfoldable pub reading : Stores → List Store
reading s = live store_line s.count s.lines

-- a list of stores, with zeros past it
unfoldable pub written : List Store → Stores
written ss = record { count = length ss; lines = pad store_line ss }

-- rule 8: the count is at most 64, and lines past it hold zeros
unfoldable pub clean : Stores → Bool
clean s = leb s.count 64 && blank store_line s.count s.lines

-- the store has the identifier k
abbrev pub is_store : ℕ → Store → Bool
is_store k s = eqb s.start k

-- the store is not nested in c
abbrev pub is_outside : List Store → ℕ → Store → Bool
is_outside ss c s = not (nested ss s.start c)

-- the store is a child of `parent`, and another one than s: what report 8 asks of the stores but the first
abbrev pub is_other_child : ℕ → ℕ → Store → Bool
is_other_child parent s c = eqb c.parent parent && not (eqb c.start s)

-- a count and lines are a written list where they are that list's
pub made : (n : ℕ) (ls : List Line) (ss : List Store) → n ≡ length ss → ls ≡ pad store_line ss → ◌≡◌ {A = Stores} (record { count = n; lines = ls }) (written ss)
unfolding written
made n ls ss e q = rw (e, q)

-- what is written reads as what it was
pub reading_written : (ss : List Store) → reading (written ss) ≡ ss
unfolding reading written
reading_written ss = live_pad store_line ss

-- a clean list is what it reads as, written
pub written_reading : (s : Stores) → length s.lines ≡ 64 → clean s ≡ true → written (reading s) ≡ s
unfolding reading written clean
written_reading s e h =
    let b = (and_iff (leb s.count 64) _).0 h in
    let w = written_back store_line s.count s.lines e (leb-true s.count 64 b.0) b.1 in
    λ i. record { count = w.0 i; lines = w.1 i }

-- ---- the definitions, as every list of lines has them

pub reading_is : (s : Stores) → reading s ≡ live store_line s.count s.lines
unfolding reading
reading_is s = refl

pub clean_is : (s : Stores) → clean s ≡ (leb s.count 64 && blank store_line s.count s.lines)
unfolding clean
clean_is s = refl
