-- Rules 2 to 4 said by name: what holds of each listed identifier, with no word on the place of its line. On a rising list this is the same as the rules.
-- Assumes nothing.
use Rattle.std.specs.Prelude.{true, List, [], ◌∷◌, ◌≡◌, refl, ℕ, ◌+◌, ◌<◌, ◌≤◌}
use mathlib.Core.List.Memᴰ.{cases_cons}
use mathlib.Core.List.Memᴰ.{head as here}
use mathlib.Core.List.Memᴰ.{not-nil as nowhere}
use mathlib.Core.List.Memᴰ.{tail as there}
use Rattle.std.proofs.Common.{⊎_elim, sym, ◌∙◌, ap, subst, arith}
use Rattle.std.proofs.Math.Decide.{dec_lt}
use Rattle.lists.specs.Lists.{◌∈◌, rest}
use Rattle.lists.specs.Keyed.{Rising}
use Rattle.lists.specs.Tests.{never}
use Rattle.lists.specs.KeyedLaws.{has_iff, has_member, member_has, at_member, member_at, two_by_key, by_key_two}
use Rattle.names.specs.Overhead.{store_overhead}
use Rattle.meaning.specs.Model.{Run, Store, Thread, Model, store_name, listed, no_such_store, store_of, root_of}
use Rattle.meaning.specs.Nesting.{parent_in}
use Rattle.meaning.specs.Facts.{Rule2, Rule3, Rule4, Sound}
use Rattle.meaning.specs.Changes.{with_stores}
use Rattle.meaning.proofs.Laws.Nested.{named, root_or_other, root_listed, root_own_parent}
use Rattle.laws.specs.Frames.{sound_with_stores}

-- a store of this name is listed
abbrev pub Listed : List Store → ℕ → Type 0
Listed ss k = listed ss k ≡ true

-- its total and its used, by name
abbrev pub total_in : List Store → ℕ → ℕ
total_in ss k = (store_of ss k).total

abbrev pub used_in : List Store → ℕ → ℕ
used_in ss k = (store_of ss k).used

-- of a store but the root: its parent is listed, its total is at least 16 and lies in the parent's used part
pub record Hung (ss : List Store) (k : ℕ) : Type 0 where
  pub parent : Listed ss (parent_in ss k)
  pub least : store_overhead ≤ total_in ss k
  pub low : parent_in ss k + store_overhead ≤ k
  pub high : k + total_in ss k ≤ parent_in ss k + store_overhead + used_in ss (parent_in ss k)

-- rules 2 to 4 of the stores in an area, whose start is the root's name
pub record ByName (area : Run) (ss : List Store) : Type 0 where
  -- rule 2
  pub root : Listed ss area.start
  pub extent : total_in ss area.start ≡ area.length
  pub itself : parent_in ss area.start ≡ area.start
  -- rule 3: the root is lowest, the others hang below a parent
  pub lowest : (k : ℕ) → Listed ss k → area.start ≤ k
  pub others : (k : ℕ) → Listed ss k → area.start < k → Hung ss k
  -- rule 4
  pub fits : (k : ℕ) → Listed ss k → used_in ss k + store_overhead ≤ total_in ss k
  pub apart : (a b : ℕ) → Listed ss a → Listed ss b → area.start < a → parent_in ss a ≡ parent_in ss b → a < b → a + total_in ss a ≤ b

-- ---- from the rules

module _ (m : Model) (sound : Sound m) where
  abbrev ss : List Store
  ss = m.stores

  pub root_start : root_of ss ≡ m.store_area.start
  root_start = ap root_of sound.rule2.first ∙ sound.rule2.start

  rises_behind : ((s : Store) → s ∈ rest ss → sound.rule2.root.start < s.start) × Rising store_name (rest ss)
  rises_behind = subst (Rising store_name) sound.rule2.first sound.rule3.rises

  root_line : store_of ss m.store_area.start ≡ sound.rule2.root
  root_line =
      ap (store_of ss) (sym sound.rule2.start)
      ∙ member_at store_name no_such_store ss sound.rule3.rises (rw sound.rule2.first (here refl))

  -- a listed store above the root stands behind the first line
  pub other_line : (k : ℕ) → Listed ss k → m.store_area.start < k → store_of ss k ∈ rest ss
  other_line k h l = ⊎_elim (λ r. absurd (omega (arith, r.0, root_start))) (λ i. i) (root_or_other m sound h)

  pub by_name : ByName m.store_area ss
  by_name =
      record {
        root = rw root_start at (root_listed m sound);
        extent = ap (λ s. s.total) root_line ∙ sound.rule2.total;
        itself = rw root_start at (root_own_parent m sound);
        lowest = λ k h. ⊎_elim (λ r. omega (arith, r.0, root_start)) (λ i. omega (arith, rises_behind.0 _ i, sound.rule2.start, named ss k)) (root_or_other m sound h);
        others = λ k h l. let i = other_line k h l in
            let g = sound.rule3.others (store_of ss k) i in
            let p = (has_iff store_name ss (parent_in ss k)).1 g.listed in
            let n = sound.rule4.inside (store_of ss (parent_in ss k)) (store_of ss k) (at_member store_name no_such_store ss (parent_in ss k) p) i (sym (named ss (parent_in ss k))) in
            let x = named ss k in
            let y = named ss (parent_in ss k) in
            record { parent = p; least = g.least; low = omega arith; high = omega arith };
        fits = λ k h. sound.rule4.fits (store_of ss k) (at_member store_name no_such_store ss k h);
        apart = λ a b h i l e k.
            let x = named ss a in
            let y = named ss b in
            let z = two_by_key store_name _ (rest ss) rises_behind.1 sound.rule4.apart (other_line a h l) (other_line b i (omega arith)) (omega arith) in
            let t = (sound.rule3.others (store_of ss b) (other_line b i (omega arith))).least in
            elim (dec_lt b (a + total_in ss a)) [
              | yes c ↦ absurd (z e b (omega arith) (omega arith))
              | no c ↦ omega arith
            ];
      }

-- ---- to the rules

-- the first line is the root's
first_line : (area : Run) (ss : List Store) → Rising store_name ss → ByName area ss → (r : Store) × (r ∈ ss) × (ss ≡ r ∷ rest ss) × (r.start ≡ area.start)
first_line area [] rises by = never _ by.root refl
first_line area (r ∷ l) rises by =
    let low = by.lowest r.start (member_has store_name (r ∷ l) (here refl)) in
    let x = has_member store_name (r ∷ l) area.start by.root in
    (r, here refl, refl, ⊎_elim (λ q. sym (ap (λ s. s.start) q) ∙ x.2) (λ i. absurd (omega (arith, rises.0 x.0 i, x.2))) (cases_cons x.1))

-- the others stand above it
behind : (ss : List Store) → Rising store_name ss → {s : Store} → s ∈ rest ss → (s ∈ ss) × (root_of ss < s.start)
behind [] rises i = absurd (nowhere i)
behind (r ∷ l) rises i = (there i, rises.0 _ i)

rest_rises : (ss : List Store) → Rising store_name ss → Rising store_name (rest ss)
rest_rises [] rises = tt
rest_rises (r ∷ l) rises = rises.1

module _ (m : Model) (ss : List Store) (rises : Rising store_name ss) (by : ByName m.store_area ss) where
  abbrev first : (r : Store) × (r ∈ ss) × (ss ≡ r ∷ rest ss) × (r.start ≡ m.store_area.start)
  first = first_line m.store_area ss rises by

  found : {s : Store} → s ∈ ss → store_of ss s.start ≡ s
  found i = member_at store_name no_such_store ss rises i

  listed_line : {s : Store} → s ∈ ss → Listed ss s.start
  listed_line i = member_has store_name ss i

  other : {s : Store} → s ∈ rest ss → (s ∈ ss) × (m.store_area.start < s.start)
  other i = let b = behind ss rises i in (b.0, omega (arith, b.1, ap root_of first.2, first.3))

  rule2_of : Rule2 (with_stores m ss)
  rule2_of =
      let f = found first.1 in
      record {
        root = first.0;
        first = first.2;
        start = first.3;
        total = ap (λ s. s.total) (sym f) ∙ ap (total_in ss) first.3 ∙ by.extent;
        itself = ap (λ s. s.parent) (sym f) ∙ ap (parent_in ss) first.3 ∙ by.itself ∙ sym first.3;
      }

  rule3_of : Rule3 (with_stores m ss)
  rule3_of =
      record {
        rises = rises;
        others = λ s i. let o = other i in
            let f = found o.0 in
            let g = by.others s.start (listed_line o.0) o.1 in
            let e = ap (λ x. x.parent) f in
            let t = ap (λ x. x.total) f in
            record { listed = (has_iff store_name ss s.parent).0 (rw e at g.parent); lower = omega arith; least = omega arith };
      }

  rule4_of : Rule4 (with_stores m ss)
  rule4_of =
      record {
        fits = λ s i. let g = by.fits s.start (listed_line i) in
            let t = ap (λ x. x.total) (found i) in
            let u = ap (λ x. x.used) (found i) in
            omega arith;
        inside = λ p c i j e. let o = other j in
            let g = by.others c.start (listed_line o.0) o.1 in
            let q = ap (λ x. x.parent) (found o.0) in
            let t = ap (λ x. x.total) (found o.0) in
            let u = ap (used_in ss) (q ∙ e) ∙ ap (λ x. x.used) (found i) in
            (omega arith, omega arith);
        apart = by_key_two store_name _ (rest ss) (rest_rises ss rises)
            (λ c d i j l e a h k.
            let o = other i in
            let x = other j in
            let t = ap (λ s. s.total) (found o.0) in
            let z = by.apart c.start d.start (listed_line o.0) (listed_line x.0) o.1 (ap (λ s. s.parent) (found o.0) ∙ e ∙ sym (ap (λ s. s.parent) (found x.0))) l in
            omega arith);
      }

  -- stores that rise and obey the rules by name, with every context listed, make a sound model of a sound one
  pub named_sound : Sound m → ((t : Thread) → t ∈ m.threads → Listed ss t.context) → Sound (with_stores m ss)
  named_sound sound placed = sound_with_stores m sound ss rule2_of rule3_of rule4_of (λ t i. (has_iff store_name ss t.context).0 (placed t i))
