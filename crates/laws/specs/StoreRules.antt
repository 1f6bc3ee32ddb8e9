-- The changes of StoreChanges.antt keep rules 2 to 4, said by name, each under what it needs. Assumes nothing.
use Rattle.std.specs.Prelude.{false, List, ◌⊎◌, ◌≡◌, ℕ, ◌+◌, ◌<◌, ◌≤◌}
use Rattle.std.proofs.Common.{inl, inr, ⊎_elim, sym, ◌∙◌, ap, arith}
use Rattle.std.proofs.Math.Decide.{ℕ_discrete}
use Rattle.lists.specs.Tests.{never}
use Rattle.names.specs.Overhead.{store_overhead}
use Rattle.meaning.specs.Model.{Run, Store, listed, store_of}
use Rattle.meaning.specs.Nesting.{nested, parent_in}
use Rattle.laws.specs.ByName.{Listed, total_in, used_in, Hung, ByName}
use Rattle.laws.specs.StoreChanges.{UsedSet, Resized, Cleared, Added}

module _ (area : Run) (ss after : List Store) (by : ByName area ss) where
  -- another used that the store has room for and that covers its children
  module _ (c u : ℕ) (g : UsedSet c u ss after) (room : u + store_overhead ≤ total_in ss c)
      (covers : (k : ℕ) → Listed ss k → area.start < k → parent_in ss k ≡ c → k + total_in ss k ≤ c + store_overhead + u)
      (there : Listed ss c) where
    was : (k : ℕ) → Listed after k → Listed ss k
    was k h = sym (g.names k) ∙ h

    hung : (k : ℕ) → Listed after k → area.start < k → Hung after k
    hung k h l =
        let i = was k h in
        let o = by.others k i l in
        let p = g.parents k i in
        let t = g.totals k i in
        let u = ap (used_in after) p in
        let b : k + total_in ss k ≤ parent_in ss k + store_overhead + used_in after (parent_in ss k) = elim (ℕ_discrete (parent_in ss k) c) [
          | yes e ↦ let v = covers k i l e in omega (arith, ap (used_in after) e, g.here there)
          | no d ↦ omega (arith, g.elsewhere (parent_in ss k) o.parent d)
        ] in
        record { parent = ap (listed after) p ∙ g.names (parent_in ss k) ∙ o.parent; least = omega arith; low = omega arith; high = omega arith }

    pub used_set_by_name : ByName area after
    used_set_by_name =
        record {
          root = g.names area.start ∙ by.root;
          extent = g.totals area.start by.root ∙ by.extent;
          itself = g.parents area.start by.root ∙ by.itself;
          lowest = λ k h. by.lowest k (was k h);
          others = hung;
          fits = λ k h. let i = was k h in let t = g.totals k i in elim (ℕ_discrete k c) [
            | yes e ↦ omega (arith, ap (used_in after) e, ap (total_in ss) e, g.here there)
            | no d ↦ let f = by.fits k i in omega (arith, g.elsewhere k i d)
          ];
          apart = λ a b h i l e k.
              let v = was a h in
              let w = was b i in
              let t = g.totals a v in
              let z = by.apart a b v w l (sym (g.parents a v) ∙ e ∙ g.parents b w) k in
              omega arith;
        }

  -- c emptied: what stays hangs from a store that stays and is not c
  module _ (c : ℕ) (g : Cleared c ss after) (there : Listed ss c) (self : nested ss c c ≡ false) (root : nested ss area.start c ≡ false)
      (up : (k : ℕ) → Listed ss k → area.start < k → nested ss k c ≡ false → (nested ss (parent_in ss k) c ≡ false) × (parent_in ss k ≡ c → ⊥)) where
    pub cleared_by_name : ByName area after
    cleared_by_name =
        record {
          root = (g.names area.start).1 (by.root, root);
          extent = g.totals area.start root ∙ by.extent;
          itself = g.parents area.start root ∙ by.itself;
          lowest = λ k h. by.lowest k ((g.names k).0 h).0;
          others = λ k h l.
              let i = (g.names k).0 h in
              let o = by.others k i.0 l in
              let x = up k i.0 l i.1 in
              let p = g.parents k i.1 in
              let t = g.totals k i.1 in
              let u = ap (used_in after) p ∙ ap (λ s. s.used) (g.elsewhere (parent_in ss k) x.0 x.1) in
              record { parent = ap (listed after) p ∙ (g.names (parent_in ss k)).1 (o.parent, x.0); least = omega arith; low = omega arith; high = omega arith };
          fits = λ k h. let i = (g.names k).0 h in
              let f = by.fits k i.0 in
              let t = g.totals k i.1 in
              elim (ℕ_discrete k c) [
                | yes e ↦ omega (arith, ap (used_in after) e, g.here there self)
                | no d ↦ omega (arith, ap (λ s. s.used) (g.elsewhere k i.1 d))
              ];
          apart = λ a b h i l e k.
              let v = (g.names a).0 h in
              let w = (g.names b).0 i in
              let t = g.totals a v.1 in
              let z = by.apart a b v.0 w.0 l (sym (g.parents a v.1) ∙ e ∙ g.parents b w.1) k in
              omega arith;
        }

  -- an empty only child of another total, with the used of its parent to match
  module _ (x n c u : ℕ) (g : Resized x n c u ss after) (there : Listed ss x) (above : area.start < x) (parent : parent_in ss x ≡ c)
      (empty : used_in ss x ≡ 0) (least : store_overhead ≤ n) (ends : x + n ≤ c + store_overhead + u) (room : u + store_overhead ≤ total_in ss c)
      (only : (k : ℕ) → Listed ss k → area.start < k → parent_in ss k ≡ c → k ≡ x) where
    before : (k : ℕ) → Listed after k → Listed ss k
    before k h = sym (g.names k) ∙ h

    parent_there_lem : Listed ss c
    parent_there_lem = ap (listed ss) (sym parent) ∙ (by.others x there above).parent

    below : c < x
    below = let o = by.others x there above in omega arith

    resized_hung : (k : ℕ) → Listed after k → area.start < k → Hung after k
    resized_hung k h l =
        let i = before k h in
        let o = by.others k i l in
        let p = g.parents k i in
        let up = ap (listed after) p ∙ g.names (parent_in ss k) ∙ o.parent in
        let v = ap (used_in after) p in
        elim (ℕ_discrete k x) [
          | yes e ↦
              let w : parent_in ss k ≡ c = ap (parent_in ss) e ∙ parent in
              let t = ap (total_in after) e ∙ g.total there in
              let z = ap (used_in after) w ∙ g.here parent_there_lem in
              record { parent = up; least = omega arith; low = omega arith; high = omega arith }
          | no d ↦
              let t = g.totals k i d in
              let z = g.elsewhere (parent_in ss k) o.parent (λ e. d (only k i l e)) in
              record { parent = up; least = omega arith; low = omega arith; high = omega arith }
        ]

    pub resized_by_name : ByName area after
    resized_by_name =
        record {
          root = g.names area.start ∙ by.root;
          extent = g.totals area.start by.root (omega arith) ∙ by.extent;
          itself = g.parents area.start by.root ∙ by.itself;
          lowest = λ k h. by.lowest k (before k h);
          others = resized_hung;
          fits = λ k h. let i = before k h in let f = by.fits k i in elim (ℕ_discrete k x) [
            | yes e ↦ let b = below in
                omega (arith, ap (used_in after) e, ap (total_in after) e, g.total there, g.elsewhere x there (omega arith))
            | no d ↦ let t = g.totals k i d in elim (ℕ_discrete k c) [
              | yes e ↦ omega (arith, ap (used_in after) e, ap (total_in ss) e, g.here parent_there_lem)
              | no w ↦ omega (arith, g.elsewhere k i w)
            ]
          ];
          apart = λ a b h i l e k.
              let v = before a h in
              let w = before b i in
              let s : parent_in ss a ≡ parent_in ss b = sym (g.parents a v) ∙ e ∙ g.parents b w in
              elim (ℕ_discrete a x) [
                | yes q ↦ let z = only b w (omega arith) (sym s ∙ ap (parent_in ss) q ∙ parent) in absurd (omega arith)
                | no d ↦ let t = g.totals a v d in let z = by.apart a b v w l s k in omega arith
              ];
        }

  -- a new store in its parent's used part, behind all its siblings
  module _ (new : Store) (g : Added new ss after) (there : Listed ss new.parent) (fresh : listed ss new.start ≡ false)
      (fit : new.used + store_overhead ≤ new.total) (low : new.parent + store_overhead ≤ new.start)
      (high : new.start + new.total ≤ new.parent + store_overhead + used_in ss new.parent)
      (behind : (k : ℕ) → Listed ss k → area.start < k → parent_in ss k ≡ new.parent → k + total_in ss k ≤ new.start) where
    old : (k : ℕ) → Listed ss k → store_of after k ≡ store_of ss k
    old k h = g.elsewhere k (λ e. never (listed ss k) h (rw e at fresh))

    old_listed : (k : ℕ) → Listed ss k → Listed after k
    old_listed k h = (g.names k).1 (inl h)

    new_hung : Hung after new.start
    new_hung =
        let p = ap (λ s. s.parent) g.here in
        let t = ap (λ s. s.total) g.here in
        let u = ap (used_in after) p ∙ ap (λ s. s.used) (old new.parent there) in
        record { parent = ap (listed after) p ∙ old_listed new.parent there; least = omega arith; low = omega arith; high = omega arith }

    old_hung : (k : ℕ) → Listed ss k → area.start < k → Hung after k
    old_hung k h l =
        let o = by.others k h l in
        let p = ap (λ s. s.parent) (old k h) in
        let t = ap (λ s. s.total) (old k h) in
        let u = ap (used_in after) p ∙ ap (λ s. s.used) (old (parent_in ss k) o.parent) in
        record { parent = ap (listed after) p ∙ old_listed (parent_in ss k) o.parent; least = omega arith; low = omega arith; high = omega arith }

    added_apart : (a b : ℕ) → Listed ss a ⊎ (a ≡ new.start) → Listed ss b ⊎ (b ≡ new.start) → area.start < a
        → parent_in after a ≡ parent_in after b → a < b → a + total_in after a ≤ b
    added_apart a b (inr e) (inr f) l q k = absurd (omega arith)
    added_apart a b (inr e) (inl i) l q k =
        let z = behind b i (omega arith) (sym (ap (λ s. s.parent) (old b i)) ∙ sym q ∙ ap (parent_in after) e ∙ ap (λ s. s.parent) g.here) in
        absurd (omega arith)
    added_apart a b (inl h) (inr f) l q k =
        let z = behind a h l (sym (ap (λ s. s.parent) (old a h)) ∙ q ∙ ap (parent_in after) f ∙ ap (λ s. s.parent) g.here) in
        let t = ap (λ s. s.total) (old a h) in
        omega arith
    added_apart a b (inl h) (inl i) l q k =
        let z = by.apart a b h i l (sym (ap (λ s. s.parent) (old a h)) ∙ q ∙ ap (λ s. s.parent) (old b i)) k in
        let t = ap (λ s. s.total) (old a h) in
        omega arith

    pub added_by_name : ByName area after
    added_by_name =
        record {
          root = old_listed area.start by.root;
          extent = ap (λ s. s.total) (old area.start by.root) ∙ by.extent;
          itself = ap (λ s. s.parent) (old area.start by.root) ∙ by.itself;
          lowest = λ k h. let p = by.lowest new.parent there in ⊎_elim (by.lowest k) (λ e. omega arith) ((g.names k).0 h);
          others = λ k h l. ⊎_elim (λ i. old_hung k i l) (λ e. rw e new_hung) ((g.names k).0 h);
          fits = λ k h. ⊎_elim
              (λ i. let f = by.fits k i in omega (arith, ap (λ s. s.used) (old k i), ap (λ s. s.total) (old k i)))
              (λ e. omega (arith, fit, ap (used_in after) e, ap (total_in after) e, ap (λ s. s.used) g.here, ap (λ s. s.total) g.here))
              ((g.names k).0 h);
          apart = λ a b h i. added_apart a b ((g.names a).0 h) ((g.names b).0 i);
        }
