-- Calls 8 to 11 keep a model sound: rules 2 to 4 by name, and every context still listed. Assumes nothing.
use Rattle.std.specs.Prelude.{false, List, ◌≡◌, refl, ℕ, ◌+◌, ◌-◌, ◌<◌, ◌≤◌, eqb}
use Rattle.std.proofs.Common.{inl, sym, ◌∙◌, ap, arith, eq-eqb, ne_eqb}
use Rattle.std.proofs.Math.Decide.{ℕ_discrete}
use Rattle.lists.specs.Lists.{◌∈◌, rest}
use Rattle.lists.specs.Keyed.{insert}
use Rattle.lists.specs.Tests.{never, false_of, and_iff, not_iff}
use Rattle.lists.specs.ListLaws.{member_any}
use Rattle.lists.specs.ListChanges.{two_keep}
use Rattle.lists.specs.KeyedLaws.{has_iff}
use Rattle.lists.specs.KeyedChanges.{rising_insert, rising_map}
use Rattle.names.specs.Overhead.{store_overhead}
use Rattle.meaning.specs.Model.{Store, Thread, Model, free, store_name, listed, store_of, root_of}
use Rattle.meaning.specs.Nesting.{Child, Nested, child, nested, parent_in}
use Rattle.meaning.specs.Reports.{in_use, not_only_child}
use Rattle.meaning.specs.Facts.{Sound}
use Rattle.meaning.specs.Changes.{with_used, with_total, cleared, with_stores}
use Rattle.meaning.proofs.Laws.Nested.{named, link_child, nested_agrees}
use Rattle.laws.specs.ByName.{Listed, total_in, used_in, ByName, by_name, root_start, other_line, named_sound}
use Rattle.laws.specs.Nesting.{nested_transitive, nested_below, never_in_itself, not_nested}
use Rattle.laws.specs.Geometry.{none_at_free}
use Rattle.laws.specs.StoreChanges.{UsedSet, used_set, resized, not_in, after_clear, added}
use Rattle.laws.specs.StoreRules.{used_set_by_name, cleared_by_name, resized_by_name, added_by_name}

module _ (m : Model) (sound : Sound m) where
  abbrev ss : List Store
  ss = m.stores

  abbrev by : ByName m.store_area ss
  by = by_name m sound

  placed : (t : Thread) → t ∈ m.threads → Listed ss t.context
  placed t i = (has_iff store_name ss t.context).1 (sound.rule5.placed t i)

  -- ---- calls 8 and 9: bytes of the context's free part

  module _ (c taken : ℕ) (there : Listed ss c) (room : taken ≤ free (store_of ss c)) where
    abbrev grown : List Store
    grown = with_used c (used_in ss c + taken) ss

    grown_set : UsedSet c (used_in ss c + taken) ss grown
    grown_set = used_set c (used_in ss c + taken) ss

    grown_by_name : ByName m.store_area grown
    grown_by_name =
        let f = by.fits c there in
        used_set_by_name m.store_area ss grown by c _ grown_set (omega arith)
        (λ k h l e. let o = by.others k h l in let u = ap (used_in ss) e in omega arith)
        there

    pub allocate_sound : Sound (with_stores m grown)
    allocate_sound =
        named_sound m grown (rising_map store_name _ (λ s. refl) ss sound.rule3.rises) grown_by_name sound (λ t i. grown_set.names t.context ∙ placed t i)

    abbrev new : Store
    new = record { start = c + store_overhead + used_in ss c; total = taken; used = 0; parent = c }

    pub make_store_sound : store_overhead ≤ taken → Sound (with_stores m (insert store_name new grown))
    make_store_sound least =
        let free : listed grown new.start ≡ false = grown_set.names new.start ∙ none_at_free m sound c there (omega arith) in
        let add = added new grown free in
        let u = grown_set.here there in
        named_sound m _ (rising_insert store_name new grown (rising_map store_name _ (λ s. refl) ss sound.rule3.rises) free)
        (added_by_name m.store_area grown _ grown_by_name new add (grown_set.names c ∙ there) free (omega arith) (omega arith) (omega arith)
        (λ k h l e.
        let i = sym (grown_set.names k) ∙ h in
        let o = by.others k i l in
        let q = sym (grown_set.parents k i) ∙ e in
        let v = ap (used_in ss) q in
        let t = grown_set.totals k i in
        omega arith))
        sound
        (λ t i. (add.names t.context).1 (inl (grown_set.names t.context ∙ placed t i)))

  -- ---- call 10

  module _ (c : ℕ) (there : Listed ss c) where
    -- of a store that stays the parent stays, and is not c
    parent_stays : (k : ℕ) → Listed ss k → m.store_area.start < k → nested ss k c ≡ false → (nested ss (parent_in ss k) c ≡ false) × (parent_in ss k ≡ c → ⊥)
    parent_stays k h l e =
        let o = by.others k h l in
        let d : Child ss k (parent_in ss k) = link_child m sound refl (omega arith) in
        let out : Nested ss k c → ⊥ = λ n. never (nested ss k c) ((nested_agrees m sound k c).1 n) e in
        (not_nested m sound (λ n. out (nested_transitive ss (child d) n)), λ q. out (child (rw q at d)))

    pub clear_sound : in_use m c ≡ false → Sound (with_stores m (cleared c ss))
    clear_sound idle =
        let g = after_clear c ss in
        named_sound m (cleared c ss) (rising_map store_name _ (λ s. refl) (not_in c ss) (two_keep _ _ ss sound.rule3.rises))
        (cleared_by_name m.store_area ss (cleared c ss) by c g there (not_nested m sound (never_in_itself m sound))
        (not_nested m sound (λ n. let l = nested_below m sound n in let low = by.lowest c there in omega arith))
        parent_stays)
        sound
        (λ t i. (g.names t.context).1 (placed t i, false_of _ (λ e. never (in_use m c) (member_any _ m.threads i e) idle)))

  -- ---- call 11

  module _ (x n : ℕ) (there : Listed ss x) (not_root : x ≡ root_of ss → ⊥) (alone : not_only_child m x ≡ false) (empty : used_in ss x ≡ 0)
      (least : store_overhead ≤ n) where
    abbrev p : ℕ
    p = parent_in ss x

    abbrev used : ℕ
    used = used_in ss p + n - total_in ss x

    above : m.store_area.start < x
    above = let low = by.lowest x there in omega (arith, not_root, root_start m sound)

    only : (k : ℕ) → Listed ss k → m.store_area.start < k → parent_in ss k ≡ p → k ≡ x
    only k h l e = elim (ℕ_discrete k x) [
      | yes q ↦ q
      | no d ↦ never (not_only_child m x)
          (member_any _ (rest ss) (other_line m sound k h l) ((and_iff (eqb (parent_in ss k) p) _).1 (eq-eqb (parent_in ss k) p e, (not_iff _).1 (ne_eqb _ x (λ q. d (sym (named ss k) ∙ q))))))
          alone
    ]

    pub resize_sound : x + total_in ss x ≡ p + store_overhead + used_in ss p → n ≤ total_in ss x + free (store_of ss p)
        → Sound (with_stores m (with_used p used (with_total x n ss)))
    resize_sound last room =
        let g = resized x n p used ss in
        let o = by.others x there above in
        let f = by.fits p o.parent in
        named_sound m _ (rising_map store_name _ (λ s. refl) (with_total x n ss) (rising_map store_name _ (λ s. refl) ss sound.rule3.rises))
        (resized_by_name m.store_area ss _ by x n p used g there above refl empty least (omega arith) (omega arith) only)
        sound
        (λ t i. g.names t.context ∙ placed t i)
