-- Call 11: of a store outside S it is the same resize without what is in S; of a store nested in S it is not seen. Assumes nothing.
use Rattle.std.specs.Prelude.{Bool, true, false, not, ◌&&◌, ◌≡◌, refl, ℕ, ◌+◌, ◌-◌, ◌<◌, eqb}
use Rattle.std.proofs.lemmas.Simd.{map-map}
use Rattle.std.proofs.Common.{inl, inr, ⊎_elim, sym, ◌∙◌, eqb-true, eq-eqb, ne_eqb}
use Rattle.std.proofs.Math.Path.{ap}
use native.Mathlib.Omega.{arith}
use Rattle.lists.specs.Lists.{any, rest}
use Rattle.lists.specs.Tests.{tested, never, same_test, unless_iff, reflect}
use Rattle.lists.specs.KeepLaws.{rest_map}
use Rattle.lists.specs.ListChanges.{any_map, any_rest_keep}
use Rattle.names.specs.Overhead.{store_taken}
use Rattle.meaning.specs.Model.{Store, Model, Bytes, store_of}
use Rattle.meaning.specs.Nesting.{child, nested, parent_in}
use Rattle.meaning.specs.Reports.{parent_store, not_only_child}
use Rattle.meaning.specs.Facts.{Sound}
use Rattle.meaning.specs.Changes.{line_with_used, line_with_total, cleared, with_stores}
use Rattle.meaning.specs.Calls.{resize, checks, change, all_checks, step}
use Rattle.meaning.proofs.Laws.Nested.{named, link_child, nested_agrees}
use Rattle.meaning.proofs.Laws.Step.{accepted_exact}
use Rattle.laws.specs.ByName.{Listed, total_in, by_name, root_start}
use Rattle.laws.specs.Nesting.{nested_transitive, parent_of_nested}
use Rattle.laws.specs.StoreChanges.{not_in, after_clear}
use Rattle.stretches.specs.Stretch.{within, moved}
use Rattle.stretches.proofs.Cleared.{stays_listed, root_left}
use Rattle.stretches.specs.Without.{without}
use Rattle.stretches.proofs.Bytes.{same_bytes}
use Rattle.stretches.specs.Follows.{Same, Follows, Unseen}
use Rattle.stretches.proofs.Lines.{lines_seen, lines_unseen, used_swap, used_undone}
use Rattle.stretches.proofs.Contexts.{out_of}

-- ---- the parent of a nested store

module _ (S : ℕ) (m : Model) (sound : Sound m) where
  -- the parent of a store is within S exactly when the store is nested in S
  parent_within : (x : ℕ) → parent_in m.stores x < x → within S m (parent_in m.stores x) ≡ nested m.stores x S
  parent_within x l =
      let p = parent_in m.stores x in
      let c = link_child m sound {x = x} refl l in
      same_test _ _
      (λ h. (nested_agrees m sound x S).1 (elim (tested (eqb p S)) [
        | inl e ↦ let q = eqb-true p S e in child (rw q at c)
        | inr e ↦ nested_transitive m.stores (child c) ((nested_agrees m sound p S).0 ((unless_iff (eqb p S) (nested m.stores p S)).0 h e))
      ]))
      (λ h. ⊎_elim (λ e. rw (eq-eqb p S e)) (λ k. (unless_iff (eqb p S) (nested m.stores p S)).1 (λ _. (nested_agrees m sound p S).1 k))
      (parent_of_nested m sound ((nested_agrees m sound x S).0 h)))

-- ---- the call

-- a store's total and its parent's used
abbrev resize_line : ℕ → ℕ → ℕ → ℕ → Store → Store
resize_line s n p u x = line_with_used p u (line_with_total s n x)

-- no store is a second child without what is in S, if none was
only_child : (S : ℕ) (m : Model) (s : ℕ) → store_of (cleared S m.stores) s ≡ store_of m.stores s → not_only_child m s ≡ false → not_only_child (without S m) s ≡ false
only_child S m s e h =
    let other : Store → Bool = λ c. eqb c.parent (parent_in m.stores s) && not (eqb c.start s) in
    ap (λ q. any (λ c. eqb c.parent q && not (eqb c.start s)) (rest (cleared S m.stores))) (ap (λ x. x.parent) e)
    ∙ (ap (any other) (rest_map (line_with_used S 0) (not_in S m.stores)) ∙ any_map other (line_with_used S 0) (λ c. refl) (rest (not_in S m.stores))
    ∙ any_rest_keep other (λ x. not (nested m.stores x.start S)) m.stores h)

module _ (S : ℕ) (m : Model) (sound : Sound m) (there : Listed m.stores S) (bs : Bytes) (s n : ℕ) (h : (step m bs (resize s n)).report ≡ 0) where
  abbrev p : ℕ
  p = parent_in m.stores s

  below : p < s
  unfolding all_checks checks
  below =
      let f = simp reflect at ((accepted_exact m bs (resize s n)).0 h) in
      let low = (by_name m sound).lowest s f.1.0 in
      let o = (by_name m sound).others s f.1.0 (omega (arith, f.1.1.0, root_start m sound)) in
      omega arith

  -- the parent of a store outside S is outside S
  parent_out : nested m.stores s S ≡ false → (p ≡ S → ⊥) × (nested m.stores p S ≡ false)
  parent_out out = out_of S m p (parent_within S m sound s below ∙ out)

  -- and is what it was
  parent_same : (s ≡ S → ⊥) → nested m.stores s S ≡ false → parent_store (without S m) s ≡ parent_store m s
  parent_same d out =
      ap (λ x. store_of (cleared S m.stores) x.parent) ((after_clear S m.stores).elsewhere s out d)
      ∙ (after_clear S m.stores).elsewhere p (parent_out out).1 (parent_out out).0

  pub resize_follows : (other : Bytes) → Same S m bs other → (s ≡ S → ⊥) → nested m.stores s S ≡ false → Follows S m bs other (resize s n)
  unfolding all_checks checks change moved
  resize_follows other same d out =
      let f = simp reflect at ((accepted_exact m bs (resize s n)).0 h) in
      let e = (after_clear S m.stores).elsewhere s out d in
      let g = parent_same d out in
      let k = named m.stores p in
      let u = (parent_store m s).used + store_taken n - total_in m.stores s in
      record {
        passes = rw (g, e) (simp reflect
            (stays_listed S m.stores s out ∙ f.1.0, (λ q. f.1.1.0 (q ∙ root_left m sound S there), (only_child S m s e f.1.1.1.0, f.1.1.1.1))));
        value = refl;
        steps = refl;
        model = rw (g, e)
            (ap (with_stores (without S m)) (map-map (line_with_used (parent_store m s).start u) (line_with_total s (store_taken n)) (cleared S m.stores))
            ∙ lines_seen (resize_line s (store_taken n) (parent_store m s).start u) (λ x. refl) (λ x. refl) S m
            (λ x. used_swap S (parent_store m s).start u (λ q. (parent_out out).0 (sym k ∙ q)) (line_with_total s (store_taken n) x))
            ∙ ap (λ l. without S (with_stores m l)) (sym (map-map (line_with_used (parent_store m s).start u) (line_with_total s (store_taken n)) m.stores)));
        bytes = same;
      }

  pub resize_unseen : nested m.stores s S ≡ true → Unseen S m bs (change m bs (resize s n))
  unfolding change
  resize_unseen inner =
      let k = named m.stores p in
      let u = (parent_store m s).used + store_taken n - total_in m.stores s in
      record {
        model = ap (λ l. without S (with_stores m l)) (map-map (line_with_used (parent_store m s).start u) (line_with_total s (store_taken n)) m.stores)
            ∙ lines_unseen (resize_line s (store_taken n) (parent_store m s).start u) (λ x. refl) (λ x. refl) S m
            (λ x out. used_undone S (parent_store m s).start u m (rw k (parent_within S m sound s below ∙ inner)) (line_with_total s (store_taken n) x) out
            ∙ rw (ne_eqb x.start s (λ q. never _ inner (rw q at out))));
        bytes = same_bytes _ _ bs;
      }
