-- A change of store lines that leaves names and parents: without what is in S it is the same change, or none if it is a change of lines in S. Assumes nothing.
use Rattle.std.specs.Prelude.{true, false, not, List, map, ◌≡◌, ℕ, eqb}
use Rattle.std.proofs.lemmas.Simd.{map-map}
use Rattle.std.proofs.Common.{inl, inr, sym, ◌∙◌, arith, eqb-true, ne_eqb}
use Rattle.std.proofs.Math.Path.{ap, fun_ext}
use Rattle.lists.specs.Tests.{tested, never, not_iff, unless_iff}
use Rattle.lists.specs.ListLaws.{keep_member}
use Rattle.lists.specs.KeepLaws.{map_agree, map_swap, keep_agree, keep_map}
use Rattle.lists.specs.KeyedChanges.{at_map_field}
use Rattle.meaning.specs.Model.{Store, Model, store_name, no_such_store}
use Rattle.meaning.specs.Nesting.{nested, climbs}
use Rattle.meaning.specs.Changes.{line_with_used, cleared, with_stores}
use Rattle.laws.specs.StoreChanges.{not_in}
use Rattle.stretches.specs.Stretch.{within}
use Rattle.stretches.specs.Without.{without}
use Rattle.stretches.proofs.Without.{remade, moved_alike}

module _ (f : Store → Store) (start : (s : Store) → (f s).start ≡ s.start) (parent : (s : Store) → (f s).parent ≡ s.parent) where
  -- nested in means the same
  pub nested_lines : (ss : List Store) (x s : ℕ) → nested (map f ss) x s ≡ nested ss x s
  unfolding nested
  nested_lines ss x s =
      ap (λ par. climbs par x x s) (fun_ext (λ k. at_map_field store_name f start (λ l. l.parent) parent no_such_store ss k))

  not_in_lines : (S : ℕ) (ss : List Store) → not_in S (map f ss) ≡ map f (not_in S ss)
  not_in_lines S ss =
      keep_agree (λ s. not (nested (map f ss) s.start S)) (λ s. not (nested ss s.start S)) (map f ss) (λ s i. rw (nested_lines ss s.start S))
      ∙ keep_map (λ s. not (nested ss s.start S)) f (λ s. rw (start s)) ss

  -- a change that goes together with emptying S
  pub lines_seen : (S : ℕ) (m : Model) → ((s : Store) → line_with_used S 0 (f s) ≡ f (line_with_used S 0 s))
      → with_stores (without S m) (map f (cleared S m.stores)) ≡ without S (with_stores m (map f m.stores))
  lines_seen S m swap =
      let ss = m.stores in
      remade m _ _ _ _
      (sym (ap (map (line_with_used S 0)) (not_in_lines S ss) ∙ map_swap (line_with_used S 0) f swap (not_in S ss)))
      (sym (moved_alike S ss (map f ss) m.threads (λ t i. nested_lines ss t.context S)))

  -- a change that emptying S and taking away what is in it undoes
  pub lines_unseen : (S : ℕ) (m : Model) → ((s : Store) → nested m.stores s.start S ≡ false → line_with_used S 0 (f s) ≡ line_with_used S 0 s)
      → without S (with_stores m (map f m.stores)) ≡ without S m
  lines_unseen S m undone =
      let ss = m.stores in
      remade m _ _ _ _
      (ap (map (line_with_used S 0)) (not_in_lines S ss) ∙ map-map (line_with_used S 0) f (not_in S ss)
      ∙ map_agree _ (line_with_used S 0) (not_in S ss)
      (λ s i. undone s ((not_iff _).0 (keep_member (λ s. not (nested ss s.start S)) ss i).1)))
      (moved_alike S ss (map f ss) m.threads (λ t i. nested_lines ss t.context S))

-- ---- another used

-- of a store that is not S
pub used_swap : (S k u : ℕ) → (k ≡ S → ⊥) → (s : Store) → line_with_used S 0 (line_with_used k u s) ≡ line_with_used k u (line_with_used S 0 s)
used_swap S k u d s = elim (tested (eqb s.start S)) [
  | inl e ↦ let q = eqb-true s.start S e in rw (e, ne_eqb s.start k (omega arith))
  | inr e ↦ rw e
]

-- of a store within S
pub used_undone : (S k u : ℕ) (m : Model) → within S m k ≡ true → (s : Store) → nested m.stores s.start S ≡ false
    → line_with_used S 0 (line_with_used k u s) ≡ line_with_used S 0 s
used_undone S k u m h s out = elim (tested (eqb s.start S)) [
  | inl e ↦ rw e
  | inr e ↦ elim (tested (eqb s.start k)) [
    | inl f ↦
        let q = eqb-true s.start k f in
        never (nested m.stores k S) ((unless_iff (eqb k S) (nested m.stores k S)).0 h (rw q at e)) (rw q at out)
    | inr f ↦ rw (e, f)
  ]
]
