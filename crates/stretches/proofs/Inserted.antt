-- One store more: without what is in S it is one store more too, or it is not seen if its parent is within S. Assumes nothing.
use Rattle.std.specs.Prelude.{true, false, not, List, map, ◌⊎◌, ◌≡◌, refl, ℕ, ◌<◌, eqb}
use Rattle.std.proofs.Common.{inl, inr, ⊎_elim, sym, ◌∙◌, ap, arith, eqb-true, eq-eqb, ne_eqb}
use Rattle.std.proofs.Math.Decide.{ℕ_discrete}
use Rattle.lists.specs.Lists.{◌∈◌}
use Rattle.lists.specs.Keyed.{insert}
use Rattle.lists.specs.Tests.{tested, never, false_of, same_test, unless_iff}
use Rattle.lists.specs.KeyedLaws.{has_iff, member_has}
use Rattle.lists.specs.KeyedChanges.{at_insert_new, at_insert_old}
use Rattle.lists.specs.KeepLaws.{keep_agree}
use Rattle.lists.specs.KeyedKeepLaws.{map_insert, keep_insert_out, keep_insert_in}
use Rattle.meaning.specs.Model.{Store, Thread, Model, store_name, listed, no_such_store}
use Rattle.meaning.specs.Nesting.{Child, Nested, child, in_child, nested, parent_in}
use Rattle.meaning.specs.Facts.{Sound}
use Rattle.meaning.specs.Changes.{line_with_used, cleared, with_stores}
use Rattle.meaning.proofs.Laws.Nested.{child_link, link_child, nested_agrees}
use Rattle.laws.specs.ByName.{Listed}
use Rattle.laws.specs.Nesting.{nested_transitive, inner_listed, outer_listed}
use Rattle.laws.specs.StoreChanges.{not_in}
use Rattle.stretches.specs.Stretch.{within}
use Rattle.stretches.specs.Without.{without}
use Rattle.stretches.proofs.Without.{remade, moved_alike}

module _ (m : Model) (sound : Sound m) (new : Store) (fresh : listed m.stores new.start ≡ false) (lower : new.parent < new.start)
    (more-sound : Sound (with_stores m (insert store_name new m.stores))) where
  abbrev ss : List Store
  ss = m.stores

  abbrev more : List Store
  more = insert store_name new ss

  hung_new : parent_in more new.start ≡ new.parent
  hung_new = ap (λ s. s.parent) (at_insert_new store_name no_such_store new ss fresh)

  hung_old : (x : ℕ) → (new.start ≡ x → ⊥) → parent_in more x ≡ parent_in ss x
  hung_old x d = ap (λ s. s.parent) (at_insert_old store_name no_such_store new ss x d)

  -- no listed store is the new one
  another : (x : ℕ) → Listed ss x → new.start ≡ x → ⊥
  another x h e = never (listed ss x) h (rw e at fresh)

  child_on : {x s : ℕ} → Child ss x s → Child more x s
  child_on {x} c =
      let k = child_link m sound c in
      link_child (with_stores m more) more-sound (hung_old x (another x (inner_listed m sound (child c))) ∙ k.0) k.1

  nested_on : {x s : ℕ} → Nested ss x s → Nested more x s
  nested_on (child c) = child (child_on c)
  nested_on (in_child c n) = in_child (child_on c) (nested_on n)

  child_back : {x s : ℕ} → Child more x s → (new.start ≡ x → ⊥) → Child ss x s
  child_back {x} c d = let k = child_link (with_stores m more) more-sound c in link_child m sound (sym (hung_old x d) ∙ k.0) k.1

  -- the new store's parent is s or nested in s
  abbrev Under : ℕ → Type 0
  Under s = (new.parent ≡ s) ⊎ Nested ss new.parent s

  nested_back : {x s : ℕ} → Nested more x s → Nested ss x s ⊎ ((new.start ≡ x) × Under s)
  nested_back {x} {s} (child c) = elim (ℕ_discrete new.start x) [
    | yes e ↦ inr (e, inl (sym hung_new ∙ ap (parent_in more) e ∙ (child_link (with_stores m more) more-sound c).0))
    | no d ↦ inl (child (child_back c d))
  ]
  nested_back {x} {s} (in_child {y = y} c n) = elim (ℕ_discrete new.start y) [
    | yes e ↦ absurd (⊎_elim (λ k. another y (outer_listed m sound k) e)
        (λ u. ⊎_elim (λ q. omega arith) (λ k. another y (outer_listed m sound k) e) u.1)
        (nested_back n))
    | no d ↦
        let b = child_back c d in
        ⊎_elim (λ k. inl (in_child b k)) (λ u. inr (u.0, inr (⊎_elim (λ q. rw q (child b)) (λ k. in_child b k) u.1))) (nested_back n)
  ]

  nested_old : (x s : ℕ) → (new.start ≡ x → ⊥) → nested more x s ≡ nested ss x s
  nested_old x s d =
      same_test _ _
      (λ e. (nested_agrees m sound x s).1
      (⊎_elim (λ k. k) (λ u. absurd (d u.0)) (nested_back ((nested_agrees (with_stores m more) more-sound x s).0 e))))
      (λ e. (nested_agrees (with_stores m more) more-sound x s).1 (nested_on ((nested_agrees m sound x s).0 e)))

  nested_new : (s : ℕ) → nested more new.start s ≡ within s m new.parent
  nested_new s =
      let c = link_child (with_stores m more) more-sound hung_new lower in
      same_test _ _
      (λ e. ⊎_elim (λ k. absurd (another new.start (inner_listed m sound k) refl))
      (λ u. ⊎_elim (λ q. rw (eq-eqb new.parent s q)) (λ k. (unless_iff (eqb new.parent s) _).1 (λ _. (nested_agrees m sound new.parent s).1 k)) u.1)
      (nested_back ((nested_agrees (with_stores m more) more-sound new.start s).0 e)))
      (λ h. (nested_agrees (with_stores m more) more-sound new.start s).1 (elim (tested (eqb new.parent s)) [
        | inl e ↦ let q = eqb-true new.parent s e in child (link_child (with_stores m more) more-sound (hung_new ∙ q) (omega arith))
        | inr e ↦ nested_transitive more (child c) (nested_on ((nested_agrees m sound new.parent s).0 ((unless_iff (eqb new.parent s) (nested ss new.parent s)).0 h e)))
      ]))

  module _ (S : ℕ) where
    contexts_old : (t : Thread) → t ∈ m.threads → nested more t.context S ≡ nested ss t.context S
    contexts_old t i = nested_old t.context S (another t.context ((has_iff store_name ss t.context).1 (sound.rule5.placed t i)))

    nested_alike : within S m new.parent ≡ false → (x : ℕ) → nested more x S ≡ nested ss x S
    nested_alike out x = elim (ℕ_discrete new.start x) [
      | yes e ↦
          let unlisted : nested ss new.start S ≡ false = false_of _ (λ h. another new.start (inner_listed m sound ((nested_agrees m sound new.start S).0 h)) refl) in
          ap (λ k. nested more k S) (sym e) ∙ nested_new S ∙ out ∙ sym unlisted ∙ ap (λ k. nested ss k S) e
      | no d ↦ nested_old x S d
    ]

    -- a new store outside S
    pub insert_seen : Listed ss S → within S m new.parent ≡ false
        → with_stores (without S m) (insert store_name new (cleared S ss)) ≡ without S (with_stores m more)
    insert_seen there out =
        let alike = nested_alike out in
        let itself : line_with_used S 0 new ≡ new = rw (ne_eqb new.start S (another S there)) in
        remade m _ _ _ _
        (sym
        (ap (map (line_with_used S 0))
        (keep_agree (λ s. not (nested more s.start S)) (λ s. not (nested ss s.start S)) more (λ s i. rw (alike s.start))
        ∙ keep_insert_in store_name (λ s. not (nested ss s.start S)) new (rw (sym (alike new.start) ∙ nested_new S ∙ out)) ss sound.rule3.rises)
        ∙ map_insert store_name (line_with_used S 0) (λ s. refl) new (not_in S ss)
        ∙ ap (λ n. insert store_name n (cleared S ss)) itself))
        (sym (moved_alike S ss more m.threads contexts_old))

    -- a new store within S
    pub insert_unseen : within S m new.parent ≡ true → without S (with_stores m more) ≡ without S m
    insert_unseen inner =
        remade m _ _ _ _
        (ap (map (line_with_used S 0))
        (keep_insert_out store_name (λ s. not (nested more s.start S)) new (rw (nested_new S ∙ inner)) ss
        ∙ keep_agree (λ s. not (nested more s.start S)) (λ s. not (nested ss s.start S)) ss
        (λ s i. rw (nested_old s.start S (another s.start (member_has store_name ss i))))))
        (moved_alike S ss more m.threads contexts_old)
