-- Call 10: of a store outside S, which S is not nested in, it is the same clear without what is in S; of a store within S it is not seen. After a clear of S
-- itself S is empty. Assumes nothing.
use Rattle.std.specs.Prelude.{Bool, true, false, not, ◌≡◌, refl, ℕ, eqb}
use mathlib.Core.List.Memᴰ
use mathlib.Core.List.{List, map, map-map}
use Rattle.std.proofs.Common.{inl, inr, ◌∙◌, subst, eqb-true}
use Rattle.std.proofs.Math.Path.{sym, ap}
use Rattle.lists.specs.Lists.{◌∈◌, keep}
use Rattle.lists.specs.Keyed.{has}
use Rattle.lists.specs.Tests.{tested, never, false_of, and_iff, unless_iff, not_iff, not_false_iff, reflect}
use Rattle.lists.specs.ListLaws.{any_member, member_any, keep_member}
use Rattle.lists.specs.KeepLaws.{map_agree, map_swap, keep_agree, keep_swap, keep_stronger, keep_map}
use Rattle.meaning.specs.Model.{Store, Thread, Model, Bytes, thread_name, context_in}
use Rattle.meaning.specs.Nesting.{nested}
use Rattle.meaning.specs.Reports.{in_use}
use Rattle.meaning.specs.Facts.{Sound}
use Rattle.meaning.specs.Changes.{line_with_used, cleared}
use Rattle.meaning.specs.Calls.{clear, checks, change, all_checks, step}
use Rattle.meaning.proofs.Laws.Nested.{nested_agrees}
use Rattle.meaning.proofs.Laws.Step.{accepted_exact, step_accepted}
use Rattle.laws.specs.ByName.{Listed}
use Rattle.laws.specs.Nesting.{nested_transitive}
use Rattle.meaning.proofs.Laws.Within.{context_listed}
use Rattle.stretches.specs.Stretch.{within, instead, moved}
use Rattle.stretches.proofs.Cleared.{nested_cleared, not_in_itself}
use Rattle.stretches.specs.Without.{move_line, moved_threads, without}
use Rattle.stretches.proofs.Without.{remade, moved_alike, instead_not_nested, without_empty}
use Rattle.stretches.proofs.Bytes.{same_bytes}
use Rattle.stretches.specs.Follows.{Same, Follows, Unseen}
use Rattle.stretches.proofs.Lines.{used_swap, used_undone}
use Rattle.laws.specs.SoundStaysSound.{sound_stays_sound}
use Rattle.laws.specs.StoreChanges.{not_in, after_clear}
use Rattle.stretches.proofs.Contexts.{out_of, threads_same, context_same}

-- the test of the stores that a clear of c leaves
abbrev outside : List Store → ℕ → Store → Bool
outside ss c s = not (nested ss s.start c)

-- of two clears: both leave what both leave
cleared_twice : (m : Model) → Sound m → (a b : ℕ) → Listed m.stores a
    → cleared b (cleared a m.stores) ≡ map (line_with_used b 0) (map (line_with_used a 0) (keep (outside m.stores b) (not_in a m.stores)))
cleared_twice m sound a b there =
    let ss = m.stores in
    ap (map (line_with_used b 0))
    (keep_map (outside (cleared a ss) b) (line_with_used a 0) (λ s. refl) (not_in a ss)
    ∙ ap (map (line_with_used a 0))
    (keep_agree (outside (cleared a ss) b) (outside ss b) (not_in a ss)
    (λ s i. rw (nested_cleared m sound a there s.start b ((not_iff _).0 (keep_member (outside ss a) ss i).1)))))

module _ (S : ℕ) (m : Model) (sound : Sound m) (there : Listed m.stores S) (bs : Bytes) (t : ℕ) (h : (step m bs (clear t)).report ≡ 0) where
  abbrev ss : List Store
  ss = m.stores

  abbrev c : ℕ
  c = context_in m.threads t

  thread_listed : has thread_name m.threads t ≡ true
  unfolding all_checks checks
  thread_listed = let f = simp reflect at ((accepted_exact m bs (clear t)).0 h) in f.1.0

  context_there : Listed ss c
  context_there = context_listed m sound t thread_listed

  -- no context is nested in the store that is cleared
  idle : (x : Thread) → x ∈ m.threads → nested ss x.context c ≡ false
  unfolding all_checks checks
  idle x i =
      let f = simp reflect at ((accepted_exact m bs (clear t)).0 h) in
      false_of _ (λ e. never (in_use m c) (member_any (λ x. nested ss x.context c) m.threads i e) f.1.1.0)

  contexts_alike : moved_threads S (cleared c ss) m.threads ≡ moved_threads S ss m.threads
  contexts_alike = moved_alike S ss (cleared c ss) m.threads (λ x i. nested_cleared m sound c context_there x.context S (idle x i))

  -- none is without what is in S
  still_idle : nested ss S c ≡ false → in_use (without S m) c ≡ false
  still_idle apart =
      false_of _
      (λ e.
      let r = any_member (λ x. nested (cleared S ss) x.context c) (moved_threads S ss m.threads) e in
      let o = Memᴰ.of_map (move_line S ss) m.threads r.1 in
      let k = o.0.context in
      let q : nested ss (instead S ss k) c ≡ true =
      sym (nested_cleared m sound S there (instead S ss k) c (instead_not_nested S m sound there k)) ∙ ap (λ x. nested (cleared S ss) x.context c) o.2 ∙ r.2 in
      elim (tested (nested ss k S)) [
        | inl f ↦ never (nested ss S c) (rw f at q) apart
        | inr f ↦ never (nested ss k c) (rw f at q) (idle o.0 o.1)
      ])

  pub clear_follows : (other : Bytes) → Same S m bs other → within S m c ≡ false → Listed (change m bs (clear t)).model.stores S → Follows S m bs other (clear t)
  unfolding all_checks checks change moved
  clear_follows other same out stays =
      let e = context_same S m t thread_listed out in
      let apart = (((after_clear c ss).names S).0 stays).1 in
      record {
        passes = rw e (simp (and_iff, not_iff, not_false_iff) (threads_same S m t ∙ thread_listed, (still_idle apart, refl)));
        value = refl;
        steps = refl;
        model = rw e
            (remade m _ _ _ _
            (cleared_twice m sound S c there
            ∙ sym (map_swap (line_with_used S 0) (line_with_used c 0) (used_swap S c 0 (out_of S m c out).0) (keep (outside ss c) (not_in S ss)))
            ∙ ap (λ l. map (line_with_used S 0) (map (line_with_used c 0) l)) (keep_swap (outside ss c) (outside ss S) ss)
            ∙ sym (cleared_twice m sound c S context_there))
            (sym contexts_alike));
        bytes = same;
      }

  -- what is nested in a store within S is nested in S
  inner_nested : within S m c ≡ true → (x : ℕ) → nested ss x S ≡ false → nested ss x c ≡ false
  inner_nested inner x out =
      false_of _
      (λ e. elim (tested (eqb c S)) [
        | inl q ↦ let k = eqb-true c S q in never (nested ss x S) (rw k at e) out
        | inr q ↦ never (nested ss x S)
            ((nested_agrees m sound x S).1
            (nested_transitive ss ((nested_agrees m sound x c).0 e) ((nested_agrees m sound c S).0 ((unless_iff (eqb c S) (nested ss c S)).0 inner q))))
            out
      ])

  pub clear_unseen : within S m c ≡ true → Unseen S m bs (change m bs (clear t))
  unfolding change
  clear_unseen inner =
      record {
        model = remade m _ _ _ _
            (cleared_twice m sound c S context_there
            ∙ ap (λ l. map (line_with_used S 0) (map (line_with_used c 0) l))
            (keep_stronger (outside ss S) (outside ss c) (λ x o. rw (inner_nested inner x.start ((not_iff _).0 o))) ss)
            ∙ map-map (line_with_used S 0) (line_with_used c 0) (not_in S ss)
            ∙ map_agree _ (line_with_used S 0) (not_in S ss) (λ x i. used_undone S c 0 m inner x ((not_iff _).0 (keep_member (outside ss S) ss i).1)))
            contexts_alike;
        bytes = same_bytes _ _ bs;
      }

-- after an accepted clear of S, S is empty, so without what is in S the model is the same
pub clear_empties : (S : ℕ) (m : Model) (bs : Bytes) (t : ℕ) → Sound m → context_in m.threads t ≡ S → (step m bs (clear t)).report ≡ 0
    → without S (step m bs (clear t)).model ≡ (step m bs (clear t)).model
unfolding all_checks checks change
clear_empties S m bs t sound e h =
    let f = simp reflect at ((accepted_exact m bs (clear t)).0 h) in
    let there : Listed m.stores S = subst (Listed m.stores) e (context_listed m sound t f.1.0) in
    let out = not_in_itself m sound S there in
    let g = after_clear S m.stores in
    without_empty S (step m bs (clear t)).model (sound_stays_sound m bs (clear t) sound)
    (rw (step_accepted m bs (clear t) h, e) ((g.names S).1 (there, out)))
    (rw (step_accepted m bs (clear t) h, e) (g.here there out))
