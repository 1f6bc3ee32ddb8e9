-- Calls 3, 14 and 15: the same call without what is in S, with S for a store nested in S. Assumes nothing.
use Rattle.std.proofs.Math.Bool.{not}
use Rattle.std.specs.Prelude.{List, ◌≡◌, ℕ, eqb}
use Rattle.std.proofs.lemmas.Simd.{map-map}
use Rattle.std.proofs.Common.{inl, inr, sym, ◌∙◌}
use Rattle.std.proofs.Math.Path.{refl}
use Rattle.std.proofs.lemmas.List.{length-map}
use Rattle.lists.specs.Keyed.{has}
use Rattle.lists.specs.Tests.{tested, and_iff, not_iff, not_false_iff, reflect}
use Rattle.lists.specs.KeyedChanges.{has_map}
use Rattle.lists.specs.KeepLaws.{map_agree, keep_map}
use Rattle.lists.specs.KeyedKeepLaws.{map_insert}
use Rattle.meaning.specs.Model.{Store, Thread, Model, Bytes, thread_name}
use Rattle.meaning.specs.Facts.{Sound}
use Rattle.meaning.specs.Changes.{line_with_context, with_context, placed, cleared}
use Rattle.meaning.specs.Calls.{set_context, add_thread, remove_thread, checks, change, all_checks, step}
use Rattle.meaning.proofs.Laws.Step.{accepted_exact}
use Rattle.laws.specs.ByName.{Listed}
use Rattle.stretches.specs.Stretch.{instead, moved}
use Rattle.stretches.proofs.Cleared.{stays_listed}
use Rattle.stretches.specs.Without.{move_line, moved_threads}
use Rattle.stretches.proofs.Without.{remade, instead_not_nested, instead_listed}
use Rattle.stretches.specs.Follows.{Same, Follows}
use Rattle.stretches.proofs.Contexts.{threads_same}

module _ (S : ℕ) (ss : List Store) (t s : ℕ) where
  moved_set : (ts : List Thread) → with_context t (instead S ss s) (moved_threads S ss ts) ≡ moved_threads S ss (with_context t s ts)
  moved_set ts =
      map-map (line_with_context t (instead S ss s)) (move_line S ss) ts
      ∙ map_agree _ _ ts (λ x i. elim (tested (eqb x.identifier t)) [
        | inl e ↦ rw e
        | inr e ↦ rw e
      ])
      ∙ sym (map-map (move_line S ss) (line_with_context t s) ts)

  moved_placed : (ts : List Thread) → placed t (instead S ss s) (moved_threads S ss ts) ≡ moved_threads S ss (placed t s ts)
  moved_placed ts = elim (tested (has thread_name ts t)) [
    | inl e ↦ rw (has_map thread_name (move_line S ss) (λ x. refl) ts t, e) (moved_set ts)
    | inr e ↦ rw (has_map thread_name (move_line S ss) (λ x. refl) ts t, e) (sym (map_insert thread_name (move_line S ss) (λ x. refl) (record { identifier = t; context = s }) ts))
  ]

module _ (S : ℕ) (m : Model) (sound : Sound m) (there : Listed m.stores S) (bs other : Bytes) (same : Same S m bs other) where
  abbrev ss : List Store
  ss = m.stores

  -- S, or a listed store outside S, is listed without what is in S
  instead_there : (s : ℕ) → Listed ss s → Listed (cleared S ss) (instead S ss s)
  instead_there s h = stays_listed S ss (instead S ss s) (instead_not_nested S m sound there s) ∙ instead_listed S m sound there s h

  pub set_context_follows : (t s : ℕ) → (step m bs (set_context t s)).report ≡ 0 → Follows S m bs other (set_context t s)
  unfolding all_checks checks change moved
  set_context_follows t s h =
      let f = simp reflect at ((accepted_exact m bs (set_context t s)).0 h) in
      record {
        passes = simp reflect (threads_same S m t ∙ f.1.0, (instead_there s f.1.1.0, refl));
        value = refl;
        steps = refl;
        model = remade m _ _ _ _ refl (moved_set S ss t s m.threads);
        bytes = same;
      }

  pub add_thread_follows : (t s : ℕ) → (step m bs (add_thread t s)).report ≡ 0 → Follows S m bs other (add_thread t s)
  unfolding all_checks checks change moved
  add_thread_follows t s h =
      let f = simp (and_iff, not_iff, not_false_iff) at ((accepted_exact m bs (add_thread t s)).0 h) in
      record {
        passes = rw (length-map, threads_same S m t) (simp (and_iff, not_iff, not_false_iff) (instead_there s f.1.0, f.1.1));
        value = refl;
        steps = refl;
        model = remade m _ _ _ _ refl (moved_placed S ss t s m.threads);
        bytes = same;
      }

  pub remove_thread_follows : (t : ℕ) → Follows S m bs other (remove_thread t)
  unfolding checks change moved
  remove_thread_follows t =
      record {
        passes = refl;
        value = refl;
        steps = refl;
        model = remade m _ _ _ _ refl (keep_map (λ x. not (eqb (thread_name x) t)) (move_line S ss) (λ x. refl) m.threads);
        bytes = same;
      }
