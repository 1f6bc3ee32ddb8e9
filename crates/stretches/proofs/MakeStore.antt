-- Call 9: outside S it makes the same store without what is in S; inside S it is not seen. Assumes nothing.
use Rattle.std.specs.Prelude.{true, false, ◌≡◌, refl, ℕ, ◌+◌, ◌≤◌, length}
use Rattle.std.proofs.Common.{sym, ◌∙◌, ap, arith}
use Rattle.std.proofs.lemmas.List.{length-map}
use Rattle.lists.specs.Keyed.{insert}
use Rattle.lists.specs.Tests.{reflect}
use Rattle.lists.specs.ListChanges.{keep_length}
use Rattle.names.specs.Overhead.{store_taken}
use Rattle.meaning.specs.Model.{Store, Model, Bytes, free_part, store_name, listed, context_in}
use Rattle.meaning.specs.Reports.{context_store}
use Rattle.meaning.specs.Facts.{Sound}
use Rattle.meaning.specs.Changes.{line_with_used, with_used, with_stores}
use Rattle.meaning.specs.Calls.{make_store, checks, change, all_checks, step}
use Rattle.meaning.proofs.Laws.Nested.{named}
use Rattle.meaning.proofs.Laws.Step.{accepted_exact}
use Rattle.laws.specs.ByName.{Listed}
use Rattle.laws.specs.Geometry.{none_at_free}
use Rattle.laws.specs.StoreChanges.{used_set}
use Rattle.laws.specs.StoreCalls.{allocate_sound, make_store_sound}
use Rattle.meaning.proofs.Laws.Within.{context_listed}
use Rattle.stretches.specs.Stretch.{within, moved}
use Rattle.stretches.specs.Without.{without}
use Rattle.stretches.proofs.Bytes.{same_bytes}
use Rattle.stretches.specs.Follows.{Same, Follows, Unseen}
use Rattle.stretches.proofs.Lines.{nested_lines, lines_seen, lines_unseen, used_swap, used_undone}
use Rattle.stretches.proofs.Inserted.{insert_seen, insert_unseen}
use Rattle.stretches.proofs.Contexts.{out_of, threads_same, context_store_same}

-- no store more without what is in S
stores_fewer : (S : ℕ) (m : Model) → length (without S m).stores ≤ length m.stores
stores_fewer S m = rw length-map (keep_length _ m.stores)

module _ (S : ℕ) (m : Model) (sound : Sound m) (there : Listed m.stores S) (bs : Bytes) (t n : ℕ) (h : (step m bs (make_store t n)).report ≡ 0) where
  abbrev c : Store
  c = context_store m t

  abbrev used : ℕ
  used = c.used + store_taken n

  -- the stores with the context's bytes taken, and the store that takes them
  abbrev taken : Model
  taken = with_stores m (with_used c.start used m.stores)

  abbrev new : Store
  new = record { start = (free_part c).start; total = store_taken n; used = 0; parent = c.start }

  named_context : c.start ≡ context_in m.threads t
  named_context = named m.stores (context_in m.threads t)

  taken_sound : Sound taken
  unfolding all_checks checks
  taken_sound =
      let f = simp reflect at ((accepted_exact m bs (make_store t n)).0 h) in
      rw named_context (allocate_sound m sound (context_in m.threads t) (store_taken n) (context_listed m sound t f.1.0) f.1.1.0)

  made_sound : Sound (with_stores taken (insert store_name new taken.stores))
  unfolding all_checks checks
  made_sound =
      let f = simp reflect at ((accepted_exact m bs (make_store t n)).0 h) in
      rw named_context (make_store_sound m sound (context_in m.threads t) (store_taken n) (context_listed m sound t f.1.0) f.1.1.0 (omega arith))

  fresh : listed taken.stores new.start ≡ false
  unfolding all_checks checks
  fresh =
      let f = simp reflect at ((accepted_exact m bs (make_store t n)).0 h) in
      (used_set c.start used m.stores).names new.start
      ∙ rw named_context (none_at_free m sound (context_in m.threads t) (context_listed m sound t f.1.0) (omega (arith, f.1.1.0)))

  -- the context is within S as before
  within_taken : within S taken new.parent ≡ within S m (context_in m.threads t)
  within_taken =
      rw (nested_lines (line_with_used c.start used) (λ s. refl) (λ s. refl) m.stores c.start S) (ap (λ k. within S m k) named_context)

  pub make_store_follows : (other : Bytes) → Same S m bs other → within S m (context_in m.threads t) ≡ false → Follows S m bs other (make_store t n)
  unfolding all_checks checks change moved
  make_store_follows other same out =
      let f = simp reflect at ((accepted_exact m bs (make_store t n)).0 h) in
      let e = context_store_same S m t f.1.0 out in
      let d : c.start ≡ S → ⊥ = λ q. (out_of S m _ out).0 (sym named_context ∙ q) in
      record {
        passes = rw e (simp reflect (threads_same S m t ∙ f.1.0, (f.1.1.0, (omega (arith, stores_fewer S m, f.1.1.1.0), refl))));
        value = rw e;
        steps = refl;
        model = rw e
            (ap (λ k. with_stores k (insert store_name new k.stores))
            (lines_seen (line_with_used c.start used) (λ s. refl) (λ s. refl) S m (used_swap S c.start used d))
            ∙ insert_seen taken taken_sound new fresh (omega arith) made_sound S ((used_set c.start used m.stores).names S ∙ there) (within_taken ∙ out));
        bytes = same;
      }

  pub make_store_unseen : within S m (context_in m.threads t) ≡ true → Unseen S m bs (change m bs (make_store t n))
  unfolding change
  make_store_unseen inner =
      record {
        model = insert_unseen taken taken_sound new fresh (omega arith) made_sound S (within_taken ∙ inner)
            ∙ lines_unseen (line_with_used c.start used) (λ s. refl) (λ s. refl) S m (used_undone S c.start used m (rw named_context inner));
        bytes = same_bytes _ _ bs;
      }
