-- Calls 3, 14 and 15 keep a model sound: only rule 5 speaks of threads. Assumes nothing.
use Rattle.std.specs.Prelude.{true, ◌≡◌, refl, ℕ, eqb, if◌then◌else◌}
use mathlib.Core.List.Memᴰ
use Rattle.std.proofs.Common.{inl, inr, ⊎_elim}
use Rattle.lists.specs.Keyed.{has, remove, Has}
use Rattle.lists.specs.Tests.{tested}
use Rattle.lists.specs.ListLaws.{keep_member}
use Rattle.lists.specs.ListChanges.{two_keep}
use Rattle.lists.specs.KeyedLaws.{has_iff}
use Rattle.lists.specs.KeyedChanges.{insert_member, rising_insert, rising_map}
use Rattle.meaning.specs.Model.{Thread, Model, store_name, thread_name, listed}
use Rattle.meaning.specs.Facts.{Sound}
use Rattle.meaning.specs.Changes.{with_context, placed, with_threads}
use Rattle.laws.specs.Frames.{sound_with_threads}

module _ (m : Model) (sound : Sound m) (t s : ℕ) (there : listed m.stores s ≡ true) where
  new_context_listed : (x : Thread) → Has store_name m.stores x.context
      → Has store_name m.stores (if eqb x.identifier t then s else x.context)
  new_context_listed x h = elim (tested (eqb x.identifier t)) [
    | inl e ↦ rw e ((has_iff store_name m.stores s).0 there)
    | inr e ↦ rw e h
  ]

  -- call 3, and call 14 of a listed thread
  pub set_context_sound : Sound (with_threads m (with_context t s m.threads))
  set_context_sound =
      sound_with_threads m sound _
      (record {
        rises = rising_map thread_name _ (λ x. refl) m.threads sound.rule5.rises;
        placed = λ y i. let o = Memᴰ.of_map _ m.threads i in
            rw (← o.2) (new_context_listed o.0 (sound.rule5.placed o.0 o.1));
      })

  -- call 14
  pub add_thread_sound : Sound (with_threads m (placed t s m.threads))
  add_thread_sound = elim (tested (has thread_name m.threads t)) [
    | inl e ↦ rw e set_context_sound
    | inr e ↦ rw e
        (sound_with_threads m sound _
        (record {
          rises = rising_insert thread_name _ m.threads sound.rule5.rises e;
          placed = λ y i. ⊎_elim (λ q. rw q ((has_iff store_name m.stores s).0 there)) (sound.rule5.placed y) (insert_member thread_name _ m.threads i);
        }))
  ]

-- call 15
pub remove_thread_sound : (m : Model) → Sound m → (t : ℕ) → Sound (with_threads m (remove thread_name t m.threads))
remove_thread_sound m sound t =
    sound_with_threads m sound _
    (record {
      rises = two_keep _ _ m.threads sound.rule5.rises;
      placed = λ y i. sound.rule5.placed y (keep_member _ m.threads i).0;
    })
