-- Call by call: one that stays follows, one that is dropped is not seen, and S keeps its place. Assumes nothing.
use Rattle.std.specs.Prelude.{Bool, not, ◌&&◌, ◌||◌, ◌≡◌, ℕ}
use Rattle.std.proofs.Math.Bool.{true, false}
use Rattle.std.proofs.Math.Path.{refl}
use Rattle.std.proofs.Common.{sym, ◌∙◌, ap₂, arith}
use Rattle.std.proofs.Math.Decide.{ℕ_discrete}
use borrow.Author.Tests.{eqb-false, eq-eqb, ne_eqb}
use Rattle.lists.specs.Tests.{never}
use Rattle.meaning.specs.Model.{Model, Bytes, whole, store_of, context_in}
use Rattle.meaning.specs.Facts.{Sound}
use Rattle.meaning.specs.Calls.{Call, start, root, context_of, set_context, total_of, used_of, free_of, find, allocate, make_store, clear, resize, make_stack, destroy_stack, add_thread, remove_thread, code, change, step}
use Rattle.meaning.proofs.Laws.Nested.{named}
use Rattle.meaning.proofs.Laws.Step.{step_accepted, step_refused}
use Rattle.laws.specs.ByName.{Listed}
use Rattle.laws.specs.Fixed.{areas_stay}
use Rattle.laws.specs.Stays.{untouched_stays}
use Rattle.laws.specs.Touched.{touched}
use Rattle.laws.specs.StoreChanges.{after_clear}
use Rattle.stretches.specs.Stretch.{question, is_accepted, work_inside, stays, starts_or_resizes}
use Rattle.stretches.proofs.Bytes.{same_bytes}
use Rattle.stretches.specs.Follows.{Same, Follows, Unseen}
use Rattle.stretches.proofs.Allocate.{allocate_follows, allocate_unseen}
use Rattle.stretches.proofs.MakeStore.{make_store_follows, make_store_unseen}
use Rattle.stretches.proofs.Clear.{clear_follows, clear_unseen}
use Rattle.stretches.proofs.Resize.{resize_follows, resize_unseen}
use Rattle.stretches.proofs.Threads.{set_context_follows, add_thread_follows, remove_thread_follows}
use Rattle.stretches.proofs.Stacks.{make_stack_follows, destroy_stack_follows}

-- an accepted call that does not stay is a question or work inside S
dropped : (q a w : Bool) → (not q && a && not w) ≡ false → a ≡ true → (q || w) ≡ true
dropped true a w d h = refl
dropped false a true d h = refl
dropped false true false d h = never true refl d
dropped false false false d h = never false h refl

module _ (S : ℕ) (m : Model) (sound : Sound m) (there : Listed m.stores S) (bs : Bytes) where
  -- an accepted call that stays
  pub follows : (other : Bytes) → Same S m bs other → (c : Call) → question c ≡ false → (step m bs c).report ≡ 0 → work_inside S m c ≡ false
      → starts_or_resizes S c ≡ false → Listed (change m bs c).model.stores S → Follows S m bs other c
  unfolding work_inside starts_or_resizes
  follows other same (start a b) q h out no_start stays = never true refl no_start
  follows other same root q h out no_start stays = never true refl q
  follows other same (context_of t) q h out no_start stays = never true refl q
  follows other same (set_context t s) q h out no_start stays = set_context_follows S m sound there bs other same t s h
  follows other same (total_of s) q h out no_start stays = never true refl q
  follows other same (used_of s) q h out no_start stays = never true refl q
  follows other same (free_of s) q h out no_start stays = never true refl q
  follows other same (find a) q h out no_start stays = never true refl q
  follows other same (allocate t n) q h out no_start stays = allocate_follows S m bs t n h other same out
  follows other same (make_store t n) q h out no_start stays = make_store_follows S m sound there bs t n h other same out
  follows other same (clear t) q h out no_start stays = clear_follows S m sound there bs t h other same out stays
  follows other same (resize s n) q h out no_start stays = resize_follows S m sound there bs s n h other same (eqb-false s S no_start) out
  follows other same (make_stack n) q h out no_start stays = make_stack_follows S m bs other same n h
  follows other same (destroy_stack k) q h out no_start stays = destroy_stack_follows S m bs other same k h
  follows other same (add_thread t s) q h out no_start stays = add_thread_follows S m sound there bs other same t s h
  follows other same (remove_thread t) q h out no_start stays = remove_thread_follows S m sound there bs other same t

  -- an accepted call that is dropped
  unseen : (c : Call) → (step m bs c).report ≡ 0 → (question c || work_inside S m c) ≡ true → Unseen S m bs (change m bs c)
  unfolding work_inside change
  unseen (start a b) h inner = never false inner refl
  unseen root h inner = record { model = refl; bytes = same_bytes _ _ bs }
  unseen (context_of t) h inner = record { model = refl; bytes = same_bytes _ _ bs }
  unseen (set_context t s) h inner = never false inner refl
  unseen (total_of s) h inner = record { model = refl; bytes = same_bytes _ _ bs }
  unseen (used_of s) h inner = record { model = refl; bytes = same_bytes _ _ bs }
  unseen (free_of s) h inner = record { model = refl; bytes = same_bytes _ _ bs }
  unseen (find a) h inner = record { model = refl; bytes = same_bytes _ _ bs }
  unseen (allocate t n) h inner = allocate_unseen S m bs t n h sound there inner
  unseen (make_store t n) h inner = make_store_unseen S m sound there bs t n h inner
  unseen (clear t) h inner = clear_unseen S m sound there bs t h inner
  unseen (resize s n) h inner = resize_unseen S m sound there bs s n h inner
  unseen (make_stack n) h inner = never false inner refl
  unseen (destroy_stack k) h inner = never false inner refl
  unseen (add_thread t s) h inner = never false inner refl
  unseen (remove_thread t) h inner = never false inner refl

  -- a call that is dropped, refused ones too
  pub dropped_unseen : (c : Call) → stays S m bs c ≡ false → Unseen S m bs (step m bs c)
  dropped_unseen c d = elim (ℕ_discrete (step m bs c).report 0) [
    | yes h ↦ rw (step_accepted m bs c h) (unseen c h (dropped (question c) (is_accepted m bs c) (work_inside S m c) d (eq-eqb (step m bs c).report 0 h)))
    | no r ↦ rw (step_refused m bs c r) (record { model = refl; bytes = same_bytes _ _ bs })
  ]

  -- ---- S keeps its place

  -- no start, and S is neither among the stores that go nor among those of another total
  record Spared (c : Call) : Type 0 where
    no_start : code c ≡ 0 → ⊥
    gone : (touched m c).gone S ≡ false
    total : (touched m c).total S ≡ false

  spared : (c : Call) → starts_or_resizes S c ≡ false → Listed (change m bs c).model.stores S → Spared c
  unfolding touched starts_or_resizes change
  spared (start a b) no_start stays = never true refl no_start
  spared root no_start stays = record { no_start = omega arith; gone = refl; total = refl }
  spared (context_of t) no_start stays = record { no_start = omega arith; gone = refl; total = refl }
  spared (set_context t s) no_start stays = record { no_start = omega arith; gone = refl; total = refl }
  spared (total_of s) no_start stays = record { no_start = omega arith; gone = refl; total = refl }
  spared (used_of s) no_start stays = record { no_start = omega arith; gone = refl; total = refl }
  spared (free_of s) no_start stays = record { no_start = omega arith; gone = refl; total = refl }
  spared (find a) no_start stays = record { no_start = omega arith; gone = refl; total = refl }
  spared (allocate t n) no_start stays = record { no_start = omega arith; gone = refl; total = refl }
  spared (make_store t n) no_start stays = record { no_start = omega arith; gone = refl; total = refl }
  spared (clear t) no_start stays =
      record { no_start = omega arith; gone = (((after_clear (context_in m.threads t) m.stores).names S).0 stays).1; total = refl }
  spared (resize s n) no_start stays = record { no_start = omega arith; gone = refl; total = ne_eqb S s (λ e. eqb-false s S no_start (sym e)) }
  spared (make_stack n) no_start stays = record { no_start = omega arith; gone = refl; total = refl }
  spared (destroy_stack k) no_start stays = record { no_start = omega arith; gone = refl; total = refl }
  spared (add_thread t s) no_start stays = record { no_start = omega arith; gone = refl; total = refl }
  spared (remove_thread t) no_start stays = record { no_start = omega arith; gone = refl; total = refl }

  pub place_stays : (c : Call) → (is_accepted m bs c && starts_or_resizes S c) ≡ false → Listed (step m bs c).model.stores S
      → ((step m bs c).model.store_area ≡ m.store_area) × (whole (store_of (step m bs c).model.stores S) ≡ whole (store_of m.stores S))
  place_stays c none stays = elim (ℕ_discrete (step m bs c).report 0) [
    | yes h ↦
        let s = spared c (rw (eq-eqb (step m bs c).report 0 h) at none) (rw (step_accepted m bs c h) at stays) in (
          (areas_stay m bs c s.no_start).0,
          ap₂ (λ a n. record { start = a; length = n }) (named (step m bs c).model.stores S ∙ sym (named m.stores S))
              ((untouched_stays m bs c).stores.totals S there s.gone s.total),
        )
    | no r ↦ rw (step_refused m bs c r) (refl, refl)
  ]
