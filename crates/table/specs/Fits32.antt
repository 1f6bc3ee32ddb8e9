-- On a sound model the numbers that an accepted call makes fit 32 bits. Assumes nothing.
use Rattle.std.specs.Prelude.{true, ◌&&◌, ◌≡◌, ℕ, ◌+◌, ◌≤◌, eqb}
use mathlib.Core.List.{[]}
use Rattle.std.proofs.Math.Logic.{inl, inr}
use Rattle.std.proofs.Common.{⊎_elim}
use Rattle.std.proofs.Math.Path.{refl}
use native.Mathlib.Omega.{arith}
use Rattle.lists.specs.Tests.{tested, reflect}
use Rattle.lists.specs.KeyedLaws.{has_iff, at_member}
use Rattle.meaning.specs.Model.{Model, Bytes, end, whole, free_part, store_name, stack_name, listed, no_such_stack, store_of, stack_of, stack_run}
use Rattle.meaning.specs.Nesting.{parent_in}
use Rattle.meaning.specs.Rules.{longest_area, last_end}
use Rattle.meaning.specs.Facts.{Sound}
use Rattle.meaning.specs.Changes.{shortened, joined}
use Rattle.meaning.specs.Reading.{fits32}
use Rattle.meaning.specs.Reports.{first_report, context_store}
use Rattle.meaning.specs.Calls.{allocate, make_store, resize, make_stack, destroy_stack, checks}
use Rattle.meaning.proofs.Laws.Step.{given_none}
use Rattle.meaning.proofs.Laws.Nested.{root_or_other}
use Rattle.meaning.proofs.Laws.Within.{store_within, store_fits, context_listed}
use Rattle.names.specs.Overhead.{allocation_overhead, store_taken, stack_taken}
use Rattle.stack_calls.specs.StackCalls.{run_fits}
use Rattle.store_calls.specs.StoreCalls.{resized_used}

module _ (m : Model) (sound : Sound m) where
  -- ---- stores

  -- a listed store lies below the last end of an area, and is no longer than an area
  low : (x : ℕ) → listed m.stores x ≡ true → (end (whole (store_of m.stores x)) ≤ last_end) × ((store_of m.stores x).total ≤ longest_area)
  low x h =
      let lies = store_within m sound x h in
      (omega (arith, lies, sound.rule1.stores_end), omega (arith, lies, sound.rule1.stores_most))

  parent_listed : (x : ℕ) → listed m.stores x ≡ true → listed m.stores (parent_in m.stores x) ≡ true
  parent_listed x h =
      ⊎_elim (λ r. rw r.1 h) (λ i. (has_iff store_name m.stores _).1 (sound.rule3.others (store_of m.stores x) i).listed) (root_or_other m sound h)

  pub allocate_fits : (bs : Bytes) (t n : ℕ) → first_report (checks m bs (allocate t n)) ≡ 0 → fits32 ((free_part (context_store m t)).start + allocation_overhead) ≡ true
  unfolding checks
  allocate_fits bs t n e =
      let f = simp reflect at (given_none (checks m bs (allocate t n)) refl e) in
      let there = context_listed m sound t f.1.0 in
      simp reflect (omega (arith, (low _ there).0, store_fits m sound _ there, f.1.1.0))

  pub make_store_fits : (t n : ℕ) → first_report (checks m [] (make_store t n)) ≡ 0 → fits32 (free_part (context_store m t)).start ≡ true
  unfolding checks
  make_store_fits t n e =
      let f = simp reflect at (given_none (checks m [] (make_store t n)) refl e) in
      let there = context_listed m sound t f.0 in
      simp reflect (omega (arith, (low _ there).0, store_fits m sound _ there))

  pub resize_fits : (s n : ℕ) → first_report (checks m [] (resize s n)) ≡ 0 → (fits32 (store_taken n) && fits32 (resized_used m s n)) ≡ true
  unfolding checks
  resize_fits s n e =
      let f = simp reflect at (given_none (checks m [] (resize s n)) refl e) in
      let up = parent_listed s f.0 in
      let room = f.1.1.1.1.1.1.0 in
      let a = (low s f.0).1 in
      let b = (low _ up).1 in
      simp reflect (omega arith, omega (arith, store_fits m sound _ up))

  -- ---- the free run

  pub make_stack_fits : (n : ℕ) → first_report (checks m [] (make_stack n)) ≡ 0 → run_fits (shortened m.stack_area m.free_run (stack_taken n)) ≡ true
  unfolding checks
  make_stack_fits n e =
      let f = simp reflect at (given_none (checks m [] (make_stack n)) refl e) in
      let lies = sound.rule7.inside in
      elim (tested (eqb (stack_taken n) m.free_run.length)) [
        | inl q ↦ rw q (simp reflect (omega (arith, sound.rule1.stacks_end), omega (arith, sound.rule1.stacks_end)))
        | inr q ↦ rw q (simp reflect (omega (arith, f.0, sound.rule1.stacks_end), omega (arith, sound.rule1.stacks_end)))
      ]

  pub destroy_stack_fits : (k : ℕ) → first_report (checks m [] (destroy_stack k)) ≡ 0 → run_fits (joined m.free_run (stack_run (stack_of m.stacks k))) ≡ true
  unfolding checks
  destroy_stack_fits k e =
      let f = simp reflect at (given_none (checks m [] (destroy_stack k)) refl e) in
      let lies = sound.rule6.inside _ (at_member stack_name no_such_stack m.stacks k f.0) in
      let free = sound.rule7.inside in
      let most = sound.rule1.stacks_most in
      elim (tested (eqb m.free_run.length 0)) [
        | inl q ↦ rw q (simp reflect (omega (arith, sound.rule1.stacks_end), omega arith))
        | inr q ↦ rw q (simp reflect (omega (arith, sound.rule1.stacks_end), omega arith))
      ]
