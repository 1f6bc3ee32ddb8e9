-- 000's state has two halves: stores with threads, and stacks. A call on one leaves the other, and a refusal leaves both. Assumes nothing.
use Rattle.std.specs.Prelude.{Bool, true, false, ◌||◌, ◌≡◌, refl, eqb}
use Rattle.std.proofs.Common.{◌∙◌, ap}
use Rattle.std.proofs.Math.Decide.{ℕ_discrete}
use Rattle.lists.specs.Tests.{never}
use Rattle.meaning.specs.Model.{Model, Bytes}
use Rattle.meaning.specs.Facts.{Sound}
use Rattle.meaning.specs.Calls.{Call, start, root, context_of, set_context, total_of, used_of, free_of, find, allocate, make_store, clear, resize, make_stack, destroy_stack, add_thread, remove_thread, code, change, step}
use Rattle.meaning.proofs.Laws.Step.{step_accepted, step_refused}
use Rattle.schemas.specs.Global.{ΞGlobalMemoryManager}
use Rattle.schemas.specs.Stacks.{ΞStackMemoryManager}
use Rattle.schemas.specs.Reading.{global_of, stacks_of}
use Rattle.schemas.specs.Steps.{global_stays, stacks_stay}

-- the calls on stacks: 12, 13
abbrev pub on_stacks : Call → Bool
on_stacks c = eqb (code c) 12 || eqb (code c) 13

-- a call other than a start leaves the half that it is not on as it was
change_halves : (m : Model) (bs : Bytes) (c : Call) → (code c ≡ 0 → ⊥)
    → (on_stacks c ≡ false → stacks_of (change m bs c).model ≡ stacks_of m) × (on_stacks c ≡ true → global_of (change m bs c).model ≡ global_of m)
unfolding change
change_halves m bs (start a b) n = absurd (n refl)
change_halves m bs root n = (λ _. refl, λ e. absurd (never false e refl))
change_halves m bs (context_of t) n = (λ _. refl, λ e. absurd (never false e refl))
change_halves m bs (set_context t s) n = (λ _. refl, λ e. absurd (never false e refl))
change_halves m bs (total_of s) n = (λ _. refl, λ e. absurd (never false e refl))
change_halves m bs (used_of s) n = (λ _. refl, λ e. absurd (never false e refl))
change_halves m bs (free_of s) n = (λ _. refl, λ e. absurd (never false e refl))
change_halves m bs (find a) n = (λ _. refl, λ e. absurd (never false e refl))
change_halves m bs (allocate t k) n = (λ _. refl, λ e. absurd (never false e refl))
change_halves m bs (make_store t k) n = (λ _. refl, λ e. absurd (never false e refl))
change_halves m bs (clear t) n = (λ _. refl, λ e. absurd (never false e refl))
change_halves m bs (resize s k) n = (λ _. refl, λ e. absurd (never false e refl))
change_halves m bs (make_stack k) n = (λ e. absurd (never true refl e), λ _. refl)
change_halves m bs (destroy_stack k) n = (λ e. absurd (never true refl e), λ _. refl)
change_halves m bs (add_thread t s) n = (λ _. refl, λ e. absurd (never false e refl))
change_halves m bs (remove_thread t) n = (λ _. refl, λ e. absurd (never false e refl))

module _ (m : Model) (bs : Bytes) (c : Call) (sound : Sound m) where
  -- a refusal leaves both halves
  pub refusal_stays : ((step m bs c).report ≡ 0 → ⊥)
      → ΞGlobalMemoryManager (global_of m) (global_of (step m bs c).model) × ΞStackMemoryManager (stacks_of m) (stacks_of (step m bs c).model)
  refusal_stays r = let e = ap (λ o. o.model) (step_refused m bs c r) in (global_stays sound e, stacks_stay sound e)

  -- a call on stores or threads leaves the stacks
  pub stacks_untouched : (code c ≡ 0 → ⊥) → on_stacks c ≡ false → ΞStackMemoryManager (stacks_of m) (stacks_of (step m bs c).model)
  stacks_untouched n s = elim (ℕ_discrete (step m bs c).report 0) [
    | yes h ↦ rw (ap (λ o. stacks_of o.model) (step_accepted m bs c h) ∙ (change_halves m bs c n).0 s) (stacks_stay {m = m} sound refl)
    | no r ↦ (refusal_stays r).1
  ]

  -- a call on stacks leaves the stores and threads
  pub stores_untouched : (code c ≡ 0 → ⊥) → on_stacks c ≡ true → ΞGlobalMemoryManager (global_of m) (global_of (step m bs c).model)
  stores_untouched n s = elim (ℕ_discrete (step m bs c).report 0) [
    | yes h ↦ rw (ap (λ o. global_of o.model) (step_accepted m bs c h) ∙ (change_halves m bs c n).1 s) (global_stays {m = m} sound refl)
    | no r ↦ (refusal_stays r).0
  ]
