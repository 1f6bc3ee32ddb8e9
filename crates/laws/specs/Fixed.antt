-- No call changes the limits, and none but a start an area. Assumes nothing.
use Rattle.std.specs.Prelude.{◌≡◌, refl}
use Rattle.meaning.specs.Model.{Model, Bytes}
use Rattle.meaning.specs.Calls.{Call, start, root, context_of, set_context, total_of, used_of, free_of, find, allocate, make_store, clear, resize, make_stack, destroy_stack, add_thread, remove_thread, code, change, step}
use Rattle.laws.specs.AnyStep.{after_step}

-- the same limits, and but for a start the same areas
abbrev Keeps : Model → Call → Model → Type 0
Keeps m c after = (after.limits ≡ m.limits) × ((code c ≡ 0 → ⊥) → (after.store_area ≡ m.store_area) × (after.stack_area ≡ m.stack_area))

change_keeps : (m : Model) (bs : Bytes) (c : Call) → Keeps m c (change m bs c).model
unfolding change
change_keeps m bs (start a b) = (refl, λ n. absurd (n refl))
change_keeps m bs root = (refl, λ n. (refl, refl))
change_keeps m bs (context_of t) = (refl, λ n. (refl, refl))
change_keeps m bs (set_context t s) = (refl, λ n. (refl, refl))
change_keeps m bs (total_of s) = (refl, λ n. (refl, refl))
change_keeps m bs (used_of s) = (refl, λ n. (refl, refl))
change_keeps m bs (free_of s) = (refl, λ n. (refl, refl))
change_keeps m bs (find a) = (refl, λ n. (refl, refl))
change_keeps m bs (allocate t n) = (refl, λ n. (refl, refl))
change_keeps m bs (make_store t n) = (refl, λ n. (refl, refl))
change_keeps m bs (clear t) = (refl, λ n. (refl, refl))
change_keeps m bs (resize s n) = (refl, λ n. (refl, refl))
change_keeps m bs (make_stack n) = (refl, λ n. (refl, refl))
change_keeps m bs (destroy_stack k) = (refl, λ n. (refl, refl))
change_keeps m bs (add_thread t s) = (refl, λ n. (refl, refl))
change_keeps m bs (remove_thread t) = (refl, λ n. (refl, refl))

step_keeps : (m : Model) (bs : Bytes) (c : Call) → Keeps m c (step m bs c).model
step_keeps m bs c = after_step (Keeps m c) m bs c (λ _. change_keeps m bs c) (refl, λ n. (refl, refl))

-- No call changes the limits.
pub limits_stay : (m : Model) (bs : Bytes) (c : Call) → (step m bs c).model.limits ≡ m.limits
limits_stay m bs c = (step_keeps m bs c).0

-- No call but a start changes an area.
pub areas_stay : (m : Model) (bs : Bytes) (c : Call) → (code c ≡ 0 → ⊥)
    → ((step m bs c).model.store_area ≡ m.store_area) × ((step m bs c).model.stack_area ≡ m.stack_area)
areas_stay m bs c n = (step_keeps m bs c).1 n
