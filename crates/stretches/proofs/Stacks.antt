-- Calls 12 and 13 look at no store and no thread, so they are the same calls without what is in S. Assumes nothing.
use Rattle.std.specs.Prelude.{◌≡◌, refl, ℕ}
use Rattle.meaning.specs.Model.{Model, Bytes}
use Rattle.meaning.specs.Calls.{make_stack, destroy_stack, checks, change, step}
use Rattle.stretches.specs.Stretch.{moved}
use Rattle.stretches.specs.Follows.{Same, Follows}
use Rattle.stretches.proofs.Follows.{own_checks}

module _ (S : ℕ) (m : Model) (bs other : Bytes) (same : Same S m bs other) where
  pub make_stack_follows : (n : ℕ) → (step m bs (make_stack n)).report ≡ 0 → Follows S m bs other (make_stack n)
  unfolding checks change moved
  make_stack_follows n h =
      record { passes = own_checks m bs (make_stack n) h; value = refl; steps = refl; model = refl; bytes = same }

  pub destroy_stack_follows : (k : ℕ) → (step m bs (destroy_stack k)).report ≡ 0 → Follows S m bs other (destroy_stack k)
  unfolding checks change moved
  destroy_stack_follows k h =
      record { passes = own_checks m bs (destroy_stack k) h; value = refl; steps = refl; model = refl; bytes = same }
