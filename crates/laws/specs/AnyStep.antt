-- What holds of a model, and of what each accepted call makes of it, holds after any call. Assumes nothing.
use Rattle.std.specs.Prelude.{◌≡◌}
use Rattle.std.proofs.Math.Decide.{ℕ_discrete}
use Rattle.meaning.specs.Model.{Model, Bytes}
use Rattle.meaning.specs.Calls.{Call, change, step}
use Rattle.meaning.proofs.Laws.Step.{step_accepted, step_refused}

pub after_step : (P : Model → Type 0) (m : Model) (bs : Bytes) (c : Call) → ((step m bs c).report ≡ 0 → P (change m bs c).model) → P m → P (step m bs c).model
after_step P m bs c accepted same = elim (ℕ_discrete (step m bs c).report 0) [
  | yes h ↦ rw (step_accepted m bs c h) (accepted h)
  | no r ↦ rw (step_refused m bs c r) same
]
