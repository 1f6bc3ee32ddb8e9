-- Which checks of a call count: on a sound model its own alone, and an accepted call passes them. Assumes nothing.
use Rattle.std.specs.Prelude.{not, ◌&&◌, ◌≡◌, eqb}
use Rattle.std.proofs.Common.{inl, inr}
use Rattle.lists.specs.Tests.{tested, and_iff}
use Rattle.meaning.specs.Model.{Model, Bytes}
use Rattle.meaning.specs.Facts.{Sound}
use Rattle.meaning.specs.Rules.{sound}
use Rattle.meaning.specs.Calls.{Call, code, checks, all_checks, step}
use Rattle.meaning.proofs.Laws.Agree.{sound_agrees}
use Rattle.meaning.specs.Reports.{NoneHolds}
use Rattle.meaning.proofs.Laws.Step.{accepted_exact}

-- on a sound model only the call's own checks count
pub sound_passes : (m : Model) (bs : Bytes) (c : Call) → Sound m → NoneHolds (checks m bs c) → NoneHolds (all_checks m bs c)
unfolding all_checks
sound_passes m bs c s h = elim (tested (eqb (code c) 0)) [
  | inl e ↦ rw ((sound_agrees m).1 s, e) h
  | inr e ↦ rw ((sound_agrees m).1 s, e) h
]

-- an accepted call passes its own checks
pub own_checks : (m : Model) (bs : Bytes) (c : Call) → (step m bs c).report ≡ 0 → NoneHolds (checks m bs c)
unfolding all_checks
own_checks m bs c h = ((and_iff (not (not (eqb (code c) 0) && not (sound m))) _).0 ((accepted_exact m bs c).0 h)).1
