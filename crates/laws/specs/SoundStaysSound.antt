-- A sound model stays sound: under every accepted call, under any call, and under any list of calls. Assumes nothing.
use Rattle.std.specs.Prelude.{List, [], ◌∷◌, ◌≡◌}
use Rattle.meaning.specs.Model.{Model, Bytes}
use Rattle.meaning.specs.Facts.{Sound}
use Rattle.meaning.specs.Calls.{Call, step}
use Rattle.meaning.specs.CallList.{after}
use Rattle.meaning.proofs.Laws.Step.{step_accepted}
use Rattle.laws.specs.AnyStep.{after_step}
use Rattle.laws.specs.EachCall.{change_sound}

-- An accepted call gives a sound model: a start from any model, every other call since it is accepted on sound ones only.
pub accepted_gives_sound : (m : Model) (bs : Bytes) (c : Call) → (step m bs c).report ≡ 0 → Sound (step m bs c).model
accepted_gives_sound m bs c h = rw (step_accepted m bs c h) (change_sound m bs c h)

-- A sound model stays sound under any call, accepted or refused.
pub sound_stays_sound : (m : Model) (bs : Bytes) (c : Call) → Sound m → Sound (step m bs c).model
sound_stays_sound m bs c sound = after_step Sound m bs c (change_sound m bs c) sound

-- And so under any list of calls.
pub sound_stays_sound_after : (m : Model) (bs : Bytes) (cs : List Call) → Sound m → Sound (after m bs cs)
unfolding after
sound_stays_sound_after m bs [] sound = sound
sound_stays_sound_after m bs (c ∷ cs) sound = sound_stays_sound_after (step m bs c).model (step m bs c).bytes cs (sound_stays_sound m bs c sound)
