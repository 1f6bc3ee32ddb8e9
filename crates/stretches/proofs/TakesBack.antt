-- Demand 3: a clear takes back all that was done in the store since it was empty. Stretch.antt has the words of the statement. Assumes nothing.
use Rattle.std.specs.Prelude.{List, ℕ}
use Rattle.std.proofs.Common.{sym, ◌∙◌, ap, subst, eqb-true}
use Rattle.lists.specs.Lists.{◌∈◌}
use Rattle.meaning.specs.Model.{Model, Bytes}
use Rattle.meaning.specs.Calls.{Call, clear}
use Rattle.meaning.specs.CallList.{after}
use Rattle.laws.specs.SoundStaysSound.{sound_stays_sound_after}
use Rattle.stretches.specs.Stretch.{Stretch, TakenBack}
use Rattle.stretches.proofs.Without.{without_empty}
use Rattle.stretches.proofs.Bytes.{same_bytes}
use Rattle.stretches.proofs.AnyCalls.{any_calls, stayed_accepted, after_last}
use Rattle.stretches.proofs.Clear.{clear_empties}

-- The rest of a stretch, run from the same start, is all accepted with the same answers, and ends with the same table and the same bytes outside S.
pub clear_takes_back : (S : ℕ) (m : Model) (bs : Bytes) (cs : List Call) → Stretch S m bs cs → TakenBack S m bs cs
clear_takes_back S m bs cs s =
    let ends = any_calls S cs m bs m bs s.sound s.there s.meanwhile (sym (without_empty S m s.sound s.there s.empty)) (same_bytes _ _ bs) in
    let last = ap (after m bs) s.ending ∙ after_last m bs s.before (clear s.thread) in
    let sound = sound_stays_sound_after m bs s.before s.sound in
    record {
      accepted = λ l i. stayed_accepted S cs m bs l (subst (λ k. l ∈ k) ends.answers i);
      answers = ends.answers;
      table = ends.table ∙ rw last (clear_empties S _ _ s.thread sound s.context (eqb-true _ 0 s.accepted));
      bytes = ends.bytes;
      place = ends.place;
    }
