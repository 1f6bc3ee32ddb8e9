-- Over any list of calls: what stays of them, run without what is in S, gives the same answers, and ends where they end, without what is in S. Assumes nothing.
use Rattle.std.specs.Prelude.{true, false, not, ◌&&◌, List, [], ◌∷◌, ◌++◌, ◌≡◌, refl, ℕ}
use mathlib.Core.List.Memᴰ.{cases_cons}
use mathlib.Core.List.Memᴰ.{not-nil as nowhere}
use Rattle.std.proofs.Common.{inl, inr, ⊎_elim, sym, ◌∙◌, ap₂, ap, eqb-true}
use Rattle.lists.specs.Tests.{tested, and_iff, not_iff}
use Rattle.meaning.specs.Model.{Model, Bytes, listed}
use Rattle.meaning.specs.Facts.{Sound}
use Rattle.meaning.specs.Calls.{Call, Outcome, step}
use Rattle.meaning.specs.CallList.{Line, after, told, bytes_after}
use Rattle.meaning.proofs.Laws.Step.{accepted_exact, step_accepted}
use Rattle.laws.specs.ByName.{Listed}
use Rattle.laws.specs.SoundStaysSound.{sound_stays_sound}
use Rattle.stretches.specs.Stretch.{question, is_accepted, stays, moved, stayed, starts_or_resizes, lasts}
use Rattle.stretches.proofs.Bytes.{same_back, same_after}
use Rattle.stretches.specs.Without.{without}
use Rattle.stretches.proofs.Without.{without_sound}
use Rattle.stretches.specs.Follows.{Same}
use Rattle.stretches.proofs.Follows.{sound_passes}
use Rattle.lists.specs.Lists.{◌∈◌}
use Rattle.stretches.proofs.EachCall.{follows, dropped_unseen, place_stays}
use Rattle.stretches.specs.AnyCalls.{Ends}

-- what a call that stays does without what is in S, as a step
record Step (S : ℕ) (m : Model) (o made : Outcome) : Type 0 where
  report : made.report ≡ o.report
  value : made.value ≡ o.value
  steps : made.steps ≡ o.steps
  model : made.model ≡ without S o.model
  bytes : Same S m o.bytes made.bytes

module _ (S : ℕ) (m : Model) (sound : Sound m) (there : Listed m.stores S) (bs other : Bytes) (same : Same S m bs other) (c : Call) where
  stays_step : stays S m bs c ≡ true → (is_accepted m bs c && starts_or_resizes S c) ≡ false → Listed (step m bs c).model.stores S
      → Step S m (step m bs c) (step (without S m) other (moved S m c))
  stays_step k none after =
      let b = (and_iff (not (question c) && is_accepted m bs c) _).0 k in
      let d = (and_iff (not (question c)) _).0 b.0 in
      let h = eqb-true (step m bs c).report 0 d.1 in
      let f = follows S m sound there bs other same c ((not_iff _).0 d.0) h ((not_iff _).0 b.1) (rw d.1 at none) (rw (step_accepted m bs c h) at after) in
      let a = (accepted_exact (without S m) other (moved S m c)).1 (sound_passes (without S m) other (moved S m c) (without_sound S m sound there) f.passes) in
      record {
        report = a ∙ sym h;
        value = rw (step_accepted m bs c h, step_accepted (without S m) other (moved S m c) a) f.value;
        steps = rw (step_accepted m bs c h, step_accepted (without S m) other (moved S m c) a) f.steps;
        model = rw (step_accepted m bs c h, step_accepted (without S m) other (moved S m c) a) f.model;
        bytes = rw (step_accepted m bs c h, step_accepted (without S m) other (moved S m c) a) f.bytes;
      }

pub any_calls : (S : ℕ) (cs : List Call) (m : Model) (bs : Bytes) (w : Model) (other : Bytes) → Sound m → Listed m.stores S → lasts S m bs cs ≡ true
    → w ≡ without S m → Same S m bs other → Ends S m bs w other cs
unfolding told after stayed bytes_after lasts
any_calls S [] m bs w other sound there last e same = record { answers = refl; table = e; bytes = same; place = refl }
any_calls S (c ∷ cs) m bs w other sound there last e same =
    let o = step m bs c in
    let a = (and_iff (not (is_accepted m bs c && starts_or_resizes S c) && listed o.model.stores S) _).0 last in
    let b = (and_iff (not (is_accepted m bs c && starts_or_resizes S c)) _).0 a.0 in
    let none = (not_iff _).0 b.0 in
    let place = place_stays S m sound there bs c none b.1 in
    let later = any_calls S cs o.model o.bytes in
    let sound-later = sound_stays_sound m bs c sound in
    elim (tested (stays S m bs c)) [
      | inl k ↦
          let s = stays_step S m sound there bs other same c k none b.1 in
          let made = step (without S m) other (moved S m c) in
          let i = later made.model made.bytes sound-later b.1 a.1 s.model (rw (place.0, place.1) s.bytes) in
          rw e
          (record {
            answers = rw k (ap₂ ◌∷◌ (λ j. record { call = moved S m c; report = s.report j; value = s.value j; steps = s.steps j }) i.answers);
            table = rw k i.table;
            bytes = rw k (rw (place.0, place.1) at i.bytes);
            place = i.place ∙ place.1;
          })
      | inr k ↦
          let u = dropped_unseen S m sound there bs c k in
          let i = later w other sound-later b.1 a.1 (e ∙ sym u.model) (rw (place.0, place.1) (same_after _ _ (same_back _ _ u.bytes) same)) in
          record { answers = rw k i.answers; table = rw k i.table; bytes = rw k (rw (place.0, place.1) at i.bytes); place = i.place ∙ place.1 }
    ]

-- the calls that stay were accepted
pub stayed_accepted : (S : ℕ) (cs : List Call) (m : Model) (bs : Bytes) (l : Line) → l ∈ stayed S m bs cs → l.report ≡ 0
unfolding stayed
stayed_accepted S [] m bs l i = absurd (nowhere i)
stayed_accepted S (c ∷ cs) m bs l i = elim (tested (stays S m bs c)) [
  | inl e ↦ ⊎_elim
      (λ q. ap (λ x. x.report) q ∙ eqb-true (step m bs c).report 0 ((and_iff (not (question c)) _).0 ((and_iff (not (question c) && is_accepted m bs c) _).0 e).0).1)
      (λ j. stayed_accepted S cs _ _ l j)
      (cases_cons (rw e at i))
  | inr e ↦ stayed_accepted S cs _ _ l (rw e at i)
]

-- the model after some calls and one more
pub after_last : (m : Model) (bs : Bytes) (cs : List Call) (c : Call) → after m bs (cs ++ (c ∷ [])) ≡ (step (after m bs cs) (bytes_after m bs cs) c).model
unfolding after bytes_after
after_last m bs [] c = refl
after_last m bs (d ∷ cs) c = after_last (step m bs d).model (step m bs d).bytes cs c
