-- What the methods hand back follows the meaning call by call: on a sound table each step of the code is the meaning's step on what the table reads as.
-- Assumes nothing.
use Rattle.std.specs.Prelude.{List, ◌∷◌, ◌≡◌, refl, ℕ, eqb, if◌then◌else◌}
use Rattle.std.proofs.Common.{inr, sym, ◌∙◌, ap, ap₂, eq-eqb, ne_eqb}
use Rattle.std.proofs.Math.Decide.{ℕ_discrete}
use Rattle.lists.specs.Tests.{and_iff}
use Rattle.meaning.specs.Model.{Bytes}
use Rattle.meaning.specs.Rules.{sound}
use Rattle.meaning.specs.Facts.{Sound}
use Rattle.meaning.specs.Calls.{Call, step}
use Rattle.meaning.specs.CallList.{after, bytes_after, told}
use Rattle.meaning.proofs.Laws.Step.{step_refused}
use Rattle.laws.specs.Fixed.{limits_stay}
use Rattle.stretches.specs.Stretch as stretch
use Rattle.table.specs.declared.Table.{Table}
use Rattle.table.specs.Table.{reading, written, rule8, sound_table}
use Rattle.table.specs.EachCall.{is_sound}
use Rattle.table.specs.Laws.{reading_written, written_reading, broken_none}
use Rattle.sound_tables.specs.SoundTables.{table_limits_lem, accepted_table_sound, table_sized_after}
use Rattle.promises.specs.Handed.{Given, Handed, Made, none, first, last_table, last_bytes}
use Rattle.promises.specs.OneAnswer.{handed_called}
use Rattle.promises.proofs.Proof2.{called_meant}
use Rattle.promises.specs.Demand3.{line_of, lines_of, kept_lines, lasts_in}
use Rattle.promises.specs.Meant.{Good, Meant}

pub good_sound : (t : Table) → Good t → Sound (reading t)
good_sound t g = is_sound t g.sized g.sound

-- a sound table is what it reads as, written
pub good_written : (t : Table) → Good t → written (reading t) ≡ t
unfolding sound_table
good_written t g = written_reading t g.sized ((and_iff (sound (reading t)) (rule8 t)).0 g.sound).1

pub meant_call : (t : Table) (bs : Bytes) (c : Call) (g : Given) → Good t → Handed t bs c g → Meant t bs c g
meant_call t bs c g good h =
    let o = step (reading t) bs c in
    let e = handed_called t bs c g h ∙ called_meant t bs c (inr good.sound) in
    let table : g.table ≡ (if eqb o.report 0 then written o.model else t) = ap (λ x. x.table) e in
    let rest : (reading g.table ≡ o.model) × Good g.table = elim (ℕ_discrete o.report 0) [
      | yes z ↦
          let w : g.table ≡ written o.model = table ∙ rw (eq-eqb o.report 0 z) in (
            ap reading w ∙ reading_written o.model (limits_stay (reading t) bs c ∙ table_limits_lem t),
            record { sized = rw w (table_sized_after t good.sized bs c); sound = rw w ((broken_none _).0 (accepted_table_sound t good.sized bs c z)) },
          )
      | no r ↦
          let w : g.table ≡ t = table ∙ rw (ne_eqb o.report 0 r) in
          (ap reading w ∙ sym (ap (λ x. x.model) (step_refused (reading t) bs c r)), record { sized = rw w good.sized; sound = rw w good.sound })
    ] in
    record {
      model = rest.0;
      bytes = ap (λ x. x.bytes) e;
      report = ap (λ x. x.report) e;
      value = ap (λ x. x.value) e;
      steps = ap (λ x. x.steps) e;
      good = rest.1;
    }

-- ---- calls one after the other

pub last_good : {t : Table} {bs : Bytes} {cs : List Call} {gs : List Given} → Made t bs cs gs → Good t → Good (last_table t gs)
unfolding last_table
last_good none good = good
last_good {t} {bs} (first {c = c} {g = g} h more) good = last_good more (meant_call t bs c g good h).good

pub last_model : {t : Table} {bs : Bytes} {cs : List Call} {gs : List Given} → Made t bs cs gs → Good t → reading (last_table t gs) ≡ after (reading t) bs cs
unfolding last_table after
last_model none good = refl
last_model {t} {bs} (first {c = c} {g = g} h more) good =
    let f = meant_call t bs c g good h in
    rw (← f.model, ← f.bytes) (last_model more f.good)

pub last_bytes_lem : {t : Table} {bs : Bytes} {cs : List Call} {gs : List Given} → Made t bs cs gs → Good t → last_bytes bs gs ≡ bytes_after (reading t) bs cs
unfolding last_bytes bytes_after
last_bytes_lem none good = refl
last_bytes_lem {t} {bs} (first {c = c} {g = g} h more) good =
    let f = meant_call t bs c g good h in
    rw (← f.model, ← f.bytes) (last_bytes_lem more f.good)

-- a line, as the meaning tells it
line_same : {t : Table} {bs : Bytes} {c : Call} {g : Given} → Meant t bs c g → (d : Call) →
    let o = step (reading t) bs c in
    line_of d g ≡ record { call = d; report = o.report; value = o.value; steps = o.steps }
line_same f d = λ i. record { call = d; report = f.report i; value = f.value i; steps = f.steps i }

pub lines_told : {t : Table} {bs : Bytes} {cs : List Call} {gs : List Given} → Made t bs cs gs → Good t → lines_of cs gs ≡ told (reading t) bs cs
unfolding lines_of told
lines_told none good = refl
lines_told {t} {bs} (first {c = c} {g = g} h more) good =
    let f = meant_call t bs c g good h in
    ap₂ (λ a b. a ∷ b) (line_same f c) (rw (← f.model, ← f.bytes) (lines_told more f.good))

pub kept_stayed : (S : ℕ) {t : Table} {bs : Bytes} {cs : List Call} {gs : List Given} → Made t bs cs gs → Good t → kept_lines S t cs gs ≡ stretch.stayed S (reading t) bs cs
unfolding kept_lines stretch.stayed
kept_stayed S none good = refl
kept_stayed S {t} {bs} (first {c = c} {g = g} h more) good =
    let f = meant_call t bs c g good h in
    rw (line_same f (stretch.moved S (reading t) c), f.report, kept_stayed S more f.good, f.model, f.bytes)

pub lasts_same : (S : ℕ) {t : Table} {bs : Bytes} {cs : List Call} {gs : List Given} → Made t bs cs gs → Good t → lasts_in S cs gs ≡ stretch.lasts S (reading t) bs cs
unfolding lasts_in stretch.lasts
lasts_same S none good = refl
lasts_same S {t} {bs} (first {c = c} {g = g} h more) good =
    let f = meant_call t bs c g good h in
    rw (f.report, lasts_same S more f.good, f.model, f.bytes)
