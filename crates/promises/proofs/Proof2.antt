-- Demand 2 holds of all that the methods hand back. Assumes nothing.
use Rattle.std.specs.Prelude.{true, false, ◌&&◌, List, ◌∷◌, ◌↔◌, ◌⊎◌, ◌≡◌, ℕ, eqb}
use Rattle.std.proofs.Math.Bool.{not}
use Rattle.std.proofs.Math.Logic.{inl, inr}
use Rattle.std.proofs.Common.{sym, ◌∙◌, ap, eq-eqb}
use Rattle.lists.specs.Tests.{tested, never, and_iff}
use Rattle.names.specs.Numbers.{number_of}
use Rattle.meaning.specs.Model.{Bytes}
use Rattle.meaning.specs.Rules.{sound}
use Rattle.meaning.specs.Reports.{Check, First, here, later, NoneHolds}
use Rattle.meaning.specs.Calls.{Call, code, checks, all_checks, step}
use Rattle.meaning.proofs.Laws.Step.{report_exact, accepted_exact, step_accepted}
use Rattle.table.specs.declared.Table.{Table}
use Rattle.table.specs.Table.{reading, written, sound_table, Sized}
use Rattle.table.specs.Laws.{broken_none}
use Rattle.table.specs.Calls.{settled, called}
use Rattle.sound_tables.specs.SoundTables.{accepted_table_sound}
use Rattle.promises.specs.Handed.{Given, Handed}
use Rattle.promises.specs.OneAnswer.{handed_called}
use Rattle.promises.specs.Demand2.{Demand2}

-- a check whose condition does not hold plays no part
past_first : {r : ℕ} {k : Check} {ks : List Check} → k.condition ≡ false → First r (k ∷ ks) → First r ks
past_first {k = k} e (here q p) = never k.condition q e
past_first e (later q f) = f

module _ (t : Table) (bs : Bytes) (c : Call) (asked : (code c ≡ 0) ⊎ (sound_table t ≡ true)) where
  -- the first check of all, that for 16, finds nothing
  found_sound : (not (eqb (code c) 0) && not (sound (reading t))) ≡ false
  unfolding sound_table
  found_sound = elim asked [
    | inl z ↦ rw (eq-eqb (code c) 0 z)
    | inr s ↦ elim (tested (eqb (code c) 0)) [
      | inl e ↦ rw e
      | inr e ↦ rw (e, ((and_iff (sound (reading t)) _).0 s).0)
    ]
  ]

  -- the call is the meaning's
  pub called_meant : called t bs c ≡ settled t (step (reading t) bs c)
  unfolding called
  called_meant = elim asked [
    | inl z ↦ rw (eq-eqb (code c) 0 z)
    | inr s ↦ elim (tested (eqb (code c) 0)) [
      | inl e ↦ rw e
      | inr e ↦ rw (e, s)
    ]
  ]

  meant_refused : (r : ℕ) → (r ≡ 0 → ⊥) → ((step (reading t) bs c).report ≡ r) ↔ First r (checks (reading t) bs c)
  unfolding all_checks
  meant_refused r n =
      let x = report_exact (reading t) bs c r n in
      (λ h. past_first found_sound (x.0 h), λ f. x.1 (later found_sound f))

  meant_accepted : ((step (reading t) bs c).report ≡ 0) ↔ NoneHolds (checks (reading t) bs c)
  unfolding all_checks
  meant_accepted =
      let x = accepted_exact (reading t) bs c in
      (λ h. ((and_iff (not (not (eqb (code c) 0) && not (sound (reading t)))) _).0 (x.0 h)).1, λ f. x.1 (rw found_sound f))

pub demand2 : (t : Table) → Sized t → (bs : Bytes) (c : Call) (g : Given) → Handed t bs c g → (code c ≡ 0) ⊎ (sound_table t ≡ true) → Demand2 t bs c g
demand2 t n bs c g h asked =
    let e = handed_called t bs c g h ∙ called_meant t bs c asked in
    let same : number_of g.report ≡ (step (reading t) bs c).report = ap (λ o. o.report) e in
    let refused = meant_refused t bs c asked in
    let accepted = meant_accepted t bs c asked in
    let written-there : number_of g.report ≡ 0 → g.table ≡ written (step (reading t) bs c).model =
    λ z. ap (λ o. o.table) e ∙ rw (eq-eqb (step (reading t) bs c).report 0 (sym same ∙ z)) in
    record {
      refused = λ r k. (λ q. (refused r k).0 (sym same ∙ q), λ f. same ∙ (refused r k).1 f);
      accepted = (λ q. accepted.0 (sym same ∙ q), λ f. same ∙ accepted.1 f);
      answers = λ z.
          let q = step_accepted (reading t) bs c (sym same ∙ z) in
          λ i. record {
            table = (written-there z ∙ ap (λ o. written o.model) q) i;
            report = z i;
            value = (ap (λ o. o.value) e ∙ ap (λ o. o.value) q) i;
            steps = (ap (λ o. o.steps) e ∙ ap (λ o. o.steps) q) i;
            bytes = (ap (λ o. o.bytes) e ∙ ap (λ o. o.bytes) q) i;
          };
      sound = λ z. rw (written-there z) ((broken_none _).0 (accepted_table_sound t n bs c (sym same ∙ z)));
    }
