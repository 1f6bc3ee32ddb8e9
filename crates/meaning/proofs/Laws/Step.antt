-- What holds of every call: when each report is given, what a refusal leaves, and which calls change nothing. Assumes nothing.
use Rattle.std.specs.Prelude.{true, false, not, ◌&&◌, List, [], ◌∷◌, ◌↔◌, ◌≡◌, refl, ℕ, ltb, eqb}
use Rattle.std.proofs.Common.{inl, inr, sym, ◌∙◌, ap, arith, ltb-true, eqb-true, eq-eqb, ne_eqb}
use Rattle.std.proofs.Math.Decide.{ℕ_discrete}
use Rattle.std.proofs.lemmas.Bool.{not-true, not-false}
use Rattle.lists.specs.Tests.{tested, never, and_iff, not_iff}
use Rattle.meaning.specs.Model.{Model, Bytes}
use Rattle.meaning.specs.Rules.{sound}
use Rattle.meaning.specs.Facts.{Sound}
use Rattle.meaning.proofs.Laws.Agree.{sound_agrees}
use Rattle.meaning.specs.Reports.{Check, first_report, First, here, later, NoneHolds}
use Rattle.meaning.specs.Calls.{Call, start, root, context_of, set_context, total_of, used_of, free_of, find, allocate, make_store, clear, resize, make_stack, destroy_stack, add_thread, remove_thread, code, refused, checks, change, all_checks, row, step}
use Rattle.meaning.specs.Laws.Step.{Numbered, changes_model}

-- what is seen of each call's row alone
record Plain (m : Model) (bs : Bytes) (c : Call) : Type 0 where
  numbered : Numbered (all_checks m bs c)
  report : (change m bs c).report ≡ 0
  model : changes_model (code c) ≡ false → (change m bs c).model ≡ m
  bytes : (code c ≡ 8 → ⊥) → (change m bs c).bytes ≡ bs

plain : (m : Model) (bs : Bytes) (c : Call) → Plain m bs c
unfolding all_checks checks change
plain m bs (start a b) = record { numbered = refl; report = refl; model = never true refl; bytes = λ _. refl }
plain m bs root = record { numbered = refl; report = refl; model = λ _. refl; bytes = λ _. refl }
plain m bs (context_of t) = record { numbered = refl; report = refl; model = λ _. refl; bytes = λ _. refl }
plain m bs (set_context t s) = record { numbered = refl; report = refl; model = never true refl; bytes = λ _. refl }
plain m bs (total_of s) = record { numbered = refl; report = refl; model = λ _. refl; bytes = λ _. refl }
plain m bs (used_of s) = record { numbered = refl; report = refl; model = λ _. refl; bytes = λ _. refl }
plain m bs (free_of s) = record { numbered = refl; report = refl; model = λ _. refl; bytes = λ _. refl }
plain m bs (find a) = record { numbered = refl; report = refl; model = λ _. refl; bytes = λ _. refl }
plain m bs (allocate t n) = record { numbered = refl; report = refl; model = never true refl; bytes = λ h. absurd (h refl) }
plain m bs (make_store t n) = record { numbered = refl; report = refl; model = never true refl; bytes = λ _. refl }
plain m bs (clear t) = record { numbered = refl; report = refl; model = never true refl; bytes = λ _. refl }
plain m bs (resize s n) = record { numbered = refl; report = refl; model = never true refl; bytes = λ _. refl }
plain m bs (make_stack n) = record { numbered = refl; report = refl; model = never true refl; bytes = λ _. refl }
plain m bs (destroy_stack k) = record { numbered = refl; report = refl; model = never true refl; bytes = λ _. refl }
plain m bs (add_thread t s) = record { numbered = refl; report = refl; model = never true refl; bytes = λ _. refl }
plain m bs (remove_thread t) = record { numbered = refl; report = refl; model = never true refl; bytes = λ _. refl }

-- the report of a call is the first of its checks' that holds
pub step_report : (m : Model) (bs : Bytes) (c : Call) → (step m bs c).report ≡ first_report (all_checks m bs c)
unfolding step
step_report m bs c = elim (tested (eqb (first_report (all_checks m bs c)) 0)) [
  | inl e ↦ rw e ((plain m bs c).report ∙ sym (eqb-true (first_report (all_checks m bs c)) 0 e))
  | inr e ↦ rw e
]

-- an accepted call is its change
pub step_accepted : (m : Model) (bs : Bytes) (c : Call) → (step m bs c).report ≡ 0 → step m bs c ≡ change m bs c
unfolding step
step_accepted m bs c h = rw (eq-eqb (first_report (all_checks m bs c)) 0 (sym (step_report m bs c) ∙ h))

-- A refused call has value 0, tells 0 steps, and changes neither model nor byte.
pub step_refused : (m : Model) (bs : Bytes) (c : Call) → ((step m bs c).report ≡ 0 → ⊥) → step m bs c ≡ refused (step m bs c).report m bs
unfolding step
step_refused m bs c h =
    let n = ne_eqb (first_report (all_checks m bs c)) 0 (λ e. h (step_report m bs c ∙ e)) in
    rw n

pub first_given : (r : ℕ) (ks : List Check) → First r ks → first_report ks ≡ r
unfolding first_report
first_given r ks (here e q) = rw e q
first_given r ks (later {ks = rest} e f) = rw e (first_given r rest f)

pub given_first : (r : ℕ) (ks : List Check) → (r ≡ 0 → ⊥) → first_report ks ≡ r → First r ks
unfolding first_report
given_first r [] n h = absurd (n (sym h))
given_first r (k ∷ ks) n h = elim (tested k.condition) [
  | inl e ↦ here e (rw e at h)
  | inr e ↦ later e (given_first r ks n (rw e at h))
]

-- checks give no report exactly where no condition holds
pub none_given : (ks : List Check) → NoneHolds ks → first_report ks ≡ 0
unfolding first_report
none_given [] h = refl
none_given (k ∷ ks) h =
    let b = (and_iff (not k.condition) _).0 h in
    rw ((not_iff k.condition).0 b.0) (none_given ks b.1)

pub given_none : (ks : List Check) → Numbered ks → first_report ks ≡ 0 → NoneHolds ks
unfolding first_report
given_none [] n h = refl
given_none (k ∷ ks) n h =
    let b = (and_iff (ltb 0 k.report) _).0 n in
    elim (tested k.condition) [
      | inl e ↦ let z : k.report ≡ 0 = rw e at h in let p = ltb-true 0 k.report b.0 in absurd (omega arith)
      | inr e ↦ rw e (given_none ks b.1 (rw e at h))
    ]

-- A refusal is given exactly when its condition holds and no earlier one does.
pub report_exact : (m : Model) (bs : Bytes) (c : Call) (r : ℕ) → (r ≡ 0 → ⊥) → ((step m bs c).report ≡ r) ↔ First r (all_checks m bs c)
report_exact m bs c r n =
    (λ h. given_first r _ n (sym (step_report m bs c) ∙ h), λ f. step_report m bs c ∙ first_given r _ f)

-- A call is accepted exactly when no condition holds.
pub accepted_exact : (m : Model) (bs : Bytes) (c : Call) → ((step m bs c).report ≡ 0) ↔ NoneHolds (all_checks m bs c)
accepted_exact m bs c =
    (λ h. given_none _ (plain m bs c).numbered (sym (step_report m bs c) ∙ h), λ f. step_report m bs c ∙ none_given _ f)

-- No call but 0, 3, 8 to 15 changes the model.
pub question_keeps_model : (m : Model) (bs : Bytes) (c : Call) → changes_model (code c) ≡ false → (step m bs c).model ≡ m
question_keeps_model m bs c q = elim (ℕ_discrete (step m bs c).report 0) [
  | yes a ↦ ap (λ o. o.model) (step_accepted m bs c a) ∙ (plain m bs c).model q
  | no r ↦ ap (λ o. o.model) (step_refused m bs c r)
]

-- No call but 8 changes a byte.
pub others_keep_bytes : (m : Model) (bs : Bytes) (c : Call) → (code c ≡ 8 → ⊥) → (step m bs c).bytes ≡ bs
others_keep_bytes m bs c q = elim (ℕ_discrete (step m bs c).report 0) [
  | yes a ↦ ap (λ o. o.bytes) (step_accepted m bs c a) ∙ (plain m bs c).bytes q
  | no r ↦ ap (λ o. o.bytes) (step_refused m bs c r)
]

-- Every accepted call but a start was made on a sound model.
pub accepted_sound : (m : Model) (bs : Bytes) (c : Call) → (code c ≡ 0 → ⊥) → (step m bs c).report ≡ 0 → Sound m
unfolding all_checks
accepted_sound m bs c n h =
    let f = ((and_iff (not (not (eqb (code c) 0) && not (sound m))) _).0 ((accepted_exact m bs c).0 h)).0 in
    (sound_agrees m).0 (not-false (sound m) (not-true (not (sound m)) (rw (ne_eqb (code c) 0 n) at f)))

-- On a sound model a call is its row.
pub sound_row : (m : Model) (bs : Bytes) (c : Call) → sound m ≡ true → step m bs c ≡ row m bs c
unfolding step row all_checks first_report
sound_row m bs c h = elim (tested (eqb (code c) 0)) [
  | inl e ↦ rw e
  | inr e ↦ rw (e, h)
]
