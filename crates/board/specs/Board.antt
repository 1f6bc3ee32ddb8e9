-- What the board's calls hand back to C, in the words of a call on a table. Assumes nothing.
use Rattle.std.specs.Prelude.{false, ◌||◌, [], ◌≡◌, refl, ℕ, eqb}
use Rattle.std.proofs.Common.{inl, inr, sym, ◌∙◌, ap}
use Rattle.lists.specs.Tests.{tested, and_iff, or_false_iff}
use Rattle.meaning.specs.Rules.{sound}
use Rattle.meaning.specs.Calls.{Call, code, find, step}
use Rattle.meaning.specs.Laws.Step.{changes_model}
use Rattle.meaning.proofs.Laws.Step.{question_keeps_model}
use Rattle.table.specs.declared.Table.{Table}
use Rattle.table.specs.declared.answer.Answer.{Answer}
use Rattle.table.specs.declared.answer.Found.{Found}
use Rattle.table.specs.Table.{reading, sound_table, Sized}
use Rattle.table.specs.Calls.{Seen, SeenFound, settled, called, answer, found_answer, seen, seen_found}
use Rattle.table.specs.Ways.{called_unsound}
use Rattle.table.specs.Laws.{written_reading}
use Rattle.board.specs.declared.answer.BoardAnswer.{BoardAnswer}
use Rattle.board.specs.declared.answer.BoardReply.{BoardReply}
use Rattle.board.specs.declared.answer.BoardFound.{BoardFound}

-- a change: the table after it, the report and the value
abbrev pub answer_seen : BoardAnswer → Seen
answer_seen r = record { table = r.table; report = r.report; value = r.value }

-- a question, which hands back no table: the one after it is the caller's
abbrev pub reply_seen : Table → BoardReply → Seen
reply_seen t r = record { table = t; report = r.report; value = r.value }

-- find, which tells its steps too
abbrev pub found_seen : Table → BoardFound → SeenFound
found_seen t r = record { table = t; report = r.report; value = r.value; steps = r.steps }

-- ---- laws

-- a call that changes no model leaves the table
question_keeps_table : (t : Table) → Sized t → (c : Call) → changes_model (code c) ≡ false → (called t [] c).table ≡ t
unfolding called sound_table
question_keeps_table t n c q =
    let not_start : eqb (code c) 0 ≡ false = ((or_false_iff (eqb (code c) 0) _).0 ((or_false_iff (eqb (code c) 0 || eqb (code c) 3) _).0 q).0).0 in
    elim (tested (sound_table t)) [
      | inl s ↦
          let kept = question_keeps_model (reading t) [] c q in
          let whole = written_reading t n ((and_iff (sound (reading t)) _).0 s).1 in
          let settle : (settled t (step (reading t) [] c)).table ≡ t = elim (tested (eqb (step (reading t) [] c).report 0)) [
            | inl e ↦ rw (e, kept) whole
            | inr e ↦ rw e
          ] in
          rw (not_start, s) settle
      | inr s ↦ ap (λ o. o.table) (called_unsound t [] c not_start s)
    ]

-- what is told of a question is what the call tells of it, and the caller's table the one after it
pub question_told : (t : Table) → Sized t → (c : Call) → changes_model (code c) ≡ false → (a : Answer) (r : BoardReply) → reply_seen a.table r ≡ seen a
    → seen a ≡ answer (called t [] c) → reply_seen t r ≡ answer (called t [] c)
question_told t n c q a r e f =
    let same : a.table ≡ t = ap (λ s. s.table) f ∙ question_keeps_table t n c q in
    ap (λ u. reply_seen u r) (sym same) ∙ e ∙ f

pub find_told : (t : Table) → Sized t → (x : ℕ) (a : Found) (r : BoardFound) → found_seen a.table r ≡ seen_found a
    → seen_found a ≡ found_answer (called t [] (find x)) → found_seen t r ≡ found_answer (called t [] (find x))
find_told t n x a r e f =
    let same : a.table ≡ t = ap (λ s. s.table) f ∙ question_keeps_table t n (find x) refl in
    ap (λ u. found_seen u r) (sym same) ∙ e ∙ f
