-- The run line by line, as the code makes it. The number of records left is in the place: 3,000 records take 57,000 bytes. Assumes nothing.
use Rattle.std.specs.Prelude.{Bool, true, false, Option, Some, List, [], ◌++◌, ◌≡◌, refl, ℕ, zero, suc, ◌+◌, ◌-◌, ◌*◌, ◌^◌, ◌<◌, ◌≤◌, leb, if◌then◌else◌}
use Rattle.std.specs.declared.ops.ControlFlow.TheVariants.{Break, Continue}
use Rattle.std.proofs.Common.{append-nil, inl, inr, sym, ◌∙◌, ap, arith}
use Rattle.std.proofs.Math.ListN.{length}
use borrow.Author.Tests.{le-leb, lt-leb, leb-true, leb-false}
use Rattle.lists.specs.Tests.{tested, never}
use Rattle.meaning.specs.Model.{Bytes}
use Rattle.meaning.specs.Calls.{Call, code}
use Rattle.call_list.specs.Records.{Entry, call, stop, record_at}
use Rattle.call_list.specs.Laws.{record_short}
use Rattle.list_reader.specs.Read.{after}
use Rattle.answer_text.specs.Text.{answer_text, stop_text}
use Rattle.answer_text.specs.TextLaws.{answer_length, stop_length}
use Rattle.texts.specs.Buffer.{overwritten, placed as written, end_of}
use Rattle.texts.proofs.DecimalLaws.{ten_digits}
use Rattle.texts.specs.Record.{record_length}
use Rattle.table.specs.declared.Table.{Table}
use Rattle.bench_run.specs.declared.Line.{Line}
use Rattle.bench_run.specs.declared.Progress.{Progress}
use Rattle.bench_calls.specs.Bench.{bench_called}
use Rattle.bench_run.specs.Run.{used_up, printed, run_from}

-- the place behind 3,000 records
abbrev pub last_place : ℕ
last_place = 57000

-- one line: its text, whether the run ends with it, and the place, the table and the store buffer after it
pub record Printed : Type 0 where
  pub text : List ℕ
  pub ends : Bool
  pub place : ℕ
  pub table : Table
  pub stores : Bytes

abbrev pub ended : List ℕ → ℕ → Table → Bytes → Printed
ended text place t buffer = record { text = text; ends = true; place = place; table = t; stores = buffer }

abbrev pub line_of : Entry → ℕ → Table → Bytes → Printed
line_of (call c) place t buffer =
    let o = bench_called t buffer c in
    record { text = answer_text (code c) o.report o.value; ends = false; place = place + record_length; table = o.table; stores = o.stores }
line_of stop place t buffer = ended (stop_text place) place t buffer

unfoldable pub line_at : List ℕ → ℕ → Table → Bytes → Printed
line_at list place t buffer =
    if used_up list place then ended [] place t buffer else
    if leb last_place place then ended (stop_text last_place) place t buffer else line_of (record_at list place) place t buffer

-- what follows a line, where `left` records more are taken
abbrev pub following : ℕ → List ℕ → Printed → List ℕ
following left list l = if l.ends then [] else run_from left list l.place l.table l.stores

entry_line : (e : Entry) (left : ℕ) (list : List ℕ) (place : ℕ) (t : Table) (buffer : Bytes)
    → printed e place t buffer (run_from left list (place + record_length)) ≡ (line_of e place t buffer).text ++ following left list (line_of e place t buffer)
entry_line (call c) left list place t buffer = refl
entry_line stop left list place t buffer = sym (append-nil (stop_text place))

-- A run is its first line, and the run behind it.
pub run_line : (left : ℕ) (list : List ℕ) (place : ℕ) (t : Table) (buffer : Bytes) → place + record_length * left ≡ last_place
    → run_from left list place t buffer ≡ (line_at list place t buffer).text ++ following (left - 1) list (line_at list place t buffer)
unfolding run_from line_at
run_line zero list place t buffer e =
    let p : place ≡ last_place = omega arith in
    elim (tested (used_up list place)) [
      | inl h ↦ rw h
      | inr h ↦ rw (h, le-leb last_place place (omega arith), p) (sym (append-nil (stop_text last_place)))
    ]
run_line (suc left) list place t buffer e = elim (tested (used_up list place)) [
  | inl h ↦ rw h
  | inr h ↦ let d : suc left - 1 ≡ left = omega arith in rw (h, lt-leb last_place place (omega arith), d) (entry_line (record_at list place) left list place t buffer)
]

-- ---- the three ways to a line

module _ (list : List ℕ) (place : ℕ) (t : Table) (buffer : Bytes) where
  pub line_none : length list ≤ place → line_at list place t buffer ≡ ended [] place t buffer
  unfolding line_at
  line_none h = rw (le-leb (length list) place h)

  pub line_many : place < length list → last_place ≤ place → line_at list place t buffer ≡ ended (stop_text last_place) place t buffer
  unfolding line_at
  line_many h k = rw (lt-leb (length list) place h, le-leb last_place place k)

  pub line_record : place < length list → place < last_place → line_at list place t buffer ≡ line_of (record_at list place) place t buffer
  unfolding line_at
  line_record h k = rw (lt-leb (length list) place h, lt-leb last_place place k)

-- a call stands in a whole record, so the place after it is 19 bytes further
pub call_next : (list : List ℕ) (place : ℕ) (c : Call) → call c ≡ record_at list place → after list place ≡ place + record_length
unfolding after
call_next list place c h = elim (tested (leb (place + record_length) (length list))) [
  | inl k ↦ let b = leb-true (place + record_length) (length list) k in omega arith
  | inr k ↦ let e : call c ≡ stop = h ∙ record_short list place (leb-false (place + record_length) (length list) k) in cc
]

-- ---- the code's line

-- how far the run is after a line
abbrev pub progress_of : Printed → Progress
progress_of l = record { table = l.table; place = l.place }

-- the text of a line stands in the line buffer; the code tells how long it is, how far the run then is, and whether it ends there
abbrev pub line_told : Printed → Line
line_told l = record { length = length l.text; onward = if l.ends then Break (progress_of l) else Continue (progress_of l) }

-- a line of 40 bytes holds every text of numbers of 32 bits
module _ (buffer : List ℕ) (h : length buffer ≡ 40) where
  pub answer_fits : (k report value : ℕ) → k < 2 ^ 32 → report < 2 ^ 32 → value < 2 ^ 32 → (after : List ℕ) (place : Option ℕ)
      → (after ≡ written 0 (answer_text k report value) buffer) × (place ≡ end_of 0 (answer_text k report value) buffer)
      → (after ≡ overwritten 0 (answer_text k report value) buffer) × (place ≡ Some (length (answer_text k report value))) × (length (answer_text k report value) ≤ 40)
  unfolding written end_of
  answer_fits k report value a b c after place w =
      let l : length (answer_text k report value) ≤ 40 = omega (arith, answer_length k report value, ten_digits k a, ten_digits report b, ten_digits value c) in
      let f = le-leb (0 + length (answer_text k report value)) (length buffer) (omega (arith, h)) in
      let z : 0 + length (answer_text k report value) ≡ length (answer_text k report value) = omega arith in
      (w.0 ∙ rw f, w.1 ∙ rw f (ap (λ n. Some n) z), l)

  pub stop_fits : (offset : ℕ) → offset < 2 ^ 32 → (after : List ℕ) (place : Option ℕ)
      → (after ≡ written 0 (stop_text offset) buffer) × (place ≡ end_of 0 (stop_text offset) buffer)
      → (after ≡ overwritten 0 (stop_text offset) buffer) × (place ≡ Some (length (stop_text offset))) × (length (stop_text offset) ≤ 40)
  unfolding written end_of
  stop_fits offset a after place w =
      let l : length (stop_text offset) ≤ 40 = omega (arith, stop_length offset, ten_digits offset a) in
      let f = le-leb (0 + length (stop_text offset)) (length buffer) (omega (arith, h)) in
      let z : 0 + length (stop_text offset) ≡ length (stop_text offset) = omega arith in
      (w.0 ∙ rw f, w.1 ∙ rw f (ap (λ n. Some n) z), l)

-- ---- a run that goes on

goes_on_from : (e : Entry) (place : ℕ) (t : Table) (buffer : Bytes) → (line_of e place t buffer).ends ≡ false → (line_of e place t buffer).place ≡ place + record_length
goes_on_from (call c) place t buffer h = refl
goes_on_from stop place t buffer h = never true refl h

pub goes_on : (list : List ℕ) (place : ℕ) (t : Table) (buffer : Bytes) → (line_at list place t buffer).ends ≡ false
    → (place < last_place) × ((line_at list place t buffer).place ≡ place + record_length)
unfolding line_at
goes_on list place t buffer h = elim (tested (used_up list place)) [
  | inl u ↦ never true refl (rw u at h)
  | inr u ↦
      elim (tested (leb last_place place)) [
        | inl k ↦ never true refl (rw (u, k) at h)
        | inr k ↦ (leb-false last_place place k, rw (u, k) (goes_on_from (record_at list place) place t buffer (rw (u, k) at h)))
      ]
]

-- so the bytes that are left to take fall
pub place_rises : (list : List ℕ) (place : ℕ) (t : Table) (buffer : Bytes) (r : Line) (p : Progress) → r ≡ line_told (line_at list place t buffer) → r.onward ≡ Continue p
    → last_place - p.place < last_place - place
place_rises list place t buffer r p e h = elim (tested (line_at list place t buffer).ends) [
  | inl k ↦ let n : Continue p ≡ Break (progress_of (line_at list place t buffer)) = sym h ∙ ap (λ x. x.onward) e ∙ rw k in cc
  | inr k ↦
      let g = goes_on list place t buffer k in
      let n : Continue p ≡ Continue (progress_of (line_at list place t buffer)) = sym h ∙ ap (λ x. x.onward) e ∙ rw k in
      let q : p ≡ progress_of (line_at list place t buffer) = cc in
      let m = ap (λ x. x.place) q ∙ g.1 in
      omega (arith, g.0)
]
