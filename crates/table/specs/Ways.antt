-- From the calls on the lists to the calls on the table: on a sound table, what a call on some lists gives, put back into the table, is the call's answer.
-- Assumes nothing.
use Rattle.std.specs.Prelude.{Bool, true, false, ◌&&◌, List, [], ◌≡◌, ℕ, length, eqb, if◌then◌else◌}
use Rattle.std.proofs.Math.Logic.{inl, inr}
use Rattle.std.proofs.Common.{sym, ap, eqb-true}
use Rattle.lists.specs.Tests.{tested, and_iff}
use Rattle.meaning.specs.Model.{Store, Thread, Stack, Run, Model, Bytes}
use Rattle.meaning.specs.Rules.{sound}
use Rattle.meaning.specs.Changes.{with_stores, with_threads, with_stacks}
use Rattle.meaning.specs.Reports.{Check, first_report}
use Rattle.meaning.specs.Calls.{Call, code, accepted, decide, row}
use Rattle.meaning.proofs.Laws.Step.{sound_row}
use Rattle.names.specs.Numbers.{Told}
use Rattle.names.specs.declared.lines.Area.{Area}
use Rattle.stores.specs.declared.Stores.{Stores}
use Rattle.threads.specs.declared.Threads.{Threads}
use Rattle.stacks.specs.declared.Stacks.{Stacks}
use Rattle.stores.specs.Stores.{clean as stores_clean, written as stores_written, written_reading as stores-written}
use Rattle.threads.specs.Threads.{clean as threads_clean, written as threads_written, written_reading as threads-written}
use Rattle.stacks.specs.Stacks.{clean as stacks_clean, written as stacks_written, written_reading as stacks-written}
use Rattle.thread_calls.specs.ThreadCalls as thread_calls
use Rattle.store_calls.specs.StoreCalls as store_calls
use Rattle.stack_calls.specs.StackCalls as stack_calls
use Rattle.table.specs.declared.Table.{Table}
use Rattle.table.specs.Table.{reading, written, rule8, sound_table, Sized}
use Rattle.table.specs.Calls.{Seen, unsound, settled, called, answer}

-- ---- what a call on lists gives, put back into the table

abbrev pub reply_of : Table → Told → Seen
reply_of t r = record { table = t; report = r.report; value = r.value }

abbrev pub with_threads_of : Table → Threads → Told → Seen
with_threads_of t ts r = record { table = record { areas = t.areas; free = t.free; stores = t.stores; threads = ts; stacks = t.stacks }; report = r.report; value = r.value }

abbrev pub with_stores_of : Table → Stores → Told → Seen
with_stores_of t ss r = record { table = record { areas = t.areas; free = t.free; stores = ss; threads = t.threads; stacks = t.stacks }; report = r.report; value = r.value }

abbrev pub with_stacks_of : Table → Stacks → Area → Told → Seen
with_stacks_of t ks free r = record { table = record { areas = t.areas; free = free; stores = t.stores; threads = t.threads; stacks = ks }; report = r.report; value = r.value }

-- the same, of what the calls on a list give
abbrev pub threads_put : Table → thread_calls.Seen → Seen
threads_put t s = with_threads_of t s.threads s.told

abbrev pub stores_put : Table → store_calls.Seen → Seen
stores_put t s = with_stores_of t s.stores s.told

abbrev pub stacks_put : Table → stack_calls.Seen → Seen
stacks_put t s = with_stacks_of t s.stacks s.free s.told

-- ---- an unsound table

pub called_unsound : (t : Table) (bs : Bytes) (c : Call) → eqb (code c) 0 ≡ false → sound_table t ≡ false → called t bs c ≡ unsound t bs
unfolding called
called_unsound t bs c n e = rw (n, e)

-- report 16 and the same table
pub unsound_answer : (t : Table) (bs : Bytes) (c : Call) → eqb (code c) 0 ≡ false → sound_table t ≡ false → record { table = t; report = 16; value = 0 } ≡ answer (called t bs c)
unsound_answer t bs c n e = ap answer (sym (called_unsound t bs c n e))

-- every array of the code is as long as it is declared
pub sized : (t : Table) → length t.stores.lines ≡ 64 → length t.threads.lines ≡ 32 → length t.stacks.lines ≡ 32 → Sized t
sized t a b c = record { stores = a; threads = b; stacks = c }

module _ (t : Table) (n : Sized t) (h : sound_table t ≡ true) where
  -- ---- a sound table

  pub model_sound : sound (reading t) ≡ true
  unfolding sound_table
  model_sound = ((and_iff (sound (reading t)) _).0 h).0

  cleans : (stores_clean t.stores ≡ true) × (threads_clean t.threads ≡ true) × (stacks_clean t.stacks ≡ true)
  unfolding sound_table rule8
  cleans =
      let b = (and_iff (stores_clean t.stores && threads_clean t.threads) _).0 ((and_iff (sound (reading t)) _).0 h).1 in
      let a = (and_iff (stores_clean t.stores) _).0 b.0 in
      (a.0, a.1, b.1)

  -- a call is its row
  pub called_sound : (bs : Bytes) (c : Call) → called t bs c ≡ settled t (row (reading t) bs c)
  unfolding called
  called_sound bs c = elim (tested (eqb (code c) 0)) [
    | inl e ↦ rw (e, sound_row (reading t) bs c model_sound)
    | inr e ↦ rw (e, h, sound_row (reading t) bs c model_sound)
  ]

  same_stores : stores_written (reading t).stores ≡ t.stores
  unfolding reading
  same_stores = stores-written t.stores n.stores cleans.0

  same_threads : threads_written (reading t).threads ≡ t.threads
  unfolding reading
  same_threads = threads-written t.threads n.threads cleans.1

  same_stacks : stacks_written (reading t).stacks ≡ t.stacks
  unfolding reading
  same_stacks = stacks-written t.stacks n.stacks cleans.2

  -- ---- questions: what is told, and the same table

  pub same_table : (ks : List Check) (v k : ℕ) (bs : Bytes) →
      (settled t (decide ks (reading t) bs (record { report = 0; value = v; steps = k; model = reading t; bytes = bs }))).table ≡ t
  unfolding written reading
  same_table ks v k bs = elim (tested (eqb (first_report ks) 0)) [
    | inl e ↦ rw (e, same_stores, same_threads, same_stacks)
    | inr e ↦ rw (e, e)
  ]

  pub question_way : (ks : List Check) (m : Model) (v : ℕ) (bs : Bytes) →
      let o = decide ks m [] (accepted v m []) in
      reply_of t (record { report = o.report; value = o.value }) ≡ answer (settled t (decide ks (reading t) bs (accepted v (reading t) bs)))
  unfolding written reading
  question_way ks m v bs = elim (tested (eqb (first_report ks) 0)) [
    | inl e ↦ rw (e, same_stores, same_threads, same_stacks)
    | inr e ↦ rw (e, e)
  ]

  -- ---- other threads

  pub threads_way : (ks : List Check) (m : Model) (v : ℕ) (ts : List Thread) →
      let s = thread_calls.seen_by t.threads (decide ks m [] (accepted v (with_threads m ts) [])) in
      with_threads_of t s.threads s.told ≡ answer (settled t (decide ks (reading t) [] (accepted v (with_threads (reading t) ts) [])))
  unfolding written reading
  threads_way ks m v ts = elim (tested (eqb (first_report ks) 0)) [
    | inl e ↦ rw (e, same_stores, same_stacks)
    | inr e ↦ rw (e, e)
  ]

  -- ---- other stores

  pub stores_way : (ks : List Check) (m : Model) (v : ℕ) (ss : List Store) (fit : ℕ → Bool) (bs bt : Bytes) → (first_report ks ≡ 0 → fit v ≡ true) →
      let o = decide ks m [] (accepted v (with_stores m ss) []) in
      let s = if eqb o.report 0 then store_calls.settled t.stores (fit o.value) o else store_calls.kept t.stores o.report in
      with_stores_of t s.stores s.told ≡ answer (settled t (decide ks (reading t) bs (accepted v (with_stores (reading t) ss) bt)))
  unfolding written reading
  stores_way ks m v ss fit bs bt f = elim (tested (eqb (first_report ks) 0)) [
    | inl e ↦ rw (e, f (eqb-true _ _ e), same_threads, same_stacks)
    | inr e ↦ rw (e, e)
  ]

  -- ---- other stacks and free run

  pub stacks_way : (ks : List Check) (m : Model) (v : ℕ) (ps : List Stack) (run : Run) → (first_report ks ≡ 0 → stack_calls.run_fits run ≡ true) →
      let s = stack_calls.seen_by t.stacks t.free (decide ks m [] (accepted v (with_stacks m ps run) [])) in
      with_stacks_of t s.stacks s.free s.told ≡ answer (settled t (decide ks (reading t) [] (accepted v (with_stacks (reading t) ps run) [])))
  unfolding written reading
  stacks_way ks m v ps run f = elim (tested (eqb (first_report ks) 0)) [
    | inl e ↦ rw (e, f (eqb-true _ _ e), same_stores, same_threads)
    | inr e ↦ rw (e, e)
  ]
