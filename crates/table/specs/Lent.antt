-- What is lent to the table. Call 8: the room taken on the lists and the block zeroed in the lent area are the call's answer and its bytes. The run
-- question: on a sound table it is asked of the areas alone. Assumes nothing.
use Rattle.std.specs.Prelude.{Bool, true, false, List, [], ◌≡◌, ◌≢◌, ℕ, ◌+◌, ◌-◌, Result, Ok, Err, IsOkAnd, IfErr, MatchResult, eqb, length, if◌then◌else◌}
use Rattle.std.proofs.Common.{inl, inr, sym, ◌∙◌, ap, arith}
use borrow.Author.Tests.{eqb-true, eq-eqb, ne_eqb}
use Rattle.lists.specs.Tests.{tested}
use Rattle.names.specs.declared.report.Report.{Report}
use Rattle.names.specs.Numbers.{number_of}
use Rattle.names.specs.Overhead.{allocation_overhead, block_taken}
use Rattle.meaning.specs.Model.{Model, Bytes, free_part}
use Rattle.meaning.specs.Changes.{zeroed}
use Rattle.meaning.specs.Reports.{Check, first_report, context_store}
use Rattle.meaning.specs.Reading.{run_of}
use Rattle.meaning.specs.RunQuestion.{area_checks, run_report, run_part}
use Rattle.meaning.specs.Calls.{Call, code, allocate, accepted, decide, checks, change, row}
use Rattle.stores.specs.declared.Stores.{Stores}
use Rattle.store_calls.specs.declared.room.Roomed.{Roomed}
use Rattle.store_calls.specs.StoreCalls as store_calls
use Rattle.zeroing.specs.Zeroing.{zeroed_as_told}
use Rattle.table.specs.declared.Table.{Table}
use Rattle.table.specs.Table.{reading, sound_table, Sized}
use Rattle.runs.specs.Runs.{part}
use Rattle.table.specs.Calls.{called, answer, run_number, table_run}
use Rattle.table.specs.Ways.{called_unsound, with_stores_of, model_sound, called_sound, stores_way}
use Rattle.table.specs.EachCall.{is_sound}
use Rattle.table.specs.Fits32.{allocate_fits}

-- the lent area after call 8: the block's bytes 0 where the call on the lists was accepted, else as it was
abbrev pub block_zeroed : Table → store_calls.Seen → ℕ → Bytes → Bytes
block_zeroed t r k bs = if eqb r.told.report 0 then zeroed (r.told.value - allocation_overhead - t.areas.stores.start) (block_taken k) bs else bs

-- zeroing by that call's report and value is the row's change of the bytes
bytes_way : (ks : List Check) (stores : Stores) (m n a b : Model) (block start k : ℕ) (bs : Bytes) (fit : ℕ → Bool) → (first_report ks ≡ 0 → fit (block + allocation_overhead) ≡ true) →
    let o = decide ks m [] (accepted (block + allocation_overhead) n []) in
    let r = if eqb o.report 0 then store_calls.settled stores (fit o.value) o else store_calls.kept stores o.report in
    (if eqb r.told.report 0 then zeroed (r.told.value - allocation_overhead - start) (block_taken k) bs else bs)
    ≡ (decide ks a bs (accepted (block + allocation_overhead) b (zeroed (block - start) (block_taken k) bs))).bytes
bytes_way ks stores m n a b block start k bs fit f =
    let z : block + allocation_overhead - allocation_overhead ≡ block = omega arith in
    elim (tested (eqb (first_report ks) 0)) [
      | inl e ↦ rw (e, f (eqb-true _ _ e), z)
      | inr e ↦ rw (e, e, e)
    ]

-- an unsound table leaves the bytes
pub unsound_bytes : (t : Table) (bs : Bytes) (c : Call) → eqb (code c) 0 ≡ false → sound_table t ≡ false → bs ≡ (called t bs c).bytes
unsound_bytes t bs c n e = ap (λ o. o.bytes) (sym (called_unsound t bs c n e))

module _ (t : Table) (n : Sized t) (h : sound_table t ≡ true) (bs : Bytes) (x k : ℕ) where
  -- an area of another length is refused
  pub other_length : (length bs ≡ t.areas.stores.length → ⊥) → called t bs (allocate x k) ≡ record { table = t; report = 15; value = 0; steps = 0; bytes = bs }
  unfolding row checks change reading first_report
  other_length e = called_sound t n h bs (allocate x k) ∙ rw (ne_eqb (length bs) t.areas.stores.length e)

  pub length_answer : (length bs ≡ t.areas.stores.length → ⊥) → record { table = t; report = 15; value = 0 } ≡ answer (called t bs (allocate x k))
  length_answer e = ap answer (sym (other_length e))

  pub length_bytes : (length bs ≡ t.areas.stores.length → ⊥) → bs ≡ (called t bs (allocate x k)).bytes
  length_bytes e = ap (λ o. o.bytes) (sym (other_length e))

  module _ (e : length bs ≡ t.areas.stores.length) where
    abbrev room : store_calls.Seen
    room = store_calls.roomed t.stores t.threads (allocate x k)

    fits : first_report (checks (reading t) bs (allocate x k)) ≡ 0 → store_calls.all_fit (reading t) (allocate x k) ((free_part (context_store (reading t) x)).start + allocation_overhead) ≡ true
    fits = allocate_fits (reading t) (is_sound t n h) bs x k

    pub allocate_called : with_stores_of t room.stores room.told ≡ answer (called t bs (allocate x k))
    unfolding store_calls.roomed row checks change reading
    allocate_called =
        let q = eq-eqb (length bs) t.areas.stores.length e in
        rw (called_sound t n h bs (allocate x k), q)
        (stores_way t n h _ _ _ _ (store_calls.all_fit (reading t) (allocate x k)) bs _ (rw q at fits))

    pub allocate_bytes : block_zeroed t room k bs ≡ (called t bs (allocate x k)).bytes
    unfolding store_calls.roomed row checks change reading
    allocate_bytes =
        let q = eq-eqb (length bs) t.areas.stores.length e in
        rw (called_sound t n h bs (allocate x k), q)
        (bytes_way _ t.stores _ _ (reading t) _ _ _ k bs (store_calls.all_fit (reading t) (allocate x k)) (rw q at fits))

    -- the bytes by what the call on the lists tells: an accepted one zeroes its block, a refused one leaves them
    pub block_accepted : (ss : Stores) (v : ℕ) → record { stores = ss; told = record { report = 0; value = v } } ≡ room
        → zeroed (v - allocation_overhead - t.areas.stores.start) (block_taken k) bs ≡ (called t bs (allocate x k)).bytes
    block_accepted ss v r = ap (λ p. block_zeroed t p k bs) r ∙ allocate_bytes

    pub block_refused : (ss : Stores) (r : ℕ) → record { stores = ss; told = record { report = r; value = 0 } } ≡ room → (r ≡ 0 → ⊥) → bs ≡ (called t bs (allocate x k)).bytes
    block_refused ss r q f =
        let kept : bs ≡ block_zeroed t (record { stores = ss; told = record { report = r; value = 0 } }) k bs = rw (ne_eqb r 0 f) in
        kept ∙ ap (λ p. block_zeroed t p k bs) q ∙ allocate_bytes

    -- the same, by the result of that call and what is told of it: its value, or its report
    pub block_told : (r : Result Roomed Report) (v : Result ℕ Report) → store_calls.seen t.stores r ≡ room → IfErr r (λ e. number_of e ≢ 0)
        → MatchResult r (λ y. IsOkAnd v (λ n. n ≡ y.value)) (λ e. v ≡ Err e) → zeroed_as_told v t.areas.stores.start k bs ≡ (called t bs (allocate x k)).bytes
    unfolding zeroed_as_told
    block_told (Ok y) (Ok v) q f e = rw e (block_accepted y.stores y.value q)
    block_told (Ok y) (Err d) q f e = absurd e
    block_told (Err d) v q f e = rw e (block_refused t.stores (number_of d) q f)

-- ---- the run question

pub report_unsound : (t : Table) (stores stacks : Bytes) (a k : ℕ) → sound_table t ≡ false → 16 ≡ run_number t stores stacks a k
unfolding run_number
report_unsound t stores stacks a k e = rw e

module _ (t : Table) (n : Sized t) (h : sound_table t ≡ true) (stores stacks : Bytes) (a k : ℕ) where
  pub report_sound : run_number t stores stacks a k ≡ first_report (area_checks (run_of t.areas.stores) (run_of t.areas.stacks) stores stacks a k)
  unfolding run_number run_report reading first_report
  report_sound = rw (h, model_sound t n h)

  pub run_sound_lem : table_run t stores stacks a k ≡ part t.areas.stores t.areas.stacks stores stacks a k
  unfolding table_run run_part run_report part reading first_report
  run_sound_lem = rw (h, model_sound t n h)
