-- A call on the bench: document 01, "The bench program". The bench holds the manager's table and a buffer for its stores, of 4,096 bytes. Assumes nothing.
use Rattle.std.specs.Prelude.{Bool, ◌||◌, [], ◌∷◌, ◌++◌, ℕ, ltb, eqb, take, drop, replicate, if◌then◌else◌}
use Rattle.meaning.specs.Model.{Run, Bytes}
use Rattle.meaning.specs.Reports.{◌when◌, first_report, too_small}
use Rattle.meaning.specs.Calls.{Call, start, root, context_of, set_context, total_of, used_of, free_of, find, allocate, make_store, clear, resize, make_stack, destroy_stack, add_thread, remove_thread}
use Rattle.table.specs.declared.Table.{Table}
use Rattle.table.specs.Calls.{Called, called}

-- what a call on the bench gives: report and value to print, and the table and the store buffer after it
pub record AfterCall : Type 0 where
  pub report : ℕ
  pub value : ℕ
  pub table : Table
  pub stores : Bytes

-- "It lends 4,096 bytes of stores and 4,096 of stacks at most"
abbrev pub most_lent : ℕ
most_lent = 4096

abbrev pub too_long : Run → Bool
too_long area = ltb most_lent area.length

-- Call 0 "with longer areas prints report 15 after the check for 4"; "A refused call 0 keeps the old table". The rest is the manager's.
unfoldable pub bench_start : Table → Run → Run → Called
bench_start t a b =
    let r = first_report (4 when too_small a ∷ 15 when (too_long a || too_long b) ∷ []) in
    if eqb r 0 then called t [] (start a b) else record { table = t; report = r; value = 0; steps = 0; bytes = [] }

-- a call that is lent nothing: the store buffer stays
abbrev pub beside : Bytes → Called → AfterCall
beside buffer o = record { report = o.report; value = o.value; table = o.table; stores = buffer }

-- Call 8 is lent the table's store area, which is the first bytes of the buffer. The manager answers every other call but 0 as it stands.
unfoldable pub bench_called : Table → Bytes → Call → AfterCall
bench_called t buffer (start a b) = beside buffer (bench_start t a b)
bench_called t buffer root = beside buffer (called t [] root)
bench_called t buffer (context_of x) = beside buffer (called t [] (context_of x))
bench_called t buffer (set_context x s) = beside buffer (called t [] (set_context x s))
bench_called t buffer (total_of s) = beside buffer (called t [] (total_of s))
bench_called t buffer (used_of s) = beside buffer (called t [] (used_of s))
bench_called t buffer (free_of s) = beside buffer (called t [] (free_of s))
bench_called t buffer (find a) = beside buffer (called t [] (find a))
bench_called t buffer (allocate x n) =
    let lent = t.areas.stores.length in
    let o = called t (take lent buffer) (allocate x n) in
    record { report = o.report; value = o.value; table = o.table; stores = o.bytes ++ drop lent buffer }
bench_called t buffer (make_store x n) = beside buffer (called t [] (make_store x n))
bench_called t buffer (clear x) = beside buffer (called t [] (clear x))
bench_called t buffer (resize s n) = beside buffer (called t [] (resize s n))
bench_called t buffer (make_stack n) = beside buffer (called t [] (make_stack n))
bench_called t buffer (destroy_stack k) = beside buffer (called t [] (destroy_stack k))
bench_called t buffer (add_thread x s) = beside buffer (called t [] (add_thread x s))
bench_called t buffer (remove_thread x) = beside buffer (called t [] (remove_thread x))

-- ---- before the first call: "Before an accepted call 0 the table is all zeros", which is `zero_table`; so is the store buffer

unfoldable pub zero_stores : Bytes
zero_stores = replicate most_lent 0
