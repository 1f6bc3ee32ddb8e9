-- The run of the bench: from the bytes of a call list to the bytes of the output. Document 01, "The bench program". Assumes nothing.
use Rattle.std.specs.Prelude.{Bool, List, [], ◌++◌, ℕ, zero, suc, ◌+◌, leb, length, if◌then◌else◌}
use Rattle.meaning.specs.Model.{Bytes}
use Rattle.meaning.specs.Calls.{code}
use Rattle.texts.specs.Record.{record_length}
use Rattle.call_list.specs.Records.{Entry, call, stop, record_at}
use Rattle.answer_text.specs.Text.{answer_text, stop_text}
use Rattle.table.specs.declared.Table.{Table}
use Rattle.table.specs.Table.{zero_table}
use Rattle.bench_calls.specs.Bench.{bench_called, zero_stores}

-- "It takes 3,000 records"
abbrev pub most_records : ℕ
most_records = 3000

-- no byte stands at the place or behind it
abbrev pub used_up : List ℕ → ℕ → Bool
used_up list place = leb (length list) place

-- what is printed for what stands at a place: the answer to a call and all that follows it, or the stop that ends the run
abbrev pub printed : Entry → ℕ → Table → Bytes → (Table → Bytes → List ℕ) → List ℕ
printed (call c) place t buffer following =
    let o = bench_called t buffer c in
    answer_text (code c) o.report o.value ++ following o.table o.stores
printed stop place t buffer following = stop_text place

-- what is printed from a place on, with this table and this store buffer, where at most `left` records more are taken
unfoldable pub run_from : ℕ → List ℕ → ℕ → Table → Bytes → List ℕ
run_from zero list place t buffer = if used_up list place then [] else stop_text place
run_from (suc left) list place t buffer =
    let rest = printed (record_at list place) place t buffer (run_from left list (place + record_length)) in
    if used_up list place then [] else rest

-- what the bench prints for a call list
unfoldable pub output : List ℕ → List ℕ
output list = run_from most_records list 0 zero_table zero_stores
