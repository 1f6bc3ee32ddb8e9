-- "Before an accepted call 0 the table is all zeros, so calls get 16." Assumes nothing.
use Rattle.std.specs.Prelude.{true, false, [], ◌≡◌, refl, eqb}
use Rattle.std.proofs.Common.{ap}
use Rattle.lists.specs.Tests.{never}
use Rattle.meaning.specs.Model.{Bytes}
use Rattle.meaning.specs.Rules.{sound, areas_sound}
use Rattle.meaning.specs.Calls.{Call, code, start, root, context_of, set_context, total_of, used_of, free_of, find, allocate, make_store, clear, resize, make_stack, destroy_stack, add_thread, remove_thread}
use Rattle.table.specs.Table.{reading, zero_table, sound_table}
use Rattle.table.specs.Ways.{called_unsound}
use Rattle.bench_calls.specs.Bench.{AfterCall, beside, bench_called}

zero_unsound : sound_table zero_table ≡ false
unfolding sound_table reading zero_table sound areas_sound
zero_unsound = refl

-- report 16, no value, and nothing changes
abbrev pub untouched : Bytes → AfterCall
untouched buffer = record { report = 16; value = 0; table = zero_table; stores = buffer }

pub before_start : (buffer : Bytes) (c : Call) → eqb (code c) 0 ≡ false → bench_called zero_table buffer c ≡ untouched buffer
unfolding bench_called zero_table
before_start buffer (start a b) h = never true refl h
before_start buffer root h = ap (beside buffer) (called_unsound zero_table [] root h zero_unsound)
before_start buffer (context_of x) h = ap (beside buffer) (called_unsound zero_table [] (context_of x) h zero_unsound)
before_start buffer (set_context x s) h = ap (beside buffer) (called_unsound zero_table [] (set_context x s) h zero_unsound)
before_start buffer (total_of s) h = ap (beside buffer) (called_unsound zero_table [] (total_of s) h zero_unsound)
before_start buffer (used_of s) h = ap (beside buffer) (called_unsound zero_table [] (used_of s) h zero_unsound)
before_start buffer (free_of s) h = ap (beside buffer) (called_unsound zero_table [] (free_of s) h zero_unsound)
before_start buffer (find a) h = ap (beside buffer) (called_unsound zero_table [] (find a) h zero_unsound)
before_start buffer (allocate x n) h = rw (called_unsound zero_table [] (allocate x n) h zero_unsound)
before_start buffer (make_store x n) h = ap (beside buffer) (called_unsound zero_table [] (make_store x n) h zero_unsound)
before_start buffer (clear x) h = ap (beside buffer) (called_unsound zero_table [] (clear x) h zero_unsound)
before_start buffer (resize s n) h = ap (beside buffer) (called_unsound zero_table [] (resize s n) h zero_unsound)
before_start buffer (make_stack n) h = ap (beside buffer) (called_unsound zero_table [] (make_stack n) h zero_unsound)
before_start buffer (destroy_stack k) h = ap (beside buffer) (called_unsound zero_table [] (destroy_stack k) h zero_unsound)
before_start buffer (add_thread x s) h = ap (beside buffer) (called_unsound zero_table [] (add_thread x s) h zero_unsound)
before_start buffer (remove_thread x) h = ap (beside buffer) (called_unsound zero_table [] (remove_thread x) h zero_unsound)
