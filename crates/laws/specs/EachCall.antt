-- What an accepted call makes of a model is sound, call by call: its checks give what its change needs. Assumes nothing.
use Rattle.std.specs.Prelude.{◌≡◌}
use Rattle.std.proofs.Common.{arith}
use Rattle.lists.specs.Tests.{and_iff, not_iff, not_false_iff, reflect}
use Rattle.names.specs.Overhead.{block_taken, store_taken}
use Rattle.meaning.specs.Model.{Model, Bytes, context_in}
use Rattle.meaning.specs.Nesting.{parent_in}
use Rattle.meaning.specs.Facts.{Sound}
use Rattle.meaning.specs.Calls.{Call, start, root, context_of, set_context, total_of, used_of, free_of, find, allocate, make_store, clear, resize, make_stack, destroy_stack, add_thread, remove_thread, checks, change, all_checks, step}
use Rattle.meaning.proofs.Laws.Nested.{named}
use Rattle.meaning.proofs.Laws.Step.{accepted_exact, accepted_sound}
use Rattle.meaning.proofs.Laws.Within.{context_listed}
use Rattle.laws.specs.Start.{start_sound}
use Rattle.laws.specs.ThreadCalls.{set_context_sound, add_thread_sound, remove_thread_sound}
use Rattle.laws.specs.StackCalls.{make_stack_sound, destroy_stack_sound}
use Rattle.laws.specs.StoreCalls.{allocate_sound, make_store_sound, clear_sound, resize_sound}

pub change_sound : (m : Model) (bs : Bytes) (c : Call) → (step m bs c).report ≡ 0 → Sound (change m bs c).model
unfolding all_checks checks change
change_sound m bs (start a b) h = let f = simp reflect at ((accepted_exact m bs (start a b)).0 h) in start_sound m a b f.1.1.0
change_sound m bs root h = accepted_sound m bs root (omega arith) h
change_sound m bs (context_of t) h = accepted_sound m bs (context_of t) (omega arith) h
change_sound m bs (set_context t s) h =
    let f = simp reflect at ((accepted_exact m bs (set_context t s)).0 h) in
    set_context_sound m (accepted_sound m bs (set_context t s) (omega arith) h) t s f.1.1.0
change_sound m bs (total_of s) h = accepted_sound m bs (total_of s) (omega arith) h
change_sound m bs (used_of s) h = accepted_sound m bs (used_of s) (omega arith) h
change_sound m bs (free_of s) h = accepted_sound m bs (free_of s) (omega arith) h
change_sound m bs (find a) h = accepted_sound m bs (find a) (omega arith) h
change_sound m bs (allocate t n) h =
    let f = simp reflect at ((accepted_exact m bs (allocate t n)).0 h) in
    let sound = accepted_sound m bs (allocate t n) (omega arith) h in
    let c = context_in m.threads t in
    rw (named m.stores c) (allocate_sound m sound c (block_taken n) (context_listed m sound t f.1.1.0) f.1.1.1.0)
change_sound m bs (make_store t n) h =
    let f = simp reflect at ((accepted_exact m bs (make_store t n)).0 h) in
    let sound = accepted_sound m bs (make_store t n) (omega arith) h in
    let c = context_in m.threads t in
    rw (named m.stores c) (make_store_sound m sound c (store_taken n) (context_listed m sound t f.1.0) f.1.1.0 (omega arith))
change_sound m bs (clear t) h =
    let f = simp reflect at ((accepted_exact m bs (clear t)).0 h) in
    let sound = accepted_sound m bs (clear t) (omega arith) h in
    clear_sound m sound (context_in m.threads t) (context_listed m sound t f.1.0) f.1.1.0
change_sound m bs (resize s n) h =
    let f = simp reflect at ((accepted_exact m bs (resize s n)).0 h) in
    let sound = accepted_sound m bs (resize s n) (omega arith) h in
    let p = parent_in m.stores s in
    rw (named m.stores p)
    (resize_sound m sound s (store_taken n) f.1.0 f.1.1.0 f.1.1.1.0 f.1.1.1.1.0 f.1.1.1.1.1.0
    (omega (arith, f.1.1.1.1.1.1.0, named m.stores s, named m.stores p))
    f.1.1.1.1.1.1.1.0)
change_sound m bs (make_stack n) h =
    let f = simp reflect at ((accepted_exact m bs (make_stack n)).0 h) in
    make_stack_sound m (accepted_sound m bs (make_stack n) (omega arith) h) n f.1.0
change_sound m bs (destroy_stack k) h =
    let f = simp (and_iff, not_iff, not_false_iff) at ((accepted_exact m bs (destroy_stack k)).0 h) in
    destroy_stack_sound m (accepted_sound m bs (destroy_stack k) (omega arith) h) k f.1.0 f.1.1.0
change_sound m bs (add_thread t s) h =
    let f = simp reflect at ((accepted_exact m bs (add_thread t s)).0 h) in
    add_thread_sound m (accepted_sound m bs (add_thread t s) (omega arith) h) t s f.1.0
change_sound m bs (remove_thread t) h = remove_thread_sound m (accepted_sound m bs (remove_thread t) (omega arith) h) t
