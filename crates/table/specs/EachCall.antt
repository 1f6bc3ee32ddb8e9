-- Each call on the lists that it looks at, put back into a sound table, is the call on the table. Assumes nothing.
use Rattle.std.specs.Prelude.{true, ◌≡◌, refl, ℕ}
use mathlib.Core.List.{[]}
use Rattle.std.proofs.Common.{sym, ◌∙◌}
use Rattle.std.proofs.Math.Path.{ap}
use Rattle.meaning.specs.Facts.{Sound}
use Rattle.meaning.specs.Calls.{root, context_of, set_context, total_of, used_of, free_of, make_store, clear, resize, make_stack, destroy_stack, add_thread, remove_thread, checks, change, row}
use Rattle.meaning.specs.Parts.{replied}
use Rattle.meaning.proofs.Laws.Agree.{sound_agrees}
use Rattle.stores.specs.Stores.{reading as stores_of}
use Rattle.threads.specs.Threads.{reading as threads_of, written as threads_written}
use Rattle.thread_calls.specs.ThreadCalls as thread_calls
use Rattle.store_calls.specs.StoreCalls as store_calls
use Rattle.stack_calls.specs.StackCalls as stack_calls
use Rattle.table.specs.declared.Table.{Table}
use Rattle.table.specs.Table.{reading, sound_table, Sized}
use Rattle.table.specs.Calls.{called, answer}
use Rattle.table.specs.Ways.{reply_of, with_threads_of, with_stores_of, with_stacks_of, model_sound, called_sound, question_way, threads_way, stores_way, stacks_way}
use Rattle.table.specs.Fits32.{make_store_fits, resize_fits, make_stack_fits, destroy_stack_fits}

module _ (t : Table) (n : Sized t) (h : sound_table t ≡ true) where
  pub is_sound : Sound (reading t)
  is_sound = (sound_agrees (reading t)).0 (model_sound t n h)

  -- ---- calls 1, 2, 4, 5, 6: questions

  pub root_called : reply_of t (replied (stores_of t.stores) [] root) ≡ answer (called t [] root)
  unfolding replied row checks change reading
  root_called = question_way t n h _ _ _ _ ∙ ap answer (sym (called_sound t n h [] root))

  pub context_called : (x : ℕ) → reply_of t (replied [] (threads_of t.threads) (context_of x)) ≡ answer (called t [] (context_of x))
  unfolding replied row checks change reading
  context_called x = question_way t n h _ _ _ _ ∙ ap answer (sym (called_sound t n h [] (context_of x)))

  pub total_called : (s : ℕ) → reply_of t (replied (stores_of t.stores) [] (total_of s)) ≡ answer (called t [] (total_of s))
  unfolding replied row checks change reading
  total_called s = question_way t n h _ _ _ _ ∙ ap answer (sym (called_sound t n h [] (total_of s)))

  pub used_called : (s : ℕ) → reply_of t (replied (stores_of t.stores) [] (used_of s)) ≡ answer (called t [] (used_of s))
  unfolding replied row checks change reading
  used_called s = question_way t n h _ _ _ _ ∙ ap answer (sym (called_sound t n h [] (used_of s)))

  pub free_called : (s : ℕ) → reply_of t (replied (stores_of t.stores) [] (free_of s)) ≡ answer (called t [] (free_of s))
  unfolding replied row checks change reading
  free_called s = question_way t n h _ _ _ _ ∙ ap answer (sym (called_sound t n h [] (free_of s)))

  -- ---- calls 3, 14, 15: other threads

  pub set_context_called : (x s : ℕ) →
      let p = thread_calls.threads_after (stores_of t.stores) t.threads (set_context x s) in
      with_threads_of t p.threads p.told ≡ answer (called t [] (set_context x s))
  unfolding thread_calls.threads_after row checks change reading
  set_context_called x s = threads_way t n h _ _ _ _ ∙ ap answer (sym (called_sound t n h [] (set_context x s)))

  pub add_thread_called : (x s : ℕ) →
      let p = thread_calls.threads_after (stores_of t.stores) t.threads (add_thread x s) in
      with_threads_of t p.threads p.told ≡ answer (called t [] (add_thread x s))
  unfolding thread_calls.threads_after row checks change reading
  add_thread_called x s = threads_way t n h _ _ _ _ ∙ ap answer (sym (called_sound t n h [] (add_thread x s)))

  pub remove_thread_called : (x : ℕ) →
      let p = thread_calls.threads_after [] t.threads (remove_thread x) in
      with_threads_of t p.threads p.told ≡ answer (called t [] (remove_thread x))
  unfolding thread_calls.threads_after row checks change reading
  remove_thread_called x = threads_way t n h _ _ _ _ ∙ ap answer (sym (called_sound t n h [] (remove_thread x)))

  -- ---- calls 9, 10, 11: other stores

  pub make_store_called : (x k : ℕ) →
      let r = store_calls.roomed t.stores t.threads (make_store x k) in
      with_stores_of t r.stores r.told ≡ answer (called t [] (make_store x k))
  unfolding store_calls.roomed row checks change reading
  make_store_called x k = stores_way t n h _ _ _ _ (store_calls.all_fit (reading t) (make_store x k)) _ _ (make_store_fits (reading t) is_sound x k) ∙ ap answer (sym (called_sound t n h [] (make_store x k)))

  pub clear_called : (x : ℕ) →
      let r = store_calls.roomed t.stores t.threads (clear x) in
      with_stores_of t r.stores r.told ≡ answer (called t [] (clear x))
  unfolding store_calls.roomed row checks change reading
  clear_called x = stores_way t n h _ _ _ _ (store_calls.all_fit (reading t) (clear x)) _ _ (λ e. refl) ∙ ap answer (sym (called_sound t n h [] (clear x)))

  pub resize_called : (s k : ℕ) →
      let r = store_calls.roomed t.stores (threads_written []) (resize s k) in
      with_stores_of t r.stores r.told ≡ answer (called t [] (resize s k))
  unfolding store_calls.roomed row checks change reading
  resize_called s k = stores_way t n h _ _ _ _ (store_calls.all_fit (reading t) (resize s k)) _ _ (resize_fits (reading t) is_sound s k) ∙ ap answer (sym (called_sound t n h [] (resize s k)))

  -- ---- calls 12, 13: other stacks

  pub make_stack_called : (k : ℕ) →
      let p = stack_calls.piled t.areas.stacks t.stacks t.free (make_stack k) in
      with_stacks_of t p.stacks p.free p.told ≡ answer (called t [] (make_stack k))
  unfolding stack_calls.piled row checks change reading
  make_stack_called k = stacks_way t n h _ _ _ _ _ (make_stack_fits (reading t) is_sound k) ∙ ap answer (sym (called_sound t n h [] (make_stack k)))

  pub destroy_stack_called : (k : ℕ) →
      let p = stack_calls.piled t.areas.stacks t.stacks t.free (destroy_stack k) in
      with_stacks_of t p.stacks p.free p.told ≡ answer (called t [] (destroy_stack k))
  unfolding stack_calls.piled row checks change reading
  destroy_stack_called k = stacks_way t n h _ _ _ _ _ (destroy_stack_fits (reading t) is_sound k) ∙ ap answer (sym (called_sound t n h [] (destroy_stack k)))
