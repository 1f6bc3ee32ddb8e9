-- What stays: a call changes only the lines that it touches. Assumes nothing.
use Rattle.std.specs.Prelude.{Bool, true, false, List, map, ◌≡◌, refl, ℕ, ◌+◌}
use Rattle.std.proofs.Common.{inl, inr, ⊎_elim, sym, ◌∙◌, ap, arith, ne_eqb}
use Rattle.std.proofs.lemmas.Bool.{eqb-false}
use Rattle.lists.specs.Keyed.{has, insert, remove}
use Rattle.lists.specs.Tests.{tested, never, same_test, reflect}
use Rattle.lists.specs.KeyedChanges.{has_insert, at_insert_old, has_map, at_map_same, has_remove_iff, at_remove}
use Rattle.names.specs.Overhead.{store_taken}
use Rattle.meaning.specs.Model.{Store, Thread, Stack, Run, Model, Bytes, store_name, thread_name, stack_name, listed, no_such_thread, no_such_stack, context_in}
use Rattle.meaning.specs.Nesting.{nested, parent_in}
use Rattle.meaning.specs.Changes.{with_used, with_total, cleared, with_context, with_stores, with_threads, with_stacks}
use Rattle.meaning.specs.Calls.{Call, start, root, context_of, set_context, total_of, used_of, free_of, find, allocate, make_store, clear, resize, make_stack, destroy_stack, add_thread, remove_thread, checks, change, all_checks, step}
use Rattle.meaning.proofs.Laws.Nested.{named}
use Rattle.meaning.proofs.Laws.Step.{accepted_exact, accepted_sound}
use Rattle.meaning.proofs.Laws.Within.{context_listed}
use Rattle.laws.specs.AnyStep.{after_step}
use Rattle.laws.specs.ByName.{Listed, used_in}
use Rattle.laws.specs.Geometry.{none_at_free}
use Rattle.laws.specs.StoreChanges.{used_set, resized, after_clear, added}
use Rattle.laws.specs.Touched.{nothing, just, store_lines, thread_line, stack_line, Touched, touched, SameLine, StoresStay, Stays}

stores_same : (t : Touched) (ss : List Store) → StoresStay t ss ss
stores_same t ss =
    record { stay = λ k h _. h; come = λ k h _. h; parents = λ k h _. refl; totals = λ k h _ _. refl; useds = λ k h _ _. refl }

all_same : (t : Touched) (m : Model) → Stays t m m
all_same t m = record { stores = stores_same t m.stores; threads = λ k _. (refl, refl); stacks = λ k _. (refl, refl); free_run = λ _. refl }

-- ---- threads and stacks

module _ {A : Type 0} (key : A → ℕ) (none : ℕ → A) (l : List A) (k : ℕ) where
  same_map : (f : A → A) → ((x : A) → key (f x) ≡ key x) → ((x : A) → key x ≡ k → f x ≡ x) → SameLine key none l (map f l) k
  same_map f s h = (has_map key f s l k, at_map_same key f s none l k h)

  same_insert : (n : A) → (key n ≡ k → ⊥) → SameLine key none l (insert key n l) k
  same_insert n d = (has_insert key n l k ∙ rw (ne_eqb (key n) k d), at_insert_old key none n l k d)

  same_remove : (j : ℕ) → (k ≡ j → ⊥) → SameLine key none l (remove key j l) k
  same_remove j d = let e = has_remove_iff key j l k in (same_test _ _ (λ h. (e.0 h).0) (λ h. e.1 (h, d)), at_remove key none j l k d)

-- a thread call touches one thread
threads_stay : (m : Model) (t : ℕ) (ts : List Thread) → ((k : ℕ) → (k ≡ t → ⊥) → SameLine thread_name no_such_thread m.threads ts k)
    → Stays (thread_line t) m (with_threads m ts)
threads_stay m t ts h =
    record { stores = stores_same _ m.stores; threads = λ k e. h k (eqb-false k t e); stacks = λ k _. (refl, refl); free_run = λ _. refl }

set_stays : (m : Model) (t s k : ℕ) → (k ≡ t → ⊥) → SameLine thread_name no_such_thread m.threads (with_context t s m.threads) k
set_stays m t s k d =
    same_map thread_name no_such_thread m.threads k _ (λ x. refl) (λ x e. rw (ne_eqb x.identifier t (λ q. d (sym e ∙ q))))

-- a stack call touches one stack
stacks_stay : (m : Model) (j : ℕ) (ks : List Stack) (r : Run) → ((k : ℕ) → (k ≡ j → ⊥) → SameLine stack_name no_such_stack m.stacks ks k)
    → Stays (stack_line j) m (with_stacks m ks r)
stacks_stay m j ks r h =
    record {
      stores = stores_same _ m.stores;
      threads = λ k _. (refl, refl);
      stacks = λ k e. h k (eqb-false k j e);
      free_run = λ none. absurd (eqb-false j j (none j) refl);
    }

-- ---- stores

-- a store call touches stores alone
stores_stay : (m : Model) (used total gone made : ℕ → Bool) (ss : List Store) → StoresStay (store_lines used total gone made) m.stores ss
    → Stays (store_lines used total gone made) m (with_stores m ss)
stores_stay m used total gone made ss h = record { stores = h; threads = λ k _. (refl, refl); stacks = λ k _. (refl, refl); free_run = λ _. refl }

allocate_stays : (ss : List Store) (c u : ℕ) → StoresStay (store_lines (just c) nothing nothing nothing) ss (with_used c u ss)
allocate_stays ss c u =
    let g = used_set c u ss in
    record {
      stay = λ k h _. g.names k ∙ h;
      come = λ k h _. sym (g.names k) ∙ h;
      parents = λ k h _. g.parents k h;
      totals = λ k h _ _. g.totals k h;
      useds = λ k h _ e. g.elsewhere k h (eqb-false k c e);
    }

resize_stays : (ss : List Store) (x n c u : ℕ) → StoresStay (store_lines (just c) (just x) nothing nothing) ss (with_used c u (with_total x n ss))
resize_stays ss x n c u =
    let g = resized x n c u ss in
    record {
      stay = λ k h _. g.names k ∙ h;
      come = λ k h _. sym (g.names k) ∙ h;
      parents = λ k h _. g.parents k h;
      totals = λ k h _ e. g.totals k h (eqb-false k x e);
      useds = λ k h _ e. g.elsewhere k h (eqb-false k c e);
    }

-- used and then one store more; where that begins none was listed
make_stays : (ss : List Store) (c u : ℕ) (new : Store) → listed ss new.start ≡ false
    → StoresStay (store_lines (just c) nothing nothing (just new.start)) ss (insert store_name new (with_used c u ss))
make_stays ss c u new fresh =
    let mid = with_used c u ss in
    let g = used_set c u ss in
    let a = added new mid (g.names new.start ∙ fresh) in
    let other : (k : ℕ) → Listed ss k → new.start ≡ k → ⊥ = λ k h e. never (listed ss k) h (rw e at fresh) in
    record {
      stay = λ k h _. (a.names k).1 (inl (g.names k ∙ h));
      come = λ k h e. ⊎_elim (λ l. sym (g.names k) ∙ l) (λ q. absurd (eqb-false k new.start e q)) ((a.names k).0 h);
      parents = λ k h _. ap (λ s. s.parent) (a.elsewhere k (other k h)) ∙ g.parents k h;
      totals = λ k h _ _. ap (λ s. s.total) (a.elsewhere k (other k h)) ∙ g.totals k h;
      useds = λ k h _ e. ap (λ s. s.used) (a.elsewhere k (other k h)) ∙ g.elsewhere k h (eqb-false k c e);
    }

clear_stays : (ss : List Store) (c : ℕ) → StoresStay (store_lines (just c) nothing (λ k. nested ss k c) nothing) ss (cleared c ss)
clear_stays ss c =
    let g = after_clear c ss in
    record {
      stay = λ k h e. (g.names k).1 (h, e);
      come = λ k h _. ((g.names k).0 h).0;
      parents = λ k h e. g.parents k e;
      totals = λ k h e _. g.totals k e;
      useds = λ k h e f. ap (λ s. s.used) (g.elsewhere k e (eqb-false k c f));
    }

-- ---- call by call

change_stays : (m : Model) (bs : Bytes) (c : Call) → (step m bs c).report ≡ 0 → Stays (touched m c) m (change m bs c).model
unfolding touched change all_checks checks
change_stays m bs (start a b) h =
    record {
      stores =
          record {
            stay = λ k _ e. never true refl e;
            come = λ k _ e. never true refl e;
            parents = λ k _ e. never true refl e;
            totals = λ k _ e. never true refl e;
            useds = λ k _ e. never true refl e;
          };
      threads = λ k e. never true refl e;
      stacks = λ k e. never true refl e;
      free_run = λ e. never true refl (e 0);
    }
change_stays m bs root h = all_same _ m
change_stays m bs (context_of t) h = all_same _ m
change_stays m bs (set_context t s) h = threads_stay m t _ (set_stays m t s)
change_stays m bs (total_of s) h = all_same _ m
change_stays m bs (used_of s) h = all_same _ m
change_stays m bs (free_of s) h = all_same _ m
change_stays m bs (find a) h = all_same _ m
change_stays m bs (allocate t n) h = rw (named m.stores (context_in m.threads t)) (stores_stay m _ _ _ _ _ (allocate_stays m.stores (context_in m.threads t) _))
change_stays m bs (make_store t n) h =
    let f = simp reflect at ((accepted_exact m bs (make_store t n)).0 h) in
    let sound = accepted_sound m bs (make_store t n) (omega arith) h in
    let c = context_in m.threads t in
    rw (named m.stores c)
    (stores_stay m _ _ _ _ _
    (make_stays m.stores c (used_in m.stores c + store_taken n) _ (none_at_free m sound c (context_listed m sound t f.1.0) (omega (arith, f.1.1.0)))))
change_stays m bs (clear t) h = stores_stay m _ _ _ _ _ (clear_stays m.stores (context_in m.threads t))
change_stays m bs (resize s n) h =
    rw (named m.stores (parent_in m.stores s)) (stores_stay m _ _ _ _ _ (resize_stays m.stores s _ (parent_in m.stores s) _))
change_stays m bs (make_stack n) h = stacks_stay m m.free_run.start _ _ (λ k d. same_insert stack_name no_such_stack m.stacks k _ (λ e. d (sym e)))
change_stays m bs (destroy_stack j) h = stacks_stay m j _ _ (λ k d. same_remove stack_name no_such_stack m.stacks k j d)
change_stays m bs (add_thread t s) h = threads_stay m t _ (λ k d. elim (tested (has thread_name m.threads t)) [
  | inl e ↦ rw e (set_stays m t s k d)
  | inr e ↦ rw e (same_insert thread_name no_such_thread m.threads k _ (λ q. d (sym q)))
])
change_stays m bs (remove_thread t) h = threads_stay m t _ (λ k d. same_remove thread_name no_such_thread m.threads k t d)

-- Every line that a call does not touch stays as it is.
pub untouched_stays : (m : Model) (bs : Bytes) (c : Call) → Stays (touched m c) m (step m bs c).model
untouched_stays m bs c = after_step (Stays (touched m c) m) m bs c (change_stays m bs c) (all_same _ m)
