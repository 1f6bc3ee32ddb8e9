-- Lists within the limits of a model stay within them. Assumes nothing.
use Rattle.std.specs.Prelude.{Bool, true, false, not, ◌&&◌, List, ◌≡◌, refl, ℕ, ◌≤◌, leb, length}
use Rattle.std.proofs.Common.{inl, inr, arith, leb-false}
use Rattle.std.proofs.lemmas.List.{length-map}
use Rattle.lists.specs.Lists.{keep}
use Rattle.lists.specs.Keyed.{has}
use Rattle.lists.specs.Tests.{tested, never, and_iff, not_iff, reflect}
use Rattle.lists.specs.ListChanges.{keep_length}
use Rattle.lists.specs.KeyedChanges.{insert_length}
use Rattle.meaning.specs.Model.{Run, Thread, Model, Bytes, store_name, thread_name, stack_name}
use Rattle.meaning.specs.Changes.{placed, started}
use Rattle.meaning.specs.Calls.{Call, start, root, context_of, set_context, total_of, used_of, free_of, find, allocate, make_store, clear, resize, make_stack, destroy_stack, add_thread, remove_thread, checks, change, all_checks, step}
use Rattle.meaning.proofs.Laws.Step.{accepted_exact}
use Rattle.laws.specs.AnyStep.{after_step}

-- each list is at most as long as its limit, which has room for the root
pub record Fits (m : Model) : Type 0 where
  pub root : 1 ≤ m.limits.stores
  pub stores : length m.stores ≤ m.limits.stores
  pub threads : length m.threads ≤ m.limits.threads
  pub stacks : length m.stacks ≤ m.limits.stacks

kept_fits : {A : Type 0} (p : A → Bool) (l : List A) {n : ℕ} → length l ≤ n → length (keep p l) ≤ n
kept_fits p l h = let k = keep_length p l in omega arith

placed_fits : (t s : ℕ) (ts : List Thread) {n : ℕ} → (leb n (length ts) && not (has thread_name ts t)) ≡ false → length ts ≤ n → length (placed t s ts) ≤ n
placed_fits t s ts {n} h l = elim (tested (has thread_name ts t)) [
  | inl e ↦ rw (e, length-map) l
  | inr e ↦ elim (tested (leb n (length ts))) [
    | inl f ↦ never true refl (rw (e, f) at h)
    | inr f ↦ rw (e, insert_length thread_name) (omega (arith, leb-false))
  ]
]

started_fits : (m : Model) (a b : Run) → 1 ≤ m.limits.stores → Fits (started m a b)
started_fits m a b l = record { root = l; stores = l; threads = omega arith; stacks = omega arith }

change_fits : (m : Model) (bs : Bytes) (c : Call) → Fits m → (step m bs c).report ≡ 0 → Fits (change m bs c).model
unfolding all_checks checks change
change_fits m bs (start a b) f h = started_fits m a b f.root
change_fits m bs root f h = f
change_fits m bs (context_of t) f h = f
change_fits m bs (set_context t s) f h = record { root = f.root; stores = f.stores; threads = rw length-map f.threads; stacks = f.stacks }
change_fits m bs (total_of s) f h = f
change_fits m bs (used_of s) f h = f
change_fits m bs (free_of s) f h = f
change_fits m bs (find a) f h = f
change_fits m bs (allocate t n) f h = record { root = f.root; stores = rw length-map f.stores; threads = f.threads; stacks = f.stacks }
change_fits m bs (make_store t n) f h =
    let g = simp reflect at ((accepted_exact m bs (make_store t n)).0 h) in
    record { root = f.root; stores = rw (insert_length store_name, length-map) (omega (arith, g.1.1.1.0)); threads = f.threads; stacks = f.stacks }
change_fits m bs (clear t) f h = record { root = f.root; stores = rw length-map (kept_fits _ m.stores f.stores); threads = f.threads; stacks = f.stacks }
change_fits m bs (resize s n) f h = record { root = f.root; stores = rw (length-map, length-map) f.stores; threads = f.threads; stacks = f.stacks }
change_fits m bs (make_stack n) f h =
    let g = simp reflect at ((accepted_exact m bs (make_stack n)).0 h) in
    record { root = f.root; stores = f.stores; threads = f.threads; stacks = rw (insert_length stack_name) (omega (arith, g.1.1.0)) }
change_fits m bs (destroy_stack k) f h = record { root = f.root; stores = f.stores; threads = f.threads; stacks = kept_fits _ m.stacks f.stacks }
change_fits m bs (add_thread t s) f h =
    let g = simp (and_iff, not_iff) at ((accepted_exact m bs (add_thread t s)).0 h) in
    record { root = f.root; stores = f.stores; threads = placed_fits t s m.threads g.1.1.0 f.threads; stacks = f.stacks }
change_fits m bs (remove_thread t) f h = record { root = f.root; stores = f.stores; threads = kept_fits _ m.threads f.threads; stacks = f.stacks }

-- Lists within the limits stay within them, under any call.
pub fits_stay : (m : Model) (bs : Bytes) (c : Call) → Fits m → Fits (step m bs c).model
fits_stay m bs c f = after_step Fits m bs c (change_fits m bs c f) f
