-- The context of a thread, on the model without what is in S: a context outside S is there, and is what it was. Assumes nothing.
use Rattle.std.specs.Prelude.{true, false, ◌≡◌, refl, ℕ, eqb}
use Rattle.std.proofs.Common.{◌∙◌, ap}
use Rattle.std.proofs.lemmas.Bool.{eqb-false}
use Rattle.lists.specs.Keyed.{has}
use Rattle.lists.specs.Tests.{or_false_iff}
use Rattle.lists.specs.KeyedChanges.{has_map}
use Rattle.meaning.specs.Model.{Model, thread_name, store_of, context_in}
use Rattle.meaning.specs.Nesting.{nested}
use Rattle.meaning.specs.Reports.{context_store}
use Rattle.laws.specs.StoreChanges.{after_clear}
use Rattle.stretches.specs.Stretch.{within}
use Rattle.stretches.specs.Without.{move_line, without}
use Rattle.stretches.proofs.Without.{instead_out, moved_context}

-- a store is neither S nor nested in S
pub out_of : (S : ℕ) (m : Model) (s : ℕ) → within S m s ≡ false → (s ≡ S → ⊥) × (nested m.stores s S ≡ false)
out_of S m s h = let b = (or_false_iff (eqb s S) _).0 h in (eqb-false s S b.0, b.1)

-- the same threads are listed
pub threads_same : (S : ℕ) (m : Model) (t : ℕ) → has thread_name (without S m).threads t ≡ has thread_name m.threads t
threads_same S m t = has_map thread_name (move_line S m.stores) (λ x. refl) m.threads t

module _ (S : ℕ) (m : Model) (t : ℕ) (there : has thread_name m.threads t ≡ true) (out : within S m (context_in m.threads t) ≡ false) where
  pub context_same : context_in (without S m).threads t ≡ context_in m.threads t
  context_same =
      moved_context S m.stores m.threads t there ∙ instead_out S m.stores (context_in m.threads t) (out_of S m (context_in m.threads t) out).1

  pub context_store_same : context_store (without S m) t ≡ context_store m t
  context_store_same =
      let o = out_of S m (context_in m.threads t) out in
      ap (λ c. store_of (without S m).stores c) context_same ∙ (after_clear S m.stores).elsewhere (context_in m.threads t) o.1 o.0
