-- Call 8: outside S it is the same allocation without what is in S; inside S it is not seen. Assumes nothing.
use Rattle.std.specs.Prelude.{true, false, ◌≡◌, refl, ℕ, ◌+◌, eqb}
use Rattle.std.proofs.Common.{inl, inr, sym, ◌∙◌, arith, eqb-true}
use Rattle.lists.specs.Tests.{tested, unless_iff, reflect}
use Rattle.names.specs.Overhead.{block_taken}
use Rattle.meaning.specs.Model.{Model, Bytes, whole, store_of, context_in}
use Rattle.meaning.specs.Nesting.{nested}
use Rattle.meaning.specs.Reports.{context_store}
use Rattle.meaning.specs.Facts.{◌Inside◌, Sound}
use Rattle.meaning.specs.Changes.{line_with_used}
use Rattle.meaning.specs.Calls.{allocate, checks, change, all_checks, step}
use Rattle.meaning.proofs.Laws.Nested.{named, nested_agrees}
use Rattle.meaning.proofs.Laws.Step.{accepted_exact}
use Rattle.laws.specs.ByName.{Listed, by_name}
use Rattle.laws.specs.Geometry.{nested_inside}
use Rattle.meaning.proofs.Laws.Within.{context_listed}
use Rattle.stretches.specs.Stretch.{within, moved}
use Rattle.stretches.proofs.Bytes.{zeroed_alike, zeroed_unseen}
use Rattle.stretches.specs.Follows.{Same, Follows, Unseen}
use Rattle.stretches.proofs.Lines.{lines_seen, lines_unseen, used_swap, used_undone}
use Rattle.stretches.proofs.Contexts.{out_of, threads_same, context_store_same}

-- a store within S lies in S's total
within_lies : (S : ℕ) (m : Model) → Sound m → (x : ℕ) → Listed m.stores S → within S m x ≡ true → whole (store_of m.stores x) Inside whole (store_of m.stores S)
within_lies S m sound x there inner = elim (tested (eqb x S)) [
  | inl e ↦ let q = eqb-true x S e in rw q (omega arith)
  | inr e ↦
      let i = nested_inside m sound ((nested_agrees m sound x S).0 ((unless_iff (eqb x S) (nested m.stores x S)).0 inner e)) in
      let f = (by_name m sound).fits S there in
      omega arith
]

module _ (S : ℕ) (m : Model) (bs : Bytes) (t n : ℕ) (h : (step m bs (allocate t n)).report ≡ 0) where
  pub allocate_follows : (other : Bytes) → Same S m bs other → within S m (context_in m.threads t) ≡ false → Follows S m bs other (allocate t n)
  unfolding all_checks checks change moved
  allocate_follows other same out =
      let f = simp reflect at ((accepted_exact m bs (allocate t n)).0 h) in
      let e = context_store_same S m t f.1.1.0 out in
      let c = context_store m t in
      let d : c.start ≡ S → ⊥ = λ q. (out_of S m _ out).0 (sym (named m.stores _) ∙ q) in
      record {
        passes = rw e (simp reflect (same.long ∙ f.1.0, (threads_same S m t ∙ f.1.1.0, (f.1.1.1.0, refl))));
        value = rw e;
        steps = refl;
        model = rw e (lines_seen (line_with_used c.start (c.used + block_taken n)) (λ s. refl) (λ s. refl) S m (used_swap S c.start _ d));
        bytes = rw e (zeroed_alike _ _ _ (block_taken n) same);
      }

  pub allocate_unseen : Sound m → Listed m.stores S → within S m (context_in m.threads t) ≡ true → Unseen S m bs (change m bs (allocate t n))
  unfolding all_checks checks change
  allocate_unseen sound there inner =
      let f = simp reflect at ((accepted_exact m bs (allocate t n)).0 h) in
      let c = context_in m.threads t in
      let k = named m.stores c in
      let low = (by_name m sound).lowest c (context_listed m sound t f.1.1.0) in
      let held = within_lies S m sound c there inner in
      let fits = (by_name m sound).fits c (context_listed m sound t f.1.1.0) in
      let room = f.1.1.1.0 in
      record {
        model = lines_unseen (line_with_used (context_store m t).start ((context_store m t).used + block_taken n)) (λ s. refl) (λ s. refl) S m
            (used_undone S (context_store m t).start _ m (rw k inner));
        bytes = zeroed_unseen m.store_area _ _ (block_taken n) bs (omega arith) (omega arith);
      }
