-- The bench has what it lends: from the first call on, the table's store area is never longer than the store buffer. So call 8 is lent all of that area, and the bench
-- prints report 15 at call 0 alone. Assumes nothing.
use Rattle.std.specs.Prelude.{Bool, true, false, not, ◌&&◌, ◌||◌, [], ◌∷◌, ◌≡◌, refl, ℕ, ◌≤◌, eqb, length, take, if◌then◌else◌}
use Rattle.std.proofs.Common.{inl, inr, ◌∙◌, ap, arith, length-append, length-take, length-drop, eqb-true}
use Rattle.std.proofs.Math.Decide.{ℕ_discrete}
use Rattle.lists.specs.Tests.{tested, reflect}
use Rattle.meaning.specs.Model.{Run, Model, Bytes}
use Rattle.meaning.specs.Reports.{◌when◌, first_report, too_small}
use Rattle.meaning.specs.Calls.{Call, Outcome, start, root, context_of, set_context, total_of, used_of, free_of, find, allocate, make_store, clear, resize, make_stack, destroy_stack, add_thread, remove_thread, code, change, step}
use Rattle.meaning.proofs.Laws.Step.{given_none, step_accepted, step_refused}
use Rattle.meaning.proofs.Laws.Bytes.{zeroed_length}
use Rattle.laws.specs.Fixed.{areas_stay}
use Rattle.table.specs.declared.Table.{Table}
use Rattle.table.specs.Table.{reading, written, zero_table, sound_table}
use Rattle.table.specs.Calls.{unsound, settled, called}
use Rattle.bench_calls.specs.Bench.{most_lent, too_long, bench_start, bench_called, zero_stores}

-- the table's store area is no longer than what the bench has to lend
abbrev Lends : Table → Type 0
Lends t = t.areas.stores.length ≤ most_lent

-- a call that is not a start leaves the store area
settled_stays : (t : Table) (b : Bool) (bs : Bytes) (o : Outcome) → o.model.store_area ≡ (reading t).store_area → Lends t → Lends (if b then unsound t bs else settled t o).table
unfolding reading written
settled_stays t true bs o e h = h
settled_stays t false bs o e h = elim (tested (eqb o.report 0)) [
  | inl z ↦ let l = ap (λ r. r.length) e in rw z (omega (arith, l))
  | inr z ↦ rw z h
]

called_lends : (t : Table) (bs : Bytes) (c : Call) → (code c ≡ 0 → ⊥) → Lends t → Lends (called t bs c).table
unfolding called
called_lends t bs c n h = settled_stays t (not (eqb (code c) 0) && not (sound_table t)) bs (step (reading t) bs c) (areas_stay (reading t) bs c n).0 h

-- an accepted start is of areas that are not too long
start_lends : (t : Table) (a b : Run) → Lends t → Lends (bench_start t a b).table
unfolding bench_start called written change
start_lends t a b h = elim (tested (eqb (first_report (4 when too_small a ∷ 15 when (too_long a || too_long b) ∷ [])) 0)) [
  | inl e ↦
      let f = simp reflect at (given_none _ refl (eqb-true _ _ e)) in
      rw e (elim (tested (eqb (step (reading t) [] (start a b)).report 0)) [
        | inl z ↦
            let q = ap (λ o. o.model.store_area.length) (step_accepted (reading t) [] (start a b) (eqb-true _ _ z)) in
            rw z (omega (arith, q, f.1.0.0))
        | inr z ↦ rw z h
      ])
  | inr e ↦ rw e h
]

-- call 8 leaves as many bytes as it was lent
step_length : (m : Model) (bs : Bytes) (x n : ℕ) → length (step m bs (allocate x n)).bytes ≡ length bs
unfolding change
step_length m bs x n = elim (ℕ_discrete (step m bs (allocate x n)).report 0) [
  | yes a ↦ ap (λ o. length o.bytes) (step_accepted m bs (allocate x n) a) ∙ zeroed_length _ _ bs
  | no r ↦ ap (λ o. length o.bytes) (step_refused m bs (allocate x n) r)
]

settled_length : (t : Table) (b : Bool) (bs : Bytes) (o : Outcome) → length o.bytes ≡ length bs → length (if b then unsound t bs else settled t o).bytes ≡ length bs
settled_length t true bs o e = refl
settled_length t false bs o e = e

called_length : (t : Table) (bs : Bytes) (x n : ℕ) → length (called t bs (allocate x n)).bytes ≡ length bs
unfolding called
called_length t bs x n = settled_length t (not (sound_table t)) bs (step (reading t) bs (allocate x n)) (step_length (reading t) bs x n)

-- The bench between two calls: the store buffer has its 4,096 bytes, and the table's store area is no longer.
pub record Ready (t : Table) (buffer : Bytes) : Type 0 where
  pub area : t.areas.stores.length ≤ most_lent
  pub long : length buffer ≡ most_lent

pub ready_first : Ready zero_table zero_stores
unfolding zero_table zero_stores
ready_first = record { area = omega arith; long = refl }

module _ (t : Table) (buffer : Bytes) (ready : Ready t buffer) where
  -- all of the store area is lent
  pub lent_whole : length (take t.areas.stores.length buffer) ≡ t.areas.stores.length
  lent_whole = let a = ready.area in let l = ready.long in simp length-take (omega arith)

  unlent : (c : Call) → (code c ≡ 0 → ⊥) → Ready (called t [] c).table buffer
  unlent c n = record { area = called_lends t [] c n ready.area; long = ready.long }

  pub ready_stays : (c : Call) → let o = bench_called t buffer c in Ready o.table o.stores
  unfolding bench_called
  ready_stays (start a b) = record { area = start_lends t a b ready.area; long = ready.long }
  ready_stays (allocate x n) =
      let lent = t.areas.stores.length in
      let e = called_length t (take lent buffer) x n in
      let w = lent_whole in
      let a = ready.area in
      let l = ready.long in
      record { area = called_lends t (take lent buffer) (allocate x n) (omega arith) ready.area; long = simp (length-append, length-drop) (omega arith) }
  ready_stays root = unlent root (omega arith)
  ready_stays (context_of x) = unlent (context_of x) (omega arith)
  ready_stays (set_context x s) = unlent (set_context x s) (omega arith)
  ready_stays (total_of s) = unlent (total_of s) (omega arith)
  ready_stays (used_of s) = unlent (used_of s) (omega arith)
  ready_stays (free_of s) = unlent (free_of s) (omega arith)
  ready_stays (find a) = unlent (find a) (omega arith)
  ready_stays (make_store x n) = unlent (make_store x n) (omega arith)
  ready_stays (clear x) = unlent (clear x) (omega arith)
  ready_stays (resize s n) = unlent (resize s n) (omega arith)
  ready_stays (make_stack n) = unlent (make_stack n) (omega arith)
  ready_stays (destroy_stack k) = unlent (destroy_stack k) (omega arith)
  ready_stays (add_thread x s) = unlent (add_thread x s) (omega arith)
  ready_stays (remove_thread x) = unlent (remove_thread x) (omega arith)
