-- The promises leave one answer only: what is handed back is the call on the table, and nothing else meets the promise. Assumes nothing.
use Rattle.std.specs.Prelude.{Bool, true, false, not, ◌&&◌, ◌≡◌, refl, ℕ, eqb, get_or, if◌then◌else◌}
use mathlib.Core.List.{List, [], ◌∷◌}
use Rattle.std.proofs.Common.{inl, inr, ◌∙◌, ap}
use Rattle.std.proofs.Math.Path.{sym}
use Rattle.lists.specs.Tests.{tested}
use Rattle.names.specs.declared.report.Report.{Report}
use Rattle.names.specs.declared.report.Report.TheVariants.{Accepted, OutOfMemory, NotEmpty, SizeTooSmall, NoSuchStore, StoreInUse, RootResize, NotOnlyChild, UnknownAddress, NoSuchStack, CannotShrink, NoThreadContext, Fragmentation, TableFull, BadArea, UnsoundTable}
use Rattle.names.specs.Numbers.{number_of}
use Rattle.meaning.specs.Model.{Model, Bytes}
use Rattle.meaning.specs.Reports.{Check, first_report}
use Rattle.meaning.specs.Calls.{Call, start, root, context_of, set_context, total_of, used_of, free_of, find, allocate, make_store, clear, resize, make_stack, destroy_stack, add_thread, remove_thread, code, accepted, checks, change, all_checks, decide, step}
use Rattle.table.specs.declared.Table.{Table}
use Rattle.table.specs.Table.{reading, sound_table}
use Rattle.table.specs.Calls.{Called, unsound, settled, called}
use Rattle.promises.specs.Handed.{Given, in_numbers, ByAnswer, Handed}

-- a report by its number
unfoldable pub report_of : ℕ → Report
report_of n = get_or (Accepted ∷ OutOfMemory ∷ NotEmpty ∷ Accepted ∷ SizeTooSmall ∷ NoSuchStore ∷ StoreInUse ∷ RootResize ∷ NotOnlyChild ∷ UnknownAddress ∷ NoSuchStack ∷ CannotShrink ∷ NoThreadContext ∷ Fragmentation ∷ TableFull ∷ BadArea ∷ UnsoundTable ∷ []) n Accepted

same_report : (r : Report) → report_of (number_of r) ≡ r
unfolding report_of
same_report Accepted = refl
same_report OutOfMemory = refl
same_report NotEmpty = refl
same_report SizeTooSmall = refl
same_report NoSuchStore = refl
same_report StoreInUse = refl
same_report RootResize = refl
same_report NotOnlyChild = refl
same_report UnknownAddress = refl
same_report NoSuchStack = refl
same_report CannotShrink = refl
same_report NoThreadContext = refl
same_report Fragmentation = refl
same_report TableFull = refl
same_report BadArea = refl
same_report UnsoundTable = refl

-- what was lent plays no part in a call that is lent nothing
abbrev LentNothing : Table → Bytes → Call → Type 0
LentNothing t bs c =
    let o = called t [] c in
    called t bs c ≡ record { table = o.table; report = o.report; value = o.value; steps = 0; bytes = bs }

settled_same : (t : Table) (b : Bool) (ks : List Check) (v : ℕ) (m : Model) (bs : Bytes) →
    let o = if b then unsound t [] else settled t (decide ks (reading t) [] (accepted v m [])) in
    (if b then unsound t bs else settled t (decide ks (reading t) bs (accepted v m bs)))
    ≡ record { table = o.table; report = o.report; value = o.value; steps = 0; bytes = bs }
settled_same t true ks v m bs = refl
settled_same t false ks v m bs = elim (tested (eqb (first_report ks) 0)) [
  | inl e ↦ rw e
  | inr e ↦ rw e
]

found_same : (t : Table) (b : Bool) (ks : List Check) (v k : ℕ) (bs : Bytes) →
    let o = if b then unsound t [] else settled t (decide ks (reading t) [] (record { report = 0; value = v; steps = k; model = reading t; bytes = [] })) in
    (if b then unsound t bs else settled t (decide ks (reading t) bs (record { report = 0; value = v; steps = k; model = reading t; bytes = bs })))
    ≡ record { table = o.table; report = o.report; value = o.value; steps = o.steps; bytes = bs }
found_same t true ks v k bs = refl
found_same t false ks v k bs = elim (tested (eqb (first_report ks) 0)) [
  | inl e ↦ rw e
  | inr e ↦ rw e
]

no_steps : (t : Table) (b : Bool) (ks : List Check) (v : ℕ) (m : Model) (bs after : Bytes) →
    (if b then unsound t bs else settled t (decide ks (reading t) bs (accepted v m after))).steps ≡ 0
no_steps t true ks v m bs after = refl
no_steps t false ks v m bs after = elim (tested (eqb (first_report ks) 0)) [
  | inl e ↦ rw e
  | inr e ↦ rw e
]

module _ (t : Table) (bs : Bytes) where
  -- the table is asked, and is not sound
  abbrev pub forged : Call → Bool
  forged c = not (eqb (code c) 0) && not (sound_table t)

  by_answer : (c : Call) (g : Given) → LentNothing t bs c → ByAnswer t bs c g → in_numbers g ≡ called t bs c
  by_answer c g same p =
      let given : in_numbers g ≡ record { table = (called t [] c).table; report = (called t [] c).report; value = (called t [] c).value; steps = 0; bytes = bs } =
      λ i. record { table = (p.told i).table; report = (p.told i).report; value = (p.told i).value; steps = p.steps i; bytes = p.bytes i } in
      given ∙ sym same

  -- What the method of a call hands back is the call on the table.
  pub handed_called : (c : Call) (g : Given) → Handed t bs c g → in_numbers g ≡ called t bs c
  unfolding called step all_checks checks change
  handed_called (start a b) g h = by_answer (start a b) g (settled_same t (forged (start a b)) (all_checks (reading t) bs (start a b)) (change (reading t) bs (start a b)).value (change (reading t) bs (start a b)).model bs) h
  handed_called root g h = by_answer root g (settled_same t (forged root) (all_checks (reading t) bs root) (change (reading t) bs root).value (change (reading t) bs root).model bs) h
  handed_called (context_of x) g h = by_answer (context_of x) g (settled_same t (forged (context_of x)) (all_checks (reading t) bs (context_of x)) (change (reading t) bs (context_of x)).value (change (reading t) bs (context_of x)).model bs) h
  handed_called (set_context x s) g h = by_answer (set_context x s) g (settled_same t (forged (set_context x s)) (all_checks (reading t) bs (set_context x s)) (change (reading t) bs (set_context x s)).value (change (reading t) bs (set_context x s)).model bs) h
  handed_called (total_of s) g h = by_answer (total_of s) g (settled_same t (forged (total_of s)) (all_checks (reading t) bs (total_of s)) (change (reading t) bs (total_of s)).value (change (reading t) bs (total_of s)).model bs) h
  handed_called (used_of s) g h = by_answer (used_of s) g (settled_same t (forged (used_of s)) (all_checks (reading t) bs (used_of s)) (change (reading t) bs (used_of s)).value (change (reading t) bs (used_of s)).model bs) h
  handed_called (free_of s) g h = by_answer (free_of s) g (settled_same t (forged (free_of s)) (all_checks (reading t) bs (free_of s)) (change (reading t) bs (free_of s)).value (change (reading t) bs (free_of s)).model bs) h
  handed_called (find a) g h =
      let o = called t [] (find a) in
      let given : in_numbers g ≡ record { table = o.table; report = o.report; value = o.value; steps = o.steps; bytes = bs } =
      λ i. record { table = (h.told i).table; report = (h.told i).report; value = (h.told i).value; steps = (h.told i).steps; bytes = h.bytes i } in
      given ∙ sym (found_same t (forged (find a)) (all_checks (reading t) bs (find a)) _ _ bs)
  handed_called (allocate x n) g h =
      let none = sym (no_steps t (forged (allocate x n)) (all_checks (reading t) bs (allocate x n)) _ _ bs _) in
      λ i. record { table = (h.told i).table; report = (h.told i).report; value = (h.told i).value; steps = (h.steps ∙ none) i; bytes = h.bytes i }
  handed_called (make_store x n) g h = by_answer (make_store x n) g (settled_same t (forged (make_store x n)) (all_checks (reading t) bs (make_store x n)) (change (reading t) bs (make_store x n)).value (change (reading t) bs (make_store x n)).model bs) h
  handed_called (clear x) g h = by_answer (clear x) g (settled_same t (forged (clear x)) (all_checks (reading t) bs (clear x)) (change (reading t) bs (clear x)).value (change (reading t) bs (clear x)).model bs) h
  handed_called (resize s n) g h = by_answer (resize s n) g (settled_same t (forged (resize s n)) (all_checks (reading t) bs (resize s n)) (change (reading t) bs (resize s n)).value (change (reading t) bs (resize s n)).model bs) h
  handed_called (make_stack n) g h = by_answer (make_stack n) g (settled_same t (forged (make_stack n)) (all_checks (reading t) bs (make_stack n)) (change (reading t) bs (make_stack n)).value (change (reading t) bs (make_stack n)).model bs) h
  handed_called (destroy_stack k) g h = by_answer (destroy_stack k) g (settled_same t (forged (destroy_stack k)) (all_checks (reading t) bs (destroy_stack k)) (change (reading t) bs (destroy_stack k)).value (change (reading t) bs (destroy_stack k)).model bs) h
  handed_called (add_thread x s) g h = by_answer (add_thread x s) g (settled_same t (forged (add_thread x s)) (all_checks (reading t) bs (add_thread x s)) (change (reading t) bs (add_thread x s)).value (change (reading t) bs (add_thread x s)).model bs) h
  handed_called (remove_thread x) g h = by_answer (remove_thread x) g (settled_same t (forged (remove_thread x)) (all_checks (reading t) bs (remove_thread x)) (change (reading t) bs (remove_thread x)).value (change (reading t) bs (remove_thread x)).model bs) h

  abbrev of_numbers : Called → Given
  of_numbers o = record { table = o.table; report = report_of o.report; value = o.value; steps = o.steps; bytes = o.bytes }

  same_given : (g : Given) → of_numbers (in_numbers g) ≡ g
  same_given g = λ i. record { table = g.table; report = same_report g.report i; value = g.value; steps = g.steps; bytes = g.bytes }

  -- So there is one answer only.
  pub one_answer : (c : Call) (g h : Given) → Handed t bs c g → Handed t bs c h → g ≡ h
  one_answer c g h p q = sym (same_given g) ∙ ap of_numbers (handed_called c g p ∙ sym (handed_called c h q)) ∙ same_given h
