-- Calls 12 and 13 meet 000's schemas: make stack, destroy stack. Assumes nothing.
use Rattle.std.specs.Prelude.{true, false, not, List, ◌≡◌, refl, ℕ, ◌+◌, ◌<◌, ◌≤◌, eqb}
use Rattle.std.proofs.Math.Logic.Iff
use Rattle.std.proofs.Common.{inl, inr, ⊎_elim, sym, ◌∙◌, ap, arith, ltb-true, eqb-true, ne_eqb}
use Rattle.std.proofs.Math.Decide.{dec_lt}
use Rattle.std.proofs.lemmas.Bool.{eqb-false}
use Rattle.lists.specs.Lists.{◌∈◌}
use Rattle.lists.specs.Keyed.{has, insert, remove}
use Rattle.lists.specs.Tests.{tested, never, and_iff, not_iff, not_false_iff, reflect}
use Rattle.lists.specs.ListLaws.{keep_member, member_keep}
use Rattle.lists.specs.KeyedChanges.{insert_member, member_insert, has_insert_iff, at_insert_new, at_insert_old, has_remove_iff, at_remove}
use Rattle.names.specs.Overhead.{stack_taken}
use Rattle.meaning.specs.Model.{Run, Stack, Model, Bytes, end, stack_run, stack_name, no_such_stack, stack_of}
use Rattle.meaning.specs.Reports.{touches_no_end}
use Rattle.meaning.specs.Facts.{◌ApartFrom◌, Sound}
use Rattle.meaning.specs.Changes.{shortened, joined, with_stacks}
use Rattle.meaning.specs.Calls.{make_stack, destroy_stack, checks, change, all_checks, step}
use Rattle.meaning.proofs.Laws.Step.{accepted_exact, step_accepted}
use Rattle.laws.specs.StackCalls.{touching, in_stacks, stack_named, stacks_apart, new_name}
use Rattle.laws.specs.EachCall.{change_sound}
use Rattle.schemas.specs.Memory.{◌≐◌, ◌apart◌, ◌∪◌, ◌∖◌, ⟨◌⟩, Contiguous, cells, run_contiguous, contiguous_run, ◌⊕◌⟼◌, ◌⩤◌, picked}
use Rattle.schemas.specs.Reports.{MMReport, number, number_names, number_most}
use Rattle.schemas.specs.Stacks.{SameStacks, StackCreate, StackDelete, RStackCreate, RStackDelete}
use Rattle.schemas.specs.Reading.{InStack, stacks_of, stack_found, stack_invariant}
use Rattle.schemas.specs.Steps.{checked, unchecked, told_sound, stacks_stay}

-- ---- runs

shortened_cells : (area r : Run) (n : ℕ) → n ≤ r.length → cells (shortened area r n) ≐ (cells r ∖ cells (record { start = r.start; length = n }))
shortened_cells area r n l a = elim (tested (eqb n r.length)) [
  | inl e ↦ let q = eqb-true n r.length e in rw e (λ h. absurd (omega arith), λ h. absurd (h.1 (omega arith)))
  | inr e ↦ rw e (
    λ h. omega arith,
    λ h. elim (dec_lt a (r.start + n)) [
      | yes b ↦ let i = h.0 in absurd (h.1 (omega arith))
      | no b ↦ let i = h.0 in omega arith
    ],
  )
]

-- a run and a stack that touches it are one run
joined_cells : (r k : Run) → touches_no_end r k ≡ false → cells (joined r k) ≐ (cells r ∪ cells k)
joined_cells r k h a = elim (tested (eqb r.length 0)) [
  | inl e ↦ let q = eqb-true r.length 0 e in rw e (λ i. inr i, λ i. ⊎_elim (λ j. absurd (omega arith)) (λ j. j) i)
  | inr e ↦ rw e (⊎_elim
      (λ q. (
        λ i. elim (dec_lt a r.start) [
          | yes b ↦ inr (omega arith)
          | no b ↦ inl (omega arith)
        ],
        λ u. ⊎_elim (λ j. omega arith) (λ j. omega arith) u,
      ))
      (λ q. (
        λ i. elim (dec_lt a k.start) [
          | yes b ↦ inl (omega arith)
          | no b ↦ inr (omega arith)
        ],
        λ u. ⊎_elim (λ j. omega arith) (λ j. omega arith) u,
      ))
      (touching r k h e))
]

-- a run and one behind it, with a gap between them, are not contiguous
gap : (low high : Run) → 0 < low.length → 0 < high.length → end low < high.start → {S : ℕ → Type 0} → S ≐ (cells low ∪ cells high) → Contiguous S → ⊥
gap low high p q l e c =
    let r = contiguous_run c in
    let a = (r.1 low.start).0 ((e low.start).1 (inl (omega arith))) in
    let b = (r.1 high.start).0 ((e high.start).1 (inr (omega arith))) in
    ⊎_elim (λ h. omega arith) (λ h. omega arith) ((e (end low)).0 ((r.1 (end low)).1 (omega arith)))

-- a run and a stack apart from it that touches neither end are not contiguous
not_joined : (r k : Run) → touches_no_end r k ≡ true → 0 < k.length → k ApartFrom r → Contiguous (cells r ∪ cells k) → ⊥
not_joined r k h p n c =
    let f = simp reflect at h in
    elim (dec_lt k.start r.start) [
      | yes l ↦ elim (dec_lt r.start (end k)) [
        | yes b ↦ n r.start (omega arith) (omega arith)
        | no b ↦ gap k r p (omega arith) (omega arith) (λ a. (λ u. ⊎_elim (λ i. inr i) (λ i. inl i) u, λ u. ⊎_elim (λ i. inr i) (λ i. inl i) u)) c
      ]
      | no l ↦ elim (dec_lt k.start (end r)) [
        | yes b ↦ n k.start (omega arith) (omega arith)
        | no b ↦ gap r k (omega arith) p (omega arith) (λ a. (λ u. u, λ u. u)) c
      ]
    ]

-- ---- the stacks after each call

module _ (m : Model) (sound : Sound m) where
  abbrev ks : List Stack
  ks = m.stacks

  module _ (n : ℕ) (room : stack_taken n ≤ m.free_run.length) where
    abbrev new : Stack
    new = record { start = m.free_run.start; total = stack_taken n }

    abbrev made : Model
    made = with_stacks m (insert stack_name new ks) (shortened m.stack_area m.free_run (stack_taken n))

    made_stacks : SameStacks ((stacks_of m).stacks ⊕ new.start ⟼ stack_run new) (stacks_of made).stacks
    made_stacks = (
      λ k. Iff.symm (has_insert_iff stack_name new ks k),
      λ k u. picked (λ r. cells (stack_run (stack_of (insert stack_name new ks) k)) ≐ cells r) k new.start
          (λ e. rw (e, at_insert_new stack_name no_such_stack new ks (new_name m sound n room)) (λ a. (λ i. i, λ i. i)))
          (λ d. rw (at_insert_old stack_name no_such_stack new ks k (λ e. d (sym e))) (λ a. (λ i. i, λ i. i))),
    )

    created : Sound made → StackCreate (stacks_of m) (stacks_of made) n new.start
    created after =
        let i = stack_invariant m sound in
        let j = stack_invariant made after in
        record {
          changes = record { before = i; after = j };
          new = λ h. never _ h (new_name m sound n room);
          allocated = stack_run new;
          allocates =
              inl (
                record {
                  changes = record { before = i.memory; after = j.memory };
                  room = room;
                  long = refl;
                  taken = λ a h. omega arith;
                  used = λ a. (
                    λ x. ⊎_elim (λ q. inr (rw q at x.2)) (λ k. inl (x.0, k, x.2)) (insert_member stack_name new ks x.1),
                    λ u. ⊎_elim (λ x. (x.0, member_insert stack_name new ks (inr x.1), x.2)) (λ h. (new, member_insert stack_name new ks (inl refl), h)) u,
                  );
                  free = shortened_cells m.stack_area m.free_run (stack_taken n) room;
                  total = λ a. (λ h. h, λ h. h);
                },
                refl,
              );
          stacks = made_stacks;
        }

  module _ (k : ℕ) (listed : has stack_name m.stacks k ≡ true) where
    abbrev gone : Stack
    gone = stack_of ks k

    abbrev left : Model
    left = with_stacks m (remove stack_name k ks) (joined m.free_run (stack_run gone))

    -- a stack of another name shares no address with the one that goes
    others_apart : (x : Stack) → x ∈ ks → (x.start ≡ k → ⊥) → cells (stack_run x) apart cells (stack_run gone)
    others_apart x i d = stacks_apart m sound i (in_stacks ks k listed) (λ e. d (e ∙ stack_named ks k))

    left_used : InStack (remove stack_name k ks) ≐ (InStack ks ∖ cells (stack_run gone))
    left_used a = (
      λ x. let o = keep_member (λ y. not (eqb y.start k)) ks x.1 in
          ((x.0, o.0, x.2), others_apart x.0 o.0 (eqb-false _ k ((not_iff _).0 o.1)) a x.2),
      λ u. let x = u.0 in
          let other : x.0.start ≡ k → ⊥ = λ e. u.1 (rw (← stack_found m sound x.1, e) at x.2) in
          (x.0, member_keep (λ y. not (eqb y.start k)) ks x.1 ((not_iff _).1 (ne_eqb _ k other)), x.2),
    )

    left_stacks : SameStacks (⟨ k ⟩ ⩤ (stacks_of m).stacks) (stacks_of left).stacks
    left_stacks = (
      λ j. Iff.symm (has_remove_iff stack_name k ks j),
      λ j u. rw (at_remove stack_name no_such_stack k ks j u.1) (λ a. (λ i. i, λ i. i)),
    )

    deleted : touches_no_end m.free_run (stack_run gone) ≡ false → Sound left → StackDelete (stacks_of m) (stacks_of left) k
    deleted touches after =
        let cover = joined_cells m.free_run (stack_run gone) touches in
        let run = run_contiguous (joined m.free_run (stack_run gone)) in
        record {
          changes = record { before = stack_invariant m sound; after = stack_invariant left after };
          there = listed;
          used = left_used;
          free = cover;
          whole = (run.0, run.1, λ a. (λ u. (run.2 a).0 ((cover a).1 u), λ h. (cover a).0 ((run.2 a).1 h)));
          stacks = left_stacks;
          total = λ a. (λ h. h, λ h. h);
        }

-- ---- the calls

pub make_stack_meets : (m : Model) (bs : Bytes) (n : ℕ) (r : MMReport) → (step m bs (make_stack n)).report ≡ number r
    → RStackCreate (stacks_of m) (stacks_of (step m bs (make_stack n)).model) n (step m bs (make_stack n)).value r
unfolding checks change all_checks
make_stack_meets m bs n r h =
    let c = make_stack n in
    let o = told_sound m bs c r (omega arith) h in
    ⊎_elim
    (λ a. let f = simp reflect at ((accepted_exact m bs c).0 a.1) in
    inl (rw (step_accepted m bs c a.1) (created m o.0 n f.1.0 (change_sound m bs c a.1)), a.0))
    (λ a. inr (⊎_elim
    (λ x. let s = stacks_stay o.0 a.0 in
    record {
      stays = s;
      allocated = m.free_run;
      allocates =
          inr (record {
            stays = record { changes = record { before = s.changes.before.memory; after = s.changes.after.memory }; same = s.block };
            more = ltb-true m.free_run.length (stack_taken n) x.0;
            told = number_names x.1;
          });
      failed = λ e. omega (arith, x.1, ap number e);
    })
    (λ x. ⊎_elim (λ y. let l = number_most r in absurd (omega (arith, y.1))) (λ y. absurd (unchecked refl y.1)) (checked x.1))
    (checked a.1)))
    o.1

pub destroy_stack_meets : (m : Model) (bs : Bytes) (k : ℕ) (r : MMReport) → (step m bs (destroy_stack k)).report ≡ number r
    → RStackDelete (stacks_of m) (stacks_of (step m bs (destroy_stack k)).model) k r
unfolding checks change all_checks
destroy_stack_meets m bs k r h =
    let c = destroy_stack k in
    let o = told_sound m bs c r (omega arith) h in
    ⊎_elim
    (λ a. let f = simp (and_iff, not_iff, not_false_iff) at ((accepted_exact m bs c).0 a.1) in
    inl (rw (step_accepted m bs c a.1) (deleted m o.0 k f.1.0 f.1.1.0 (change_sound m bs c a.1)), a.0))
    (λ a. inr (⊎_elim
    (λ x. inl (record { stays = stacks_stay o.0 a.0; missing = λ i. never _ i ((not_iff _).0 x.0); told = number_names x.1 }))
    (λ x. let listed = (not_false_iff _).0 x.0 in
    inr (⊎_elim
    (λ y. let i = in_stacks m.stacks k listed in
    let least = o.0.rule6.least (stack_of m.stacks k) i in
    record {
      stays = stacks_stay o.0 a.0;
      there = listed;
      parted = not_joined m.free_run _ y.0 (omega arith) (o.0.rule6.taken (stack_of m.stacks k) i);
      told = number_names y.1;
    })
    (λ y. absurd (unchecked refl y.1))
    (checked x.1)))
    (checked a.1)))
    o.1
