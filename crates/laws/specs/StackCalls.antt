-- Calls 12 and 13 keep a model sound: only rules 6 and 7 speak of stacks and the free run. Assumes nothing.
use Rattle.std.specs.Prelude.{true, false, List, ◌⊎◌, ◌≡◌, refl, ℕ, ◌+◌, ◌≤◌, ◌<◌, eqb}
use Rattle.std.proofs.Common.{inl, inr, ⊎_elim, sym, ◌∙◌, arith, eqb-true}
use Rattle.std.proofs.Math.Decide.{dec_lt}
use Rattle.std.proofs.lemmas.Bool.{eqb-false, not-true, not-false}
use Rattle.lists.specs.Lists.{◌∈◌}
use Rattle.lists.specs.Keyed.{has, insert, remove}
use Rattle.lists.specs.Tests.{tested, false_of, unless_iff}
use Rattle.lists.specs.ListLaws.{keep_member}
use Rattle.lists.specs.ListChanges.{two_keep}
use Rattle.lists.specs.KeyedLaws.{has_member, at_member, at_key, two_by_key}
use Rattle.lists.specs.KeyedChanges.{insert_member, sum_insert, two_insert, rising_insert, sum_remove}
use Rattle.names.specs.Overhead.{stack_taken}
use Rattle.meaning.specs.Model.{Run, Stack, Model, end, stack_run, stack_name, no_such_stack, stack_of}
use Rattle.meaning.specs.Reports.{touches_no_end}
use Rattle.meaning.specs.Facts.{◌Holds◌, ◌Inside◌, ◌ApartFrom◌, Sound}
use Rattle.meaning.specs.Changes.{shortened, joined, with_stacks}
use Rattle.laws.specs.Frames.{sound_with_stacks}

-- ---- the free run of the two calls

-- what is left of a run lies behind what was taken
shortened_holds : (area r : Run) (n a : ℕ) → n ≤ r.length → shortened area r n Holds a → (r.start + n ≤ a) × (a < end r)
shortened_holds area r n a l h = elim (tested (eqb n r.length)) [
  | inl e ↦ let q = eqb-true n r.length e in absurd (omega arith)
  | inr e ↦ let i = rw e at h in omega arith
]

shortened_inside : (area r : Run) (n : ℕ) → n ≤ r.length → r Inside area → shortened area r n Inside area
shortened_inside area r n l h = elim (tested (eqb n r.length)) [
  | inl e ↦ let q = eqb-true n r.length e in rw e (omega arith)
  | inr e ↦ rw e (omega arith)
]

shortened_empty : (area r : Run) (n : ℕ) → n ≤ r.length → (shortened area r n).length ≡ 0 → (shortened area r n).start ≡ end area
shortened_empty area r n l h = elim (tested (eqb n r.length)) [
  | inl e ↦ rw e
  | inr e ↦ let q = eqb-false n r.length e in absurd (q (omega arith))
]

-- a run that is not empty and the bytes of a stack that may join it touch
pub touching : (r k : Run) → touches_no_end r k ≡ false → eqb r.length 0 ≡ false → (end k ≡ r.start) ⊎ (end r ≡ k.start)
touching r k h e = elim (tested (eqb (end k) r.start)) [
  | inl f ↦ inl (eqb-true (end k) r.start f)
  | inr f ↦ inr (eqb-true (end r) k.start ((unless_iff (eqb (end k) r.start) (eqb (end r) k.start)).0 (not-false _ (rw e at h)) f))
]

-- joined, they hold only what one of them holds
joined_holds : (r k : Run) (a : ℕ) → touches_no_end r k ≡ false → joined r k Holds a → (r Holds a → ⊥) → k Holds a
joined_holds r k a h i out = elim (tested (eqb r.length 0)) [
  | inl e ↦ rw e at i
  | inr e ↦ let j = rw e at i in ⊎_elim
      (λ t. elim (dec_lt a r.start) [
        | yes b ↦ omega arith
        | no b ↦ absurd (out (omega arith))
      ])
      (λ t. elim (dec_lt a k.start) [
        | yes b ↦ absurd (out (omega arith))
        | no b ↦ omega arith
      ])
      (touching r k h e)
]

joined_inside : (area r k : Run) → touches_no_end r k ≡ false → r Inside area → k Inside area → joined r k Inside area
joined_inside area r k h i j = elim (tested (eqb r.length 0)) [
  | inl e ↦ rw e j
  | inr e ↦ rw e (⊎_elim (λ t. omega arith) (λ t. omega arith) (touching r k h e))
]

joined_length : (r k : Run) → (joined r k).length ≡ r.length + k.length
joined_length r k = elim (tested (eqb r.length 0)) [
  | inl e ↦ let q = eqb-true r.length 0 e in rw e (omega arith)
  | inr e ↦ rw e
]

apart_swap : (r s : Run) → r ApartFrom s → s ApartFrom r
apart_swap r s h a i j = h a j i

-- a listed stack stands in the list; what is looked up by a name has it
pub in_stacks : (ks : List Stack) (k : ℕ) → has stack_name ks k ≡ true → stack_of ks k ∈ ks
in_stacks ks k h = at_member stack_name no_such_stack ks k h

pub stack_named : (ks : List Stack) (k : ℕ) → (stack_of ks k).start ≡ k
stack_named ks k = at_key stack_name no_such_stack (λ x. refl) ks k

module _ (m : Model) (sound : Sound m) where
  abbrev ks : List Stack
  ks = m.stacks

  -- two stacks of different names share no address
  pub stacks_apart : {k l : Stack} → k ∈ ks → l ∈ ks → (k.start ≡ l.start → ⊥) → stack_run k ApartFrom stack_run l
  stacks_apart {k} {l} i j d = elim (dec_lt k.start l.start) [
    | yes b ↦ two_by_key stack_name _ ks sound.rule6.rises sound.rule6.apart i j b
    | no b ↦ apart_swap (stack_run l) (stack_run k) (two_by_key stack_name _ ks sound.rule6.rises sound.rule6.apart j i (omega arith))
  ]

  -- ---- call 12

  module _ (n : ℕ) (room : stack_taken n ≤ m.free_run.length) where
    abbrev new : Stack
    new = record { start = m.free_run.start; total = stack_taken n }

    pub new_name : has stack_name ks new.start ≡ false
    new_name =
        false_of _
        (λ h. let x = has_member stack_name ks new.start h in
        let l = sound.rule6.least x.0 x.1 in
        sound.rule6.taken x.0 x.1 new.start (omega (arith, x.2)) (omega arith))

    new_apart : (k : Stack) → k ∈ ks → stack_run k ApartFrom stack_run new
    new_apart k i a h j = sound.rule6.taken k i a h (omega arith)

    pub make_stack_sound : Sound (with_stacks m (insert stack_name new ks) (shortened m.stack_area m.free_run (stack_taken n)))
    make_stack_sound =
        sound_with_stacks m sound _ _
        (record {
          rises = rising_insert stack_name new ks sound.rule6.rises new_name;
          least = λ k i. ⊎_elim (λ q. rw q (omega arith)) (sound.rule6.least k) (insert_member stack_name new ks i);
          inside = λ k i. ⊎_elim (λ q. let r = sound.rule7.inside in rw q (omega arith)) (sound.rule6.inside k) (insert_member stack_name new ks i);
          taken = λ k i. ⊎_elim
              (λ q. rw q (λ a h j. let s = shortened_holds m.stack_area m.free_run (stack_taken n) a room j in omega arith))
              (λ o a h j. let s = shortened_holds m.stack_area m.free_run (stack_taken n) a room j in sound.rule6.taken k o a h (omega arith))
              (insert_member stack_name new ks i);
          apart = two_insert stack_name _ new ks sound.rule6.rises (λ k i b. apart_swap (stack_run k) (stack_run new) (new_apart k i)) (λ k i b. new_apart k i) sound.rule6.apart;
        })
        (record {
          inside = shortened_inside m.stack_area m.free_run (stack_taken n) room sound.rule7.inside;
          makes = let s = sum_insert stack_name (λ k. k.total) new ks in let o = sound.rule7.makes in omega arith;
          empty = shortened_empty m.stack_area m.free_run (stack_taken n) room;
        })

  -- ---- call 13

  module _ (k : ℕ) (there : has stack_name ks k ≡ true) (touches : touches_no_end m.free_run (stack_run (stack_of ks k)) ≡ false) where
    abbrev gone : Stack
    gone = stack_of ks k

    -- a stack that stays is another than the one that goes
    other : {x : Stack} → x ∈ remove stack_name k ks → (x ∈ ks) × (gone.start ≡ x.start → ⊥)
    other {x} i =
        let o = keep_member _ ks i in
        let d = eqb-false x.start k (not-true _ o.1) in
        (o.0, λ e. d (sym e ∙ stack_named ks k))

    pub destroy_stack_sound : Sound (with_stacks m (remove stack_name k ks) (joined m.free_run (stack_run gone)))
    destroy_stack_sound =
        let here = in_stacks ks k there in
        let long = sound.rule6.least gone here in
        let sums = joined_length m.free_run (stack_run gone) in
        sound_with_stacks m sound _ _
        (record {
          rises = two_keep _ _ ks sound.rule6.rises;
          least = λ x i. sound.rule6.least x (other i).0;
          inside = λ x i. sound.rule6.inside x (other i).0;
          taken = λ x i a h j. let o = other i in
              stacks_apart here o.0 o.1 a (joined_holds m.free_run (stack_run gone) a touches j (sound.rule6.taken x o.0 a h)) h;
          apart = two_keep _ _ ks sound.rule6.apart;
        })
        (record {
          inside = joined_inside m.stack_area m.free_run (stack_run gone) touches sound.rule7.inside (sound.rule6.inside gone here);
          makes = let s = sum_remove stack_name no_such_stack (λ x. x.total) ks k sound.rule6.rises there in let o = sound.rule7.makes in omega arith;
          empty = λ e. absurd (omega arith);
        })
