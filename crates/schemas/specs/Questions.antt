-- Calls 1, 2 and 4 to 7 meet 000's schemas: root, context, the three sizes, find. Assumes nothing.
use Rattle.std.specs.Prelude.{[], ◌∷◌, ◌⊎◌, ◌≡◌, ℕ}
use Rattle.std.proofs.Math.Logic.{inl, inr, ⊎_elim}
use Rattle.std.proofs.Math.Path.{refl}
use Rattle.std.proofs.Common.{sym, arith}
use Rattle.std.proofs.Math.Decide.{ℕ_discrete}
use Rattle.lists.specs.Tests.{never, not_iff, reflect}
use Rattle.lists.specs.KeyedLaws.{member_has, member_at}
use Rattle.meaning.specs.Model.{Model, Bytes, used_part, store_name, no_such_store, store_of}
use Rattle.meaning.specs.Facts.{Sound}
use Rattle.meaning.specs.Reports.{no_store, ◌when◌}
use Rattle.meaning.specs.Calls.{Call, root, context_of, total_of, used_of, free_of, find, code, checks, change, all_checks, step}
use Rattle.meaning.proofs.Laws.Agree.{holds_iff}
use Rattle.meaning.proofs.Laws.Step.{accepted_exact, accepted_sound, step_accepted, question_keeps_model}
use Rattle.meaning.proofs.Laws.Find.{find_right}
use Rattle.laws.specs.Nesting.{nested_transitive, never_in_itself}
use Rattle.laws.specs.Depth.{find_deepest}
use Rattle.schemas.specs.Memory.{run_counts}
use Rattle.schemas.specs.Reports.{MMReport, number, number_names, Success}
use Rattle.schemas.specs.Blocks.{Block, ΞMemoryBlock, MBGetTotalSize, MBGetUsedSize, MBGetFreeSize}
use Rattle.schemas.specs.Stores.{ΞBackingStore}
use Rattle.schemas.specs.Global.{Furthest, Promoted, GlobalFindAddress, GlobalNonexistentBS, RGlobalGetRootBackingStore, RGlobalFindAddress, RGlobalGetTotalSize, RGlobalGetUsedSize, RGlobalGetFreeSize}
use Rattle.schemas.specs.Threads.{RThreadGetAC}
use Rattle.schemas.specs.Reading.{block_of, global_of, store_invariant, plus_nested, nested_plus}
use Rattle.schemas.specs.Steps.{checked, unchecked, told_sound, store_stays, block_stays, global_stays, asked, no_store_lem, no_thread_lem}

-- ---- call 1

pub root_meets : (m : Model) (bs : Bytes) (r : MMReport) → (step m bs root).report ≡ number r
    → RGlobalGetRootBackingStore (global_of m) (global_of (step m bs root).model) (step m bs root).value r
unfolding checks change
root_meets m bs r h =
    let t = told_sound m bs root r (omega arith) h in
    ⊎_elim
    (λ a. rw (step_accepted m bs root a.1) (record { stays = global_stays t.0 refl; root = refl }, a.0))
    (λ a. absurd (unchecked refl a.1))
    t.1

-- ---- call 2

pub context_meets : (m : Model) (bs : Bytes) (t : ℕ) (r : MMReport) → (step m bs (context_of t)).report ≡ number r
    → RThreadGetAC (global_of m) (global_of (step m bs (context_of t)).model) t (step m bs (context_of t)).value r
unfolding checks change all_checks
context_meets m bs t r h =
    let c = context_of t in
    let o = told_sound m bs c r (omega arith) h in
    ⊎_elim
    (λ a. let f = simp reflect at ((accepted_exact m bs c).0 a.1) in
    inl (rw (step_accepted m bs c a.1) (record { stays = global_stays o.0 refl; known = f.1.0; context = refl }), a.0))
    (λ a. inr (⊎_elim (λ x. no_thread_lem o.0 a.0 ((not_iff _).0 x.0) x.1) (λ x. absurd (unchecked refl x.1)) (checked a.1)))
    o.1

-- ---- calls 4 to 6

-- a call that refuses a store that is not listed, and else answers a question of the store's block
module _ (m : Model) (bs : Bytes) (s : ℕ) (r : MMReport) (c : Call) (ask : Block → Block → ℕ → Type 0) (n : code c ≡ 0 → ⊥)
    (row : checks m bs c ≡ (5 when no_store m s ∷ [])) (same : (change m bs c).model ≡ m) where
  abbrev block : Block
  block = block_of (store_of m.stores s)

  size_meets : (ΞMemoryBlock block block → ask block block (change m bs c).value) → (step m bs c).report ≡ number r
      → (Promoted (λ b b'. (ask b.block b'.block (step m bs c).value × ΞBackingStore b b') × Success r) (global_of m) (global_of (step m bs c).model) s × Success r)
      ⊎ GlobalNonexistentBS (global_of m) (global_of (step m bs c).model) s r
  unfolding all_checks
  size_meets answers h =
      let o = told_sound m bs c r n h in
      ⊎_elim
      (λ a. let f = simp reflect at (rw row at ((accepted_exact m bs c).0 a.1)) in
      let x = store_stays _ (store_invariant m o.0 s f.1.0) in
      inl (rw (step_accepted m bs c a.1, same) (asked m o.0 s f.1.0 _ ((answers (block_stays x), x), a.0)), a.0))
      (λ a. inr (⊎_elim (λ x. no_store_lem o.0 a.0 ((not_iff _).0 x.0) x.1) (λ x. absurd (unchecked refl x.1)) (checked (rw row at a.1))))
      o.1

module _ (m : Model) (bs : Bytes) (s : ℕ) (r : MMReport) where
  pub total_meets : (step m bs (total_of s)).report ≡ number r
      → RGlobalGetTotalSize (global_of m) (global_of (step m bs (total_of s)).model) s (step m bs (total_of s)).value r
  unfolding checks change
  total_meets h = size_meets m bs s r (total_of s) MBGetTotalSize (omega arith) refl refl (λ x. record { stays = x; total = refl }) h

  pub used_meets : (step m bs (used_of s)).report ≡ number r
      → RGlobalGetUsedSize (global_of m) (global_of (step m bs (used_of s)).model) s (step m bs (used_of s)).value r
  unfolding checks change
  used_meets h =
      let counted = run_counts (used_part (store_of m.stores s)) (λ y. (λ i. i, λ i. i)) in
      size_meets m bs s r (used_of s) MBGetUsedSize (omega arith) refl refl (λ x. record { stays = x; used = counted }) h

  pub free_meets : (step m bs (free_of s)).report ≡ number r
      → RGlobalGetFreeSize (global_of m) (global_of (step m bs (free_of s)).model) s (step m bs (free_of s)).value r
  unfolding checks change
  free_meets h = size_meets m bs s r (free_of s) MBGetFreeSize (omega arith) refl refl (λ x. record { stays = x; free = refl }) h

-- ---- call 7

module _ (m : Model) (bs : Bytes) (a : ℕ) (ok : (step m bs (find a)).report ≡ 0) where
  abbrev answer : ℕ
  answer = (step m bs (find a)).value

  is_sound : Sound m
  is_sound = accepted_sound m bs (find a) (omega arith) ok

  -- the answer contains the address, and every containing store leads to it
  answer_furthest : Furthest (global_of m) a answer
  answer_furthest =
      let ss = m.stores in
      let f = find_right m bs a ok in
      let line : store_of ss f.store.start ≡ f.store = member_at store_name no_such_store ss is_sound.rule3.rises f.listed in (
        rw (← f.named) (member_has store_name ss f.listed, rw line f.covers),
        λ x c. elim (ℕ_discrete answer x) [
          | yes e ↦ inl e
          | no d ↦ inr (nested_plus ss (find_deepest m bs a ok x c.0 c.1 (λ e. d (sym e))))
        ],
      )

  answer_alone : (s : ℕ) → Furthest (global_of m) a s → s ≡ answer
  answer_alone s f = elim (ℕ_discrete s answer) [
    | yes e ↦ e
    | no d ↦ ⊎_elim (λ e. e)
        (λ p. absurd (never_in_itself m is_sound (nested_transitive m.stores (plus_nested m.stores p) (find_deepest m bs a ok s f.0.0 f.0.1 d))))
        (f.1 answer answer_furthest.0)
  ]

  found : GlobalFindAddress (global_of m) (global_of (step m bs (find a)).model) a answer
  unfolding all_checks checks
  found =
      let f = simp (reflect, holds_iff) at ((accepted_exact m bs (find a)).0 ok) in
      record { stays = global_stays is_sound (question_keeps_model m bs (find a) refl); covered = f.1.0; furthest = answer_furthest; alone = answer_alone }

pub find_meets : (m : Model) (bs : Bytes) (a : ℕ) (r : MMReport) → (step m bs (find a)).report ≡ number r
    → RGlobalFindAddress (global_of m) (global_of (step m bs (find a)).model) a (step m bs (find a)).value r
unfolding checks
find_meets m bs a r h =
    let o = told_sound m bs (find a) r (omega arith) h in
    ⊎_elim
    (λ k. inl (found m bs a k.1, k.0))
    (λ k. inr (⊎_elim
    (λ x. record {
      stays = global_stays o.0 k.0;
      outside = λ i. never _ ((holds_iff _ a).1 i) ((not_iff _).0 x.0);
      told = number_names x.1;
    })
    (λ x. absurd (unchecked refl x.1))
    (checked k.1)))
    o.1
