-- Call 0 meets 000's two initialisations. Assumes nothing.
use Rattle.std.specs.Prelude.{false, List, ◌⊎◌, ◌≡◌, refl, ℕ}
use mathlib.Core.List.Memᴰ.{eq_of_singleton as only}
use mathlib.Core.List.Memᴰ.{not-nil as nowhere}
use Rattle.std.proofs.Common.{inl, inr, ⊎_elim, sym, ◌∙◌, ap, arith, ltb-true, eq-eqb}
use Rattle.lists.specs.Tests.{never}
use Rattle.lists.specs.KeyedLaws.{has_member}
use Rattle.meaning.specs.Model.{Run, Store, Model, Bytes, store_name, store_of}
use Rattle.meaning.specs.Facts.{Sound}
use Rattle.meaning.specs.Changes.{started}
use Rattle.meaning.specs.Calls.{start, checks, change, all_checks, step}
use Rattle.meaning.proofs.Laws.Step.{step_accepted}
use Rattle.laws.specs.ByName.{Listed, by_name}
use Rattle.laws.specs.EachCall.{change_sound}
use Rattle.schemas.specs.Reports.{MMReport, MMokay, number, number_names, number_most}
use Rattle.schemas.specs.Stores.{Backing, BackingStore, BackingStoreInit, BSSizeTooSmall}
use Rattle.schemas.specs.Global.{RGlobalMemoryManagerInit}
use Rattle.schemas.specs.Stacks.{StackMemoryManagerInit}
use Rattle.schemas.specs.Reading.{backing_of, global_of, stacks_of, store_invariant, global_invariant, stack_invariant}
use Rattle.schemas.specs.Steps.{checked, unchecked, told, same_store, store_stays}

module _ (m : Model) (a b : Run) (sound : Sound (started m a b)) where
  abbrev ss : List Store
  ss = (started m a b).stores

  only_listed : (k : ℕ) → Listed ss k → k ≡ a.start
  only_listed k h = let x = has_member store_name ss k h in sym x.2 ∙ ap store_name (only x.1)

  -- BackingStoreInit, of the root
  root_init : BackingStoreInit (backing_of ss a.start) a
  root_init =
      let line : store_of ss a.start ≡ record { start = a.start; total = a.length; used = 0; parent = a.start } = rw (eq-eqb a.start a.start refl) in
      let i = store_invariant (started m a b) sound a.start (by_name (started m a b) sound).root in
      let s = ap (λ x. x.start) line in
      let t = ap (λ x. x.total) line in
      let u = ap (λ x. x.used) line in
      let l = sound.rule1.stores_least in
      record {
        after = i;
        memory = record { after = i.memory; total = λ x. omega arith; free = λ x. omega arith; used = λ x. (λ h. omega arith, λ h. absurd h) };
        least = l;
        long = omega arith;
        children = λ x. (λ c. nowhere c.1, λ h. absurd h);
      }

  global_init : {r : MMReport} → r ≡ MMokay → RGlobalMemoryManagerInit (global_of (started m a b)) a r
  global_init e =
      record {
        after = global_invariant (started m a b) sound;
        first = backing_of ss a.start;
        initial = inl (root_init, e);
        stores = (
          λ k. (λ q. rw q (by_name (started m a b) sound).root, only_listed k),
          λ k q. rw q (same_store _),
        );
        relation = λ i j c. nowhere c.1;
        threads = λ t. (λ h. never false h refl, λ h. absurd h);
      }

  stacks_init : StackMemoryManagerInit (stacks_of (started m a b)) b
  stacks_init =
      record {
        after = stack_invariant (started m a b) sound;
        total = λ x. (λ h. h, λ h. h);
        free = λ x h. h;
        used = λ x. (λ h. nowhere h.1, λ h. absurd h);
        stacks = λ k. (λ h. never false h refl, λ h. absurd h);
      }

-- Accepted, it meets both; refused with MMsizeTooSmall, it meets the error half of RBackingStoreInit, whatever the store.
pub start_meets : (m : Model) (bs : Bytes) (a b : Run) (r : MMReport) → (step m bs (start a b)).report ≡ number r
    → (RGlobalMemoryManagerInit (global_of (step m bs (start a b)).model) a r × StackMemoryManagerInit (stacks_of (step m bs (start a b)).model) b)
    ⊎ ((store : Backing) → BackingStore store → BSSizeTooSmall store store a r)
unfolding all_checks checks change
start_meets m bs a b r h =
    let c = start a b in
    ⊎_elim
    (λ k. let s = change_sound m bs c k.1 in inl (rw (step_accepted m bs c k.1) (global_init m a b s k.0, stacks_init m a b s)))
    (λ k. inr (λ store i. ⊎_elim
    (λ x. never false x.0 refl)
    (λ x. ⊎_elim
    (λ y. record { stays = store_stays store i; short = ltb-true a.length _ y.0; told = number_names y.1 })
    (λ y. ⊎_elim (λ z. let l = number_most r in absurd (omega (arith, z.1))) (λ z. absurd (unchecked refl z.1)) (checked y.1))
    (checked x.1))
    (checked k.1)))
    (told m bs c r h)
