-- What every call has in common: a call that tells a report of MMReport told MMokay and made its change, or refused and left the model. Assumes nothing.
use Rattle.std.specs.Prelude.{true, false, ◌⊎◌, ◌≡◌, refl, ℕ}
use mathlib.Core.List.{List, [], ◌∷◌, nil≢cons}
use Rattle.std.proofs.Common.{inl, inr, ⊎_elim, sym, ◌∙◌, ap, arith, ne_eqb}
use Rattle.std.proofs.Math.Decide.{ℕ_discrete}
use Rattle.lists.specs.Keyed.{has}
use Rattle.lists.specs.Tests.{never, not_false_iff}
use Rattle.meaning.specs.Model.{Model, Bytes, thread_name, listed}
use Rattle.meaning.specs.Rules.{sound}
use Rattle.meaning.specs.Facts.{Sound}
use Rattle.meaning.specs.Reports.{Check, First, here, later}
use Rattle.meaning.specs.Calls.{Call, code, checks, all_checks, step}
use Rattle.meaning.proofs.Laws.Agree.{sound_agrees}
use Rattle.meaning.proofs.Laws.Step.{step_refused, report_exact, accepted_sound}
use Rattle.laws.specs.ByName.{Listed}
use Rattle.schemas.specs.Memory.{picked}
use Rattle.schemas.specs.Reports.{MMReport, MMokay, number, number_names, number_most}
use Rattle.schemas.specs.Blocks.{Block, SameBlock, ΞMemoryBlock}
use Rattle.schemas.specs.Stores.{Backing, BackingStore, SameStore, ΞBackingStore}
use Rattle.schemas.specs.Global.{ΞGlobalMemoryManager, Promoted, GlobalNonexistentBS}
use Rattle.schemas.specs.Threads.{InvalidThreadAC}
use Rattle.schemas.specs.Stacks.{ΞStackMemoryManager}
use Rattle.schemas.specs.Reading.{backing_of, global_of, stacks_of, store_invariant, global_invariant, stack_invariant}

-- the first check refuses, or it does not and a later one does
pub checked : {n : ℕ} {k : Check} {ks : List Check} → First n (k ∷ ks) → ((k.condition ≡ true) × (k.report ≡ n)) ⊎ ((k.condition ≡ false) × First n ks)
checked (here e q) = inl (e, q)
checked (later e f) = inr (e, f)

-- no checks, no refusal
pub unchecked : {n : ℕ} {ks : List Check} → ks ≡ [] → First n ks → ⊥
unchecked e (here _ _) = nil≢cons (sym e)
unchecked e (later _ _) = nil≢cons (sym e)

-- what is known of a call that tells a report of MMReport
abbrev Told : Model → Bytes → Call → MMReport → Type 0
Told m bs c r = ((r ≡ MMokay) × ((step m bs c).report ≡ 0)) ⊎ (((step m bs c).model ≡ m) × First (number r) (all_checks m bs c))

pub told : (m : Model) (bs : Bytes) (c : Call) (r : MMReport) → (step m bs c).report ≡ number r → Told m bs c r
told m bs c r h = elim (ℕ_discrete (number r) 0) [
  | yes e ↦ inl (number_names (sym e), h ∙ e)
  | no d ↦ inr (ap (λ o. o.model) (step_refused m bs c (λ e. d (sym h ∙ e))), (report_exact m bs c (number r) d).0 h)
]

-- A call other than a start tells such a report of a sound model only, and refuses by a check of its own row.
abbrev ToldSound : Model → Bytes → Call → MMReport → Type 0
ToldSound m bs c r = Sound m × (((r ≡ MMokay) × ((step m bs c).report ≡ 0)) ⊎ (((step m bs c).model ≡ m) × First (number r) (checks m bs c)))

pub told_sound : (m : Model) (bs : Bytes) (c : Call) (r : MMReport) → (code c ≡ 0 → ⊥) → (step m bs c).report ≡ number r → ToldSound m bs c r
unfolding all_checks
told_sound m bs c r n h = ⊎_elim
    (λ a. (accepted_sound m bs c n a.1, inl a))
    (λ a. ⊎_elim
    (λ x. let l = number_most r in absurd (omega (arith, x.1)))
    (λ x. ((sound_agrees m).0 ((not_false_iff (sound m)).0 (rw (ne_eqb (code c) 0 n) at x.0)), inr (a.0, x.1)))
    (checked a.1))
    (told m bs c r h)

-- ---- what stays

same_block : (b : Block) → SameBlock b b
same_block b = record { free = λ a. (λ x. x, λ x. x); total = λ a. (λ x. x, λ x. x); used = λ a. (λ x. x, λ x. x) }

pub same_store : (b : Backing) → SameStore b b
same_store b = record { block = same_block b.block; children = λ a. (λ x. x, λ x. x); self = refl }

pub store_stays : (b : Backing) → BackingStore b → ΞBackingStore b b
store_stays b i = record { changes = record { before = i; after = i }; same = same_store b }

pub block_stays : {b b' : Backing} → ΞBackingStore b b' → ΞMemoryBlock b.block b'.block
block_stays x = record { changes = record { before = x.changes.before.memory; after = x.changes.after.memory }; same = x.same.block }

-- the two parts of a sound model that is left as it is
pub global_stays : {m m' : Model} → Sound m → m' ≡ m → ΞGlobalMemoryManager (global_of m) (global_of m')
global_stays {m} sound e =
    let i = global_invariant m sound in
    rw e
    (record {
      changes = record { before = i; after = i };
      stores = (λ a. (λ x. x, λ x. x), λ k h. same_store _);
      fixed = record { root = refl; threads = (λ a. (λ x. x, λ x. x), λ k h. refl) };
      relation = λ i j. (λ x. x, λ x. x);
    })

pub stacks_stay : {m m' : Model} → Sound m → m' ≡ m → ΞStackMemoryManager (stacks_of m) (stacks_of m')
stacks_stay {m} sound e =
    let i = stack_invariant m sound in
    rw e
    (record {
      changes = record { before = i; after = i };
      block = same_block _;
      stacks = (λ a. (λ x. x, λ x. x), λ k h a. (λ x. x, λ x. x));
    })

-- an operation that leaves a store as it is, promoted to a state that is left as it is
pub asked : (m : Model) → Sound m → (s : ℕ) → Listed m.stores s → (ask : Backing → Backing → Type 0) → ask (backing_of m.stores s) (backing_of m.stores s)
    → Promoted ask (global_of m) (global_of m) s
asked m sound s h ask a =
    let ss = m.stores in
    let i = store_invariant m sound s h in
    let g = global_stays {m = m} sound refl in
    record {
      store = backing_of ss s;
      after = backing_of ss s;
      done = a;
      promotes =
          record {
            changes = g.changes;
            store = record { before = i; after = i };
            there = h;
            now = same_store _;
            stores = (
              λ k. (λ u. ⊎_elim (λ l. l) (λ e. rw e h) u, λ l. inl l),
              λ k u. picked (λ b. SameStore b (backing_of ss k)) k s (λ e. rw e (same_store _)) (λ d. same_store _),
            );
            fixed = g.fixed;
          };
    }

-- ---- refusals that several calls share

-- a store that is not listed
pub no_store_lem : {m m' : Model} {s : ℕ} {r : MMReport} → Sound m → m' ≡ m → listed m.stores s ≡ false → 5 ≡ number r
    → GlobalNonexistentBS (global_of m) (global_of m') s r
no_store_lem sound e n q = record { stays = global_stays sound e; missing = λ i. never _ i n; told = number_names q }

-- a thread that is not listed
pub no_thread_lem : {m m' : Model} {t : ℕ} {r : MMReport} → Sound m → m' ≡ m → has thread_name m.threads t ≡ false → 12 ≡ number r
    → InvalidThreadAC (global_of m) (global_of m') t r
no_thread_lem sound e n q = record { stays = global_stays sound e; unknown = λ i. never _ i n; told = number_names q }
