-- What the calls on stores have in common: a line that stays, a block that gives bytes away, and the variables that no such call changes. Assumes nothing.
use Rattle.std.specs.Prelude.{List, ◌↔◌, ◌≡◌, refl, ℕ, ◌+◌, ◌≤◌}
use Rattle.std.proofs.Common.{inl, inr, ⊎_elim, sym, ◌∙◌, arith}
use Rattle.std.proofs.Math.Decide.{dec_lt}
use Rattle.names.specs.Overhead.{store_overhead}
use Rattle.meaning.specs.Model.{Run, Store, Model, free_part, listed}
use Rattle.meaning.specs.Nesting.{Child, child, parent_in}
use Rattle.meaning.specs.Facts.{Sound}
use Rattle.meaning.specs.Changes.{with_stores}
use Rattle.meaning.proofs.Laws.Nested.{named, child_link, link_child}
use Rattle.laws.specs.ByName.{Listed, total_in, used_in, root_start}
use Rattle.laws.specs.Nesting.{inner_listed}
use Rattle.schemas.specs.Blocks.{ΔMemoryBlock, MBAllocate}
use Rattle.schemas.specs.Stores.{SameStore}
use Rattle.schemas.specs.Global.{GlobalFixedVars, ΔGlobalMemoryManager}
use Rattle.schemas.specs.Reading.{block_of, backing_of, global_of, global_invariant}

-- a store of the same total, used and children is the same
pub same_line : (ss after : List Store) (k : ℕ) → total_in after k ≡ total_in ss k → used_in after k ≡ used_in ss k
    → ((x : ℕ) → Child after x k ↔ Child ss x k) → SameStore (backing_of ss k) (backing_of after k)
same_line ss after k t u c =
    let p = named ss k in
    let q = named after k in
    record {
      block = record { free = λ a. omega arith; total = λ a. omega arith; used = λ a. omega arith };
      children = c;
      self = q ∙ sym p;
    }

-- a block of a store that gives n bytes at the low end of its free part
abbrev pub low_end : Store → ℕ → Run
low_end s n = record { start = (free_part s).start; length = n }

pub low_end_taken : (s s' : Store) (n : ℕ) → ΔMemoryBlock (block_of s) (block_of s') → s'.start ≡ s.start → s'.total ≡ s.total → s'.used ≡ s.used + n
    → s.used + n + store_overhead ≤ s.total → MBAllocate (block_of s) (block_of s') n (low_end s n)
low_end_taken s s' n d p t u f =
    record {
      changes = d;
      room = omega arith;
      long = refl;
      taken = λ a h. omega arith;
      used = λ a. (
        λ h. elim (dec_lt a (free_part s).start) [
          | yes l ↦ inl (omega arith)
          | no l ↦ inr (omega arith)
        ],
        λ h. ⊎_elim (λ i. omega arith) (λ i. omega arith) h,
      );
      free = λ a. (
        λ h. omega arith,
        λ h. let i = h.0 in elim (dec_lt a ((free_part s).start + n)) [
          | yes l ↦ absurd (h.1 (omega arith))
          | no l ↦ omega arith
        ],
      );
      total = λ a. omega arith;
    }

module _ (m : Model) (sound : Sound m) (ss' : List Store) (sound' : Sound (with_stores m ss')) where
  -- where the same stores are listed with the same parents, each has the same children
  pub children_same : ((k : ℕ) → listed ss' k ≡ listed m.stores k) → ((k : ℕ) → Listed m.stores k → parent_in ss' k ≡ parent_in m.stores k)
      → (x s : ℕ) → Child ss' x s ↔ Child m.stores x s
  children_same names parents x s = (
    λ c. let k = child_link (with_stores m ss') sound' c in
        let h = sym (names x) ∙ inner_listed (with_stores m ss') sound' (child c) in
        link_child m sound (sym (parents x h) ∙ k.0) k.1,
    λ c. let k = child_link m sound c in link_child (with_stores m ss') sound' (parents x (inner_listed m sound (child c)) ∙ k.0) k.1,
  )

  -- Δ GlobalMemoryManager
  pub stores_change : ΔGlobalMemoryManager (global_of m) (global_of (with_stores m ss'))
  stores_change = record { before = global_invariant m sound; after = global_invariant (with_stores m ss') sound' }

  -- GlobalFixedVars
  pub fixed_vars : GlobalFixedVars (global_of m) (global_of (with_stores m ss'))
  fixed_vars =
      record {
        root = root_start (with_stores m ss') sound' ∙ sym (root_start m sound);
        threads = (λ t. (λ h. h, λ h. h), λ t h. refl);
      }
