-- A sound model read as a state of 000's schemas, and that the schemas' invariants hold of it. Assumes nothing.
use Rattle.std.specs.Prelude.{Bool, true, ◌&&◌, List, map, ◌↔◌, ◌≡◌, ℕ, ◌<◌, ltb, eqb}
use mathlib.Core.List.Memᴰ
use Rattle.std.proofs.Common.{inl, inr, ⊎_elim, sym, ◌∙◌, ap, arith}
use Rattle.std.proofs.Math.Decide.{ℕ_discrete, dec_lt}
use Rattle.lists.specs.Lists.{◌∈◌, keep}
use Rattle.lists.specs.Keyed.{has}
use Rattle.lists.specs.Tests.{reflect}
use Rattle.lists.specs.ListLaws.{keep_member, member_keep}
use Rattle.lists.specs.KeyedLaws.{member_has, at_member, member_at}
use Rattle.meaning.specs.Model.{Store, Stack, Model, whole, used_part, free_part, stack_run, store_name, thread_name, stack_name, no_such_store, no_such_stack, store_of, context_in, stack_of, root_of}
use Rattle.meaning.specs.Nesting.{Child, Nested, child, in_child, parent_in}
use Rattle.meaning.specs.Facts.{◌Holds◌, Sound}
use Rattle.meaning.proofs.Laws.Nested.{named, child_link, link_child, root_listed}
use Rattle.meaning.proofs.Laws.Within.{context_listed}
use Rattle.laws.specs.ByName.{Listed, ByName, by_name}
use Rattle.laws.specs.Nesting.{never_in_itself, inner_listed, outer_listed, others_in_root}
use Rattle.laws.specs.Geometry.{nested_inside, siblings}
use Rattle.laws.specs.StackCalls.{in_stacks, stack_named, stacks_apart}
use Rattle.schemas.specs.Memory.{Numbers, ◌≐◌, ◌apart◌, Finite, cells, run_counts, Partial, Plus, one, more}
use Rattle.schemas.specs.Blocks.{Block}
use Rattle.schemas.specs.Stores.{Backing, BackingStore}
use Rattle.schemas.specs.Global.{Global, GlobalMemoryManager}
use Rattle.schemas.specs.Stacks.{StackSpace, StackMemoryManager}

-- ---- the reading

-- a store's memory: its free part, its total and its used part; the overhead is in the total alone
abbrev pub block_of : Store → Block
block_of s = record { free = free_part s; total = whole s; used = cells (used_part s) }

-- a store by its identifier
abbrev pub backing_of : List Store → ℕ → Backing
backing_of ss k = record { block = block_of (store_of ss k); children = λ x. Child ss x k; self = (store_of ss k).start }

-- the stores, by identifier
abbrev pub stores_of : List Store → Partial Backing
stores_of ss = record { dom = Listed ss; at = backing_of ss }

-- a thread is known
abbrev pub Known : Model → ℕ → Type 0
Known m t = has thread_name m.threads t ≡ true

-- the threads' contexts, by identifier
abbrev pub contexts_of : Model → Partial ℕ
contexts_of m = record { dom = Known m; at = context_in m.threads }

-- the variables of GlobalMemoryManager
abbrev pub global_of : Model → Global
global_of m =
    record {
      stores = stores_of m.stores;
      root_backing_store = root_of m.stores;
      thread_a_cs = contexts_of m;
      child_relation = λ i j. Child m.stores j i;
    }

-- some stack holds the address
abbrev pub InStack : List Stack → Numbers
InStack ks a = (k : Stack) × (k ∈ ks) × (stack_run k Holds a)

-- the variables of StackMemoryManager: all stacks together are the used memory
abbrev pub stacks_of : Model → StackSpace
stacks_of m =
    record {
      block = record { free = m.free_run; total = m.stack_area; used = InStack m.stacks };
      stacks = record { dom = λ k. has stack_name m.stacks k ≡ true; at = λ k. stack_run (stack_of m.stacks k) };
    }

-- ---- invariants of the stores

-- a set of listed identifiers is finite where a test tells its elements
pub listed_finite : (ss : List Store) (p : ℕ → Bool) {S : Numbers} → S ≐ (λ k. Listed ss k × (p k ≡ true)) → Finite S
listed_finite ss p d =
    let passes : Store → Bool = λ s. p s.start in (
      map store_name (keep passes ss),
      λ k. (
        λ x. let h = (d k).0 x in
            let e = named ss k in
            let i : store_name (store_of ss k) ∈ map store_name (keep passes ss) = Memᴰ.map store_name (member_keep passes ss (at_member store_name no_such_store ss k h.0) (ap p e ∙ h.1)) in
            rw e at i,
        λ i. let o = Memᴰ.of_map store_name (keep passes ss) i in
            let q = keep_member passes ss o.1 in
            (d k).1 (rw (← o.2) (member_has store_name ss q.0), ap p (sym o.2) ∙ q.1),
      ),
    )

-- childRelation+ leads from a store to what is nested in it
pub plus_nested : (ss : List Store) {s x : ℕ} → Plus (λ i j. Child ss j i) s x → Nested ss x s
plus_nested ss (one c) = child c
plus_nested ss (more c p) = in_child c (plus_nested ss p)

pub nested_plus : (ss : List Store) {s x : ℕ} → Nested ss x s → Plus (λ i j. Child ss j i) s x
nested_plus ss (child c) = one c
nested_plus ss (in_child c n) = more c (nested_plus ss n)

module _ (m : Model) (sound : Sound m) where
  abbrev ss : List Store
  ss = m.stores

  abbrev by : ByName m.store_area ss
  by = by_name m sound

  child_iff : (x s : ℕ) → Child ss x s ↔ (Listed ss x × ((eqb (parent_in ss x) s && ltb s x) ≡ true))
  child_iff x s = (
    λ c. let k = child_link m sound c in (inner_listed m sound (child c), simp reflect (k.0, k.1)),
    λ h. let k = simp reflect at h.1 in link_child m sound k.0 k.1,
  )

  -- BackingStore, of every listed store
  pub store_invariant : (k : ℕ) → Listed ss k → BackingStore (backing_of ss k)
  store_invariant k h =
      let f = by.fits k h in
      record {
        memory = record { within = λ a u. ⊎_elim (λ i. omega arith) (λ i. omega arith) u; disjoint = λ a i j. omega arith };
        finite = listed_finite ss (λ x. eqb (parent_in ss x) k && ltb k x) (λ x. child_iff x k);
        own = λ c. let l = child_link m sound c in omega (arith, named ss k);
        used = (store_of ss k).used;
        counted = run_counts (used_part (store_of ss k)) (λ a. (λ i. i, λ i. i));
        makes = omega arith;
      }

  -- two children of one store share no address
  children_apart : (k i j : ℕ) → Child ss i k → Child ss j k → i < j → cells (whole (store_of ss i)) apart cells (whole (store_of ss j))
  children_apart k i j c d l a x y =
      let z = siblings m sound c d l in
      omega (arith, named ss i, named ss j)

  -- GlobalMemoryManager
  pub global_invariant : GlobalMemoryManager (global_of m)
  global_invariant =
      record {
        store = store_invariant;
        root = root_listed m sound;
        selves = λ k h. named ss k;
        parts = λ k h. (
          (λ a. (i : ℕ) × Child ss i k × cells (whole (store_of ss i)) a),
          (λ a x. let n = nested_inside m sound (child x.1) in let c = x.2 in omega arith),
          record {
            disjoint = λ i j c d n. elim (dec_lt i j) [
              | yes l ↦ children_apart k i j c d l
              | no l ↦ λ a x y. children_apart k j i d c (omega arith) a y x
            ];
            union = λ a. (λ x. x, λ x. x);
          },
        );
        contexts = context_listed m sound;
        relation = λ i j. (λ c. (outer_listed m sound (child c), c), λ h. h.1);
        all = λ x. (
          λ h. elim (ℕ_discrete x (root_of ss)) [
            | yes e ↦ inl e
            | no d ↦ inr (nested_plus ss (others_in_root m sound x h d))
          ],
          λ s. ⊎_elim (λ e. rw e (root_listed m sound)) (λ p. inner_listed m sound (plus_nested ss p)) s,
        );
        acyclic = λ s h p. never_in_itself m sound (plus_nested ss p);
      }

  -- ---- invariants of the stacks

  pub stack_found : {k : Stack} → k ∈ m.stacks → stack_of m.stacks k.start ≡ k
  stack_found i = member_at stack_name no_such_stack m.stacks sound.rule6.rises i

  -- StackMemoryManager
  pub stack_invariant : StackMemoryManager (stacks_of m)
  stack_invariant =
      record {
        memory =
            record {
              within = λ a u. ⊎_elim
                  (λ x. let i = sound.rule6.inside x.0 x.1 in let h = x.2 in omega arith)
                  (λ h. let i = sound.rule7.inside in omega arith)
                  u;
              disjoint = λ a x h. sound.rule6.taken x.0 x.1 a x.2 h;
            };
        parts =
            record {
              disjoint = λ i j h k n.
                  stacks_apart m sound (in_stacks m.stacks i h) (in_stacks m.stacks j k) (λ e. n (sym (stack_named m.stacks i) ∙ e ∙ stack_named m.stacks j));
              union = λ a. (
                λ x. (x.0.start, member_has stack_name m.stacks x.1, rw (stack_found x.1) x.2),
                λ x. (stack_of m.stacks x.0, in_stacks m.stacks x.0 x.1, x.2),
              );
            };
      }
