-- The rules of a sound table, 1 to 7, as propositions on a model: document 01, "The table". The tests of Rules.antt decide them (Laws/Agree.antt of proofs).
-- Assumes nothing.
use Rattle.std.specs.Prelude.{List, ◌∷◌, ◌≡◌, ℕ, ◌+◌, ◌<◌, ◌≤◌}
use Rattle.lists.specs.Lists.{◌∈◌, AllTwo, sum, rest}
use Rattle.lists.specs.Keyed.{Has, Rising}
use Rattle.names.specs.Overhead.{store_overhead, stack_overhead}
use Rattle.meaning.specs.Model.{Run, Store, Thread, Stack, Model, end, whole, used_part, stack_run, store_name, thread_name, stack_name}
use Rattle.meaning.specs.Rules.{longest_area, last_end}

infix 40 ◌Holds◌ ◌Inside◌ ◌ApartFrom◌
-- the run holds the address
abbrev pub ◌Holds◌ : Run → ℕ → Type 0
r Holds a = (r.start ≤ a) × (a < end r)

-- the first run lies in the second
abbrev pub ◌Inside◌ : Run → Run → Type 0
r Inside s = (s.start ≤ r.start) × (end r ≤ end s)

-- the runs share no address
abbrev pub ◌ApartFrom◌ : Run → Run → Type 0
r ApartFrom s = (a : ℕ) → r Holds a → s Holds a → ⊥

-- 1. Store area: length 16 to 16,777,216. Stack area: length 0 to 16,777,216. For each, start plus length is at most 2,147,483,648. They share no address.
pub record Rule1 (m : Model) : Type 0 where
  pub stores_least : store_overhead ≤ m.store_area.length
  pub stores_most : m.store_area.length ≤ longest_area
  pub stacks_most : m.stack_area.length ≤ longest_area
  pub stores_end : end m.store_area ≤ last_end
  pub stacks_end : end m.stack_area ≤ last_end
  pub apart : m.store_area ApartFrom m.stack_area

-- 2. The first store is the root: start and total are those of the store area, its parent is itself.
pub record Rule2 (m : Model) : Type 0 where
  pub root : Store
  pub first : m.stores ≡ root ∷ rest m.stores
  pub start : root.start ≡ m.store_area.start
  pub total : root.total ≡ m.store_area.length
  pub itself : root.parent ≡ root.start

-- 3. Stores are listed by strictly rising start. Each other store has a listed parent with a lower start, and a total of at least 16.
pub record Hangs (ss : List Store) (s : Store) : Type 0 where
  pub listed : Has store_name ss s.parent
  pub lower : s.parent < s.start
  pub least : store_overhead ≤ s.total

pub record Rule3 (m : Model) : Type 0 where
  pub rises : Rising store_name m.stores
  pub others : (s : Store) → s ∈ rest m.stores → Hangs m.stores s

-- 4. A store's used is at most total − 16. Every child's total lies in its parent's used part, and two children of one parent share no address.
pub record Rule4 (m : Model) : Type 0 where
  pub fits : (s : Store) → s ∈ m.stores → s.used + store_overhead ≤ s.total
  pub inside : (p c : Store) → p ∈ m.stores → c ∈ rest m.stores → c.parent ≡ p.start → whole c Inside used_part p
  pub apart : AllTwo (λ c d. c.parent ≡ d.parent → whole c ApartFrom whole d) (rest m.stores)

-- 5. Threads are listed by strictly rising identifier, each with a listed store as context.
pub record Rule5 (m : Model) : Type 0 where
  pub rises : Rising thread_name m.threads
  pub placed : (t : Thread) → t ∈ m.threads → Has store_name m.stores t.context

-- 6. Stacks are listed by strictly rising start, each with a total of at least 8, inside the stack area, sharing no address with one another or with the
-- free run.
pub record Rule6 (m : Model) : Type 0 where
  pub rises : Rising stack_name m.stacks
  pub least : (k : Stack) → k ∈ m.stacks → stack_overhead ≤ k.total
  pub inside : (k : Stack) → k ∈ m.stacks → stack_run k Inside m.stack_area
  pub taken : (k : Stack) → k ∈ m.stacks → stack_run k ApartFrom m.free_run
  pub apart : AllTwo (λ k l. stack_run k ApartFrom stack_run l) m.stacks

-- 7. The free run is one run in the stack area. Stack totals plus its length make the area's length. An empty run is written at the area's end.
pub record Rule7 (m : Model) : Type 0 where
  pub inside : m.free_run Inside m.stack_area
  pub makes : sum (λ k. k.total) m.stacks + m.free_run.length ≡ m.stack_area.length
  pub empty : m.free_run.length ≡ 0 → m.free_run.start ≡ end m.stack_area

-- all seven hold
pub record Sound (m : Model) : Type 0 where
  pub rule1 : Rule1 m
  pub rule2 : Rule2 m
  pub rule3 : Rule3 m
  pub rule4 : Rule4 m
  pub rule5 : Rule5 m
  pub rule6 : Rule6 m
  pub rule7 : Rule7 m
