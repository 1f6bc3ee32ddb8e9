-- The thread memory manager: the schemas of 000, section 1.4, each by its name, a field for each of its lines in their order. Assumes nothing.
use Rattle.std.specs.Prelude.{◌↔◌, ◌⊎◌, ◌≡◌, ℕ}
use Rattle.schemas.specs.Memory.{⟨◌⟩, Partial, ◌⊕◌⟼◌, ◌⩤◌}
use Rattle.schemas.specs.Reports.{MMReport, MMinvalidThreadAC, Success}
use Rattle.schemas.specs.Global.{Global, SameStores, SameThreads, ΔGlobalMemoryManager, ΞGlobalMemoryManager, GlobalNonexistentBS, RGlobalMakeBS, RGlobalClearBS, RGlobalAllocateMemory}

-- PromoteThread
pub record PromoteThread (g g' : Global) (ac thread : ℕ) : Type 1 where
  pub changes : ΔGlobalMemoryManager g g'
  pub known : g.thread_a_cs.dom thread
  pub context : ac ≡ g.thread_a_cs.at thread

-- ∃ ac? • an operation ∧ PromoteThread
pub record ByThread (operation : ℕ → Type 1) (g g' : Global) (thread : ℕ) : Type 1 where
  pub ac : ℕ
  pub done : operation ac
  pub promotes : PromoteThread g g' ac thread

-- ThreadMakeBS
abbrev pub ThreadMakeBS : Global → Global → ℕ → ℕ → ℕ → MMReport → Type 1
ThreadMakeBS g g' thread request child_id report = ByThread (λ ac. RGlobalMakeBS g g' request ac child_id report) g g' thread

-- ThreadClearBS
abbrev pub ThreadClearBS : Global → Global → ℕ → MMReport → Type 1
ThreadClearBS g g' thread report = ByThread (λ ac. RGlobalClearBS g g' ac report) g g' thread

-- ThreadAllocateMemory
abbrev pub ThreadAllocateMemory : Global → Global → ℕ → ℕ → ℕ → MMReport → Type 1
ThreadAllocateMemory g g' thread request address report = ByThread (λ ac. RGlobalAllocateMemory g g' request ac address report) g g' thread

-- ThreadGetAC
pub record ThreadGetAC (g g' : Global) (thread ac : ℕ) : Type 1 where
  pub stays : ΞGlobalMemoryManager g g'
  pub known : g.thread_a_cs.dom thread
  pub context : ac ≡ g.thread_a_cs.at thread

-- the Δ and the last four lines of ThreadSetAC, ThreadAdd and ThreadRemove: the contexts become these, and nothing else changes
pub record OnlyThreads (g g' : Global) (contexts : Partial ℕ) : Type 1 where
  pub changes : ΔGlobalMemoryManager g g'
  pub threads : SameThreads contexts g'.thread_a_cs
  pub stores : SameStores g.stores g'.stores
  pub relation : (i j : ℕ) → g.child_relation i j ↔ g'.child_relation i j
  pub root : g'.root_backing_store ≡ g.root_backing_store

-- ThreadSetAC
pub record ThreadSetAC (g g' : Global) (thread ac : ℕ) : Type 1 where
  pub known : g.thread_a_cs.dom thread
  pub sets : OnlyThreads g g' (g.thread_a_cs ⊕ thread ⟼ ac)

-- ThreadAdd
abbrev pub ThreadAdd : Global → Global → ℕ → ℕ → Type 1
ThreadAdd g g' thread ac = OnlyThreads g g' (g.thread_a_cs ⊕ thread ⟼ ac)

-- ThreadRemove
abbrev pub ThreadRemove : Global → Global → ℕ → Type 1
ThreadRemove g g' thread = OnlyThreads g g' (⟨ thread ⟩ ⩤ g.thread_a_cs)

-- InvalidThreadAC
pub record InvalidThreadAC (g g' : Global) (thread : ℕ) (report : MMReport) : Type 1 where
  pub stays : ΞGlobalMemoryManager g g'
  pub unknown : g.thread_a_cs.dom thread → ⊥
  pub told : report ≡ MMinvalidThreadAC

-- RThreadMakeBS
abbrev pub RThreadMakeBS : Global → Global → ℕ → ℕ → ℕ → MMReport → Type 1
RThreadMakeBS g g' thread request child_id report = ThreadMakeBS g g' thread request child_id report ⊎ InvalidThreadAC g g' thread report

-- RThreadClearBS
abbrev pub RThreadClearBS : Global → Global → ℕ → MMReport → Type 1
RThreadClearBS g g' thread report = ThreadClearBS g g' thread report ⊎ InvalidThreadAC g g' thread report

-- RThreadAllocateMemory
abbrev pub RThreadAllocateMemory : Global → Global → ℕ → ℕ → ℕ → MMReport → Type 1
RThreadAllocateMemory g g' thread request address report = ThreadAllocateMemory g g' thread request address report ⊎ InvalidThreadAC g g' thread report

-- RThreadGetAC
abbrev pub RThreadGetAC : Global → Global → ℕ → ℕ → MMReport → Type 1
RThreadGetAC g g' thread ac report = (ThreadGetAC g g' thread ac × Success report) ⊎ InvalidThreadAC g g' thread report

-- RThreadSetAC, with the invalid identifier of 000's table 1 (docs/SCHEMAS.md)
abbrev pub RThreadSetAC : Global → Global → ℕ → ℕ → MMReport → Type 1
RThreadSetAC g g' thread ac report =
    (ThreadSetAC g g' thread ac × Success report) ⊎ (InvalidThreadAC g g' thread report ⊎ GlobalNonexistentBS g g' ac report)
