-- The stack memory manager: the schemas of 000, section 1.5, each by its name, a field for each of its lines in their order. Assumes nothing.
use Rattle.std.specs.Prelude.{◌⊎◌, ◌≡◌, ℕ, ◌+◌}
use Rattle.names.specs.Overhead.{stack_overhead}
use Rattle.meaning.specs.Model.{Run}
use Rattle.schemas.specs.Memory.{◌≐◌, ◌⊆◌, ◌∪◌, ◌∖◌, ∅, ⟨◌⟩, Contiguous, cells, Partial, ◌⊕◌⟼◌, ◌⩤◌, SameMap, Partition}
use Rattle.schemas.specs.Reports.{MMReport, MMokay, MMnonexistentStack, MMfragmentation, Success}
use Rattle.schemas.specs.Blocks.{Block, MemoryBlock, SameBlock, RMBAllocate}

-- the variables of StackMemoryManager
pub record StackSpace : Type 1 where
  pub block : Block
  pub stacks : Partial Run

-- StackMemoryManager
pub record StackMemoryManager (s : StackSpace) : Type 0 where
  pub memory : MemoryBlock s.block
  pub parts : Partition s.stacks s.block.used

-- equal stacks
abbrev pub SameStacks : Partial Run → Partial Run → Type 0
SameStacks f g = SameMap (λ r r'. cells r' ≐ cells r) f g

-- Δ StackMemoryManager
pub record ΔStackMemoryManager (s s' : StackSpace) : Type 0 where
  pub before : StackMemoryManager s
  pub after : StackMemoryManager s'

-- Ξ StackMemoryManager
pub record ΞStackMemoryManager (s s' : StackSpace) : Type 0 where
  pub changes : ΔStackMemoryManager s s'
  pub block : SameBlock s.block s'.block
  pub stacks : SameStacks s.stacks s'.stacks

-- StackMemoryManagerInit
pub record StackMemoryManagerInit (s' : StackSpace) (stack_space : Run) : Type 0 where
  pub after : StackMemoryManager s'
  pub total : cells s'.block.total ≐ cells stack_space
  pub free : cells s'.block.free ⊆ cells s'.block.total
  pub used : s'.block.used ≐ ∅
  pub stacks : s'.stacks.dom ≐ ∅

-- StackCreate
pub record StackCreate (s s' : StackSpace) (request new_stack : ℕ) : Type 0 where
  pub changes : ΔStackMemoryManager s s'
  pub new : s.stacks.dom new_stack → ⊥
  pub allocated : Run
  pub allocates : RMBAllocate s.block s'.block (request + stack_overhead) allocated MMokay
  pub stacks : SameStacks (s.stacks ⊕ new_stack ⟼ allocated) s'.stacks

-- StackDelete
pub record StackDelete (s s' : StackSpace) (stack : ℕ) : Type 0 where
  pub changes : ΔStackMemoryManager s s'
  pub there : s.stacks.dom stack
  pub used : s'.block.used ≐ (s.block.used ∖ cells (s.stacks.at stack))
  pub free : cells s'.block.free ≐ (cells s.block.free ∪ cells (s.stacks.at stack))
  pub whole : Contiguous (cells s.block.free ∪ cells (s.stacks.at stack))
  pub stacks : SameStacks (⟨ stack ⟩ ⩤ s.stacks) s'.stacks
  pub total : cells s'.block.total ≐ cells s.block.total

-- StackNonexistentStack
pub record StackNonexistentStack (s s' : StackSpace) (stack : ℕ) (report : MMReport) : Type 0 where
  pub stays : ΞStackMemoryManager s s'
  pub missing : s.stacks.dom stack → ⊥
  pub told : report ≡ MMnonexistentStack

-- StackMBAllocateError
pub record StackMBAllocateError (s s' : StackSpace) (request : ℕ) (report : MMReport) : Type 0 where
  pub stays : ΞStackMemoryManager s s'
  pub allocated : Run
  pub allocates : RMBAllocate s.block s'.block (request + stack_overhead) allocated report
  pub failed : report ≡ MMokay → ⊥

-- StackFragmentation
pub record StackFragmentation (s s' : StackSpace) (stack : ℕ) (report : MMReport) : Type 0 where
  pub stays : ΞStackMemoryManager s s'
  pub there : s.stacks.dom stack
  pub parted : Contiguous (cells s.block.free ∪ cells (s.stacks.at stack)) → ⊥
  pub told : report ≡ MMfragmentation

-- RStackCreate
abbrev pub RStackCreate : StackSpace → StackSpace → ℕ → ℕ → MMReport → Type 0
RStackCreate s s' request new_stack report = (StackCreate s s' request new_stack × Success report) ⊎ StackMBAllocateError s s' request report

-- RStackDelete
abbrev pub RStackDelete : StackSpace → StackSpace → ℕ → MMReport → Type 0
RStackDelete s s' stack report =
    (StackDelete s s' stack × Success report) ⊎ (StackNonexistentStack s s' stack report ⊎ StackFragmentation s s' stack report)
