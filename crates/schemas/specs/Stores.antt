-- Backing stores: the schemas of 000, section 1.2, each by its name, a field for each of its lines in their order. Assumes nothing.
use Rattle.std.specs.Prelude.{◌⊎◌, ◌≡◌, ℕ, ◌+◌, ◌-◌, ◌<◌, ◌≤◌}
use Rattle.names.specs.Overhead.{allocation_overhead, store_overhead as backing_store_overhead}
use Rattle.meaning.specs.Model.{Run}
use Rattle.schemas.specs.Memory.{Numbers, ◌≐◌, ◌∪◌, ◌∖◌, ∅, ⟨◌⟩, Finite, ◌counts◌, size}
use Rattle.schemas.specs.Reports.{MMReport, MMnotEmpty, MMnonexistentAllocation, MMsizeTooSmall, Success}
use Rattle.schemas.specs.Blocks.{Block, MemoryBlock, SameBlock, MemoryBlockInit, MBAllocate, MBClear, MBResize, MBContentsResize, MBGetTotalSize, MBGetUsedSize, MBGetFreeSize, MBOutOfMemory, MBNotEmpty, MBNonexistentAllocation, MBInsufficientFreeSize}

-- the variables of BackingStore
pub record Backing : Type 1 where
  pub block : Block
  pub children : Numbers
  pub self : ℕ

-- BackingStore
pub record BackingStore (b : Backing) : Type 0 where
  pub memory : MemoryBlock b.block
  pub finite : Finite b.children
  pub own : b.children b.self → ⊥
  pub used : ℕ
  pub counted : b.block.used counts used
  pub makes : used + size b.block.free + backing_store_overhead ≡ size b.block.total

-- θ BackingStore' = θ BackingStore
pub record SameStore (b b' : Backing) : Type 0 where
  pub block : SameBlock b.block b'.block
  pub children : b'.children ≐ b.children
  pub self : b'.self ≡ b.self

-- Δ BackingStore
pub record ΔBackingStore (b b' : Backing) : Type 0 where
  pub before : BackingStore b
  pub after : BackingStore b'

-- Ξ BackingStore
pub record ΞBackingStore (b b' : Backing) : Type 0 where
  pub changes : ΔBackingStore b b'
  pub same : SameStore b b'

-- BackingStoreInit
pub record BackingStoreInit (b' : Backing) (addresses : Run) : Type 0 where
  pub after : BackingStore b'
  pub memory : MemoryBlockInit b'.block addresses
  pub least : backing_store_overhead ≤ size addresses
  pub long : size b'.block.free ≡ size addresses - backing_store_overhead
  pub children : b'.children ≐ ∅

-- BSAllocateChild
pub record BSAllocateChild (b b' : Backing) (request : ℕ) (allocated : Run) (child_id : ℕ) : Type 0 where
  pub changes : ΔBackingStore b b'
  pub memory : MBAllocate b.block b'.block request allocated
  pub new : (b.children child_id → ⊥) × (child_id ≡ b.self → ⊥)
  pub children : b'.children ≐ (b.children ∪ ⟨ child_id ⟩)
  pub self : b'.self ≡ b.self

-- BSClear
pub record BSClear (b b' : Backing) : Type 0 where
  pub changes : ΔBackingStore b b'
  pub memory : MBClear b.block b'.block
  pub children : b'.children ≐ ∅
  pub self : b'.self ≡ b.self

-- BSResizeChild
pub record BSResizeChild (b b' : Backing) (new_size : ℕ) (old_addresses new_addresses : Run) (old_id new_id : ℕ) : Type 0 where
  pub changes : ΔBackingStore b b'
  pub memory : MBContentsResize b.block b'.block new_size old_addresses new_addresses
  pub old : b.children old_id
  pub new : (b.children new_id → ⊥) ⊎ (new_id ≡ old_id)
  pub other : new_id ≡ b.self → ⊥
  pub children : b'.children ≐ ((b.children ∖ ⟨ old_id ⟩) ∪ ⟨ new_id ⟩)
  pub self : b'.self ≡ b.self

-- BSAllocate
pub record BSAllocate (b b' : Backing) (request : ℕ) (allocated : Run) : Type 0 where
  pub changes : ΔBackingStore b b'
  pub memory : MBAllocate b.block b'.block (request + allocation_overhead) allocated
  pub children : b'.children ≐ b.children
  pub self : b'.self ≡ b.self

-- BSResize
pub record BSResize (b b' : Backing) (new_addresses old_addresses : Run) : Type 0 where
  pub changes : ΔBackingStore b b'
  pub memory : MBResize b.block b'.block new_addresses old_addresses
  pub least : backing_store_overhead ≤ size new_addresses
  pub children : (b'.children ≐ b.children) × (b.children ≐ ∅)
  pub self : b'.self ≡ b.self

-- BSGetTotalSize
abbrev pub BSGetTotalSize : Backing → Backing → ℕ → Type 0
BSGetTotalSize b b' answer = MBGetTotalSize b.block b'.block answer × ΞBackingStore b b'

-- BSGetUsedSize
abbrev pub BSGetUsedSize : Backing → Backing → ℕ → Type 0
BSGetUsedSize b b' answer = MBGetUsedSize b.block b'.block answer × ΞBackingStore b b'

-- BSGetFreeSize
abbrev pub BSGetFreeSize : Backing → Backing → ℕ → Type 0
BSGetFreeSize b b' answer = MBGetFreeSize b.block b'.block answer × ΞBackingStore b b'

-- BSNotEmpty
pub record BSNotEmpty (b b' : Backing) (report : MMReport) : Type 0 where
  pub stays : ΞBackingStore b b'
  pub some : (b.children ≐ ∅) → ⊥
  pub told : report ≡ MMnotEmpty

-- BSNonexistentAllocation
pub record BSNonexistentAllocation (b b' : Backing) (old_addresses : Run) (old_id : ℕ) (report : MMReport) : Type 0 where
  pub stays : ΞBackingStore b b'
  pub memory : MBNonexistentAllocation b.block b'.block old_addresses report
  pub outside : b.children old_id → ⊥
  pub told : report ≡ MMnonexistentAllocation

-- BSSizeTooSmall
pub record BSSizeTooSmall (b b' : Backing) (addresses : Run) (report : MMReport) : Type 0 where
  pub stays : ΞBackingStore b b'
  pub short : size addresses < backing_store_overhead
  pub told : report ≡ MMsizeTooSmall

-- RBackingStoreInit
abbrev pub RBackingStoreInit : Backing → Run → MMReport → Type 1
RBackingStoreInit b' addresses report = (BackingStoreInit b' addresses × Success report) ⊎ ((b : Backing) × BSSizeTooSmall b b' addresses report)

-- RBSAllocateChild
abbrev pub RBSAllocateChild : Backing → Backing → ℕ → Run → ℕ → MMReport → Type 0
RBSAllocateChild b b' request allocated child_id report =
    (BSAllocateChild b b' request allocated child_id × Success report) ⊎ (MBOutOfMemory b.block b'.block request report × ΞBackingStore b b')

-- RBSClear
abbrev pub RBSClear : Backing → Backing → MMReport → Type 0
RBSClear b b' report = BSClear b b' × Success report

-- RBSResizeChild
abbrev pub RBSResizeChild : Backing → Backing → ℕ → Run → Run → ℕ → ℕ → MMReport → Type 0
RBSResizeChild b b' new_size old_addresses new_addresses old_id new_id report =
    (BSResizeChild b b' new_size old_addresses new_addresses old_id new_id × Success report)
    ⊎ ((MBNonexistentAllocation b.block b'.block old_addresses report × ΞBackingStore b b')
    ⊎ ((MBInsufficientFreeSize b.block b'.block old_addresses new_size report × ΞBackingStore b b')
    ⊎ BSNonexistentAllocation b b' old_addresses old_id report))

-- RBSAllocate, with the overhead in both halves (docs/SCHEMAS.md)
abbrev pub RBSAllocate : Backing → Backing → ℕ → Run → MMReport → Type 0
RBSAllocate b b' request allocated report =
    (BSAllocate b b' request allocated × Success report)
    ⊎ (MBOutOfMemory b.block b'.block (request + allocation_overhead) report × ΞBackingStore b b')

-- RBSResize
abbrev pub RBSResize : Backing → Backing → Run → Run → MMReport → Type 0
RBSResize b b' new_addresses old_addresses report =
    (BSResize b b' new_addresses old_addresses × Success report)
    ⊎ ((MBNotEmpty b.block b'.block report × ΞBackingStore b b') ⊎ (BSNotEmpty b b' report ⊎ BSSizeTooSmall b b' new_addresses report))

-- RBSGetTotalSize
abbrev pub RBSGetTotalSize : Backing → Backing → ℕ → MMReport → Type 0
RBSGetTotalSize b b' answer report = BSGetTotalSize b b' answer × Success report

-- RBSGetUsedSize
abbrev pub RBSGetUsedSize : Backing → Backing → ℕ → MMReport → Type 0
RBSGetUsedSize b b' answer report = BSGetUsedSize b b' answer × Success report

-- RBSGetFreeSize
abbrev pub RBSGetFreeSize : Backing → Backing → ℕ → MMReport → Type 0
RBSGetFreeSize b b' answer report = BSGetFreeSize b b' answer × Success report
