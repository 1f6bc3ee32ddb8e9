-- Memory blocks: the schemas of 000, section 1.1, each by its name, a field for each of its lines in their order. A schema's state is `b`, its state
-- after is `b'`, inputs and outputs follow. Assumes nothing.
use Rattle.std.specs.Prelude.{◌⊎◌, ◌≡◌, ℕ, ◌-◌, ◌<◌, ◌≤◌}
use Rattle.meaning.specs.Model.{Run}
use Rattle.schemas.specs.Memory.{Numbers, ◌≐◌, ◌⊆◌, ◌apart◌, ◌∪◌, ◌∖◌, ∅, ◌counts◌, cells, size}
use Rattle.schemas.specs.Reports.{MMReport, MMoutOfMemory, MMnotEmpty, MMnonexistentAllocation, MMcannotShrink, Success}

-- the variables of MemoryBlock
pub record Block : Type 1 where
  pub free : Run
  pub total : Run
  pub used : Numbers

-- MemoryBlock
pub record MemoryBlock (b : Block) : Type 0 where
  pub within : (b.used ∪ cells b.free) ⊆ cells b.total
  pub disjoint : b.used apart cells b.free

-- θ MemoryBlock' = θ MemoryBlock
pub record SameBlock (b b' : Block) : Type 0 where
  pub free : cells b'.free ≐ cells b.free
  pub total : cells b'.total ≐ cells b.total
  pub used : b'.used ≐ b.used

-- Δ MemoryBlock
pub record ΔMemoryBlock (b b' : Block) : Type 0 where
  pub before : MemoryBlock b
  pub after : MemoryBlock b'

-- Ξ MemoryBlock
pub record ΞMemoryBlock (b b' : Block) : Type 0 where
  pub changes : ΔMemoryBlock b b'
  pub same : SameBlock b b'

-- MemoryBlockInit
pub record MemoryBlockInit (b' : Block) (addresses : Run) : Type 0 where
  pub after : MemoryBlock b'
  pub total : cells b'.total ≐ cells addresses
  pub free : cells b'.free ⊆ cells addresses
  pub used : b'.used ≐ ∅

-- MBAllocate
pub record MBAllocate (b b' : Block) (request : ℕ) (allocated : Run) : Type 0 where
  pub changes : ΔMemoryBlock b b'
  pub room : request ≤ size b.free
  pub long : size allocated ≡ request
  pub taken : cells allocated ⊆ cells b.free
  pub used : b'.used ≐ (b.used ∪ cells allocated)
  pub free : cells b'.free ≐ (cells b.free ∖ cells allocated)
  pub total : cells b'.total ≐ cells b.total

-- MBClear
pub record MBClear (b b' : Block) : Type 0 where
  pub changes : ΔMemoryBlock b b'
  pub total : cells b'.total ≐ cells b.total
  pub free : cells b'.free ≐ (b.used ∪ cells b.free)
  pub used : b'.used ≐ ∅

-- MBResize
pub record MBResize (b b' : Block) (new_addresses old_addresses : Run) : Type 0 where
  pub changes : ΔMemoryBlock b b'
  pub room : size b.total - size b.free ≤ size new_addresses
  pub empty : b.used ≐ ∅
  pub total : cells b'.total ≐ cells new_addresses
  pub used : b'.used ≐ b.used
  pub free : cells b'.free ⊆ cells new_addresses
  pub long : size b'.free ≡ size new_addresses - (size b.total - size b.free)
  pub old : cells old_addresses ≐ cells b.total

-- MBContentsResize
pub record MBContentsResize (b b' : Block) (new_size : ℕ) (old_addresses new_addresses : Run) : Type 0 where
  pub changes : ΔMemoryBlock b b'
  pub old : cells old_addresses ⊆ b.used
  pub room : new_size - size old_addresses ≤ size b.free
  pub new : cells new_addresses ⊆ (cells b.free ∪ cells old_addresses)
  pub long : size new_addresses ≡ new_size
  pub used : b'.used ≐ ((b.used ∖ cells old_addresses) ∪ cells new_addresses)
  pub free : cells b'.free ≐ ((cells b.free ∪ cells old_addresses) ∖ cells new_addresses)
  pub total : cells b'.total ≐ cells b.total

-- MBGetTotalSize
pub record MBGetTotalSize (b b' : Block) (answer : ℕ) : Type 0 where
  pub stays : ΞMemoryBlock b b'
  pub total : answer ≡ size b.total

-- MBGetUsedSize
pub record MBGetUsedSize (b b' : Block) (answer : ℕ) : Type 0 where
  pub stays : ΞMemoryBlock b b'
  pub used : b.used counts answer

-- MBGetFreeSize
pub record MBGetFreeSize (b b' : Block) (answer : ℕ) : Type 0 where
  pub stays : ΞMemoryBlock b b'
  pub free : answer ≡ size b.free

-- MBOutOfMemory
pub record MBOutOfMemory (b b' : Block) (request : ℕ) (report : MMReport) : Type 0 where
  pub stays : ΞMemoryBlock b b'
  pub more : size b.free < request
  pub told : report ≡ MMoutOfMemory

-- MBNotEmpty
pub record MBNotEmpty (b b' : Block) (report : MMReport) : Type 0 where
  pub stays : ΞMemoryBlock b b'
  pub some : (b.used ≐ ∅) → ⊥
  pub told : report ≡ MMnotEmpty

-- MBResizeBelowOverhead
pub record MBResizeBelowOverhead (b b' : Block) (new_addresses : Run) (report : MMReport) : Type 0 where
  pub stays : ΞMemoryBlock b b'
  pub short : size new_addresses < size b.total - size b.free
  pub told : report ≡ MMcannotShrink

-- MBNonexistentAllocation
pub record MBNonexistentAllocation (b b' : Block) (old_addresses : Run) (report : MMReport) : Type 0 where
  pub stays : ΞMemoryBlock b b'
  pub outside : (cells old_addresses ⊆ b.used) → ⊥
  pub told : report ≡ MMnonexistentAllocation

-- MBInsufficientFreeSize
pub record MBInsufficientFreeSize (b b' : Block) (old_addresses : Run) (new_size : ℕ) (report : MMReport) : Type 0 where
  pub stays : ΞMemoryBlock b b'
  pub room : ℕ
  pub counted : (cells b.free ∪ cells old_addresses) counts room
  pub more : room < new_size
  pub told : report ≡ MMoutOfMemory

-- RMBAllocate
abbrev pub RMBAllocate : Block → Block → ℕ → Run → MMReport → Type 0
RMBAllocate b b' request allocated report = (MBAllocate b b' request allocated × Success report) ⊎ MBOutOfMemory b b' request report

-- From here on for completeness: 000's later sections use the plain operations.

-- RMBClear
abbrev pub RMBClear : Block → Block → MMReport → Type 0
RMBClear b b' report = MBClear b b' × Success report

-- RMBResize
abbrev pub RMBResize : Block → Block → Run → Run → MMReport → Type 0
RMBResize b b' new_addresses old_addresses report =
    (MBResize b b' new_addresses old_addresses × Success report) ⊎ (MBNotEmpty b b' report ⊎ MBResizeBelowOverhead b b' new_addresses report)

-- RMBContentsResize
abbrev pub RMBContentsResize : Block → Block → ℕ → Run → Run → MMReport → Type 0
RMBContentsResize b b' new_size old_addresses new_addresses report =
    (MBContentsResize b b' new_size old_addresses new_addresses × Success report)
    ⊎ (MBNonexistentAllocation b b' old_addresses report ⊎ MBInsufficientFreeSize b b' old_addresses new_size report)

-- RMBGetTotalSize
abbrev pub RMBGetTotalSize : Block → Block → ℕ → MMReport → Type 0
RMBGetTotalSize b b' answer report = MBGetTotalSize b b' answer × Success report

-- RMBGetUsedSize
abbrev pub RMBGetUsedSize : Block → Block → ℕ → MMReport → Type 0
RMBGetUsedSize b b' answer report = MBGetUsedSize b b' answer × Success report

-- RMBGetFreeSize
abbrev pub RMBGetFreeSize : Block → Block → ℕ → MMReport → Type 0
RMBGetFreeSize b b' answer report = MBGetFreeSize b b' answer × Success report
