-- The global memory manager: the schemas of 000, section 1.3, each by its name, a field for each of its lines in their order. Where a schema says that
-- a store exists that is `stores ac?`, that store stands in its place. Assumes nothing.
use Rattle.std.specs.Prelude.{◌↔◌, ◌⊎◌, ◌≡◌, ℕ, ◌+◌}
use Rattle.names.specs.Overhead.{store_overhead as backing_store_overhead}
use Rattle.meaning.specs.Model.{Run}
use Rattle.schemas.specs.Memory.{Numbers, ◌≐◌, ◌⊆◌, ∅, ⟨◌⟩, Finite, Least, cells, size, Partial, single, ◌⊕◌⟼◌, ◌⩤◌, SameMap, Partition, Plus, Star}
use Rattle.schemas.specs.Reports.{MMReport, MMokay, MMnonexistentBS, MMstoreInUse, MMrootBSResize, MMnotOnlyChild, MMunknownAddress, Success}
use Rattle.schemas.specs.Stores.{Backing, BackingStore, SameStore, ΔBackingStore, RBackingStoreInit, RBSAllocateChild, RBSClear, RBSResizeChild, RBSAllocate, RBSResize, RBSGetTotalSize, RBSGetUsedSize, RBSGetFreeSize}

-- the variables of GlobalMemoryManager
pub record Global : Type 1 where
  pub stores : Partial Backing
  pub root_backing_store : ℕ
  pub thread_a_cs : Partial ℕ
  pub child_relation : ℕ → ℕ → Type 0

-- the totals of a store's children, by identifier
abbrev pub child_totals : Global → ℕ → Partial Run
child_totals g b = record { dom = (g.stores.at b).children; at = λ x. (g.stores.at x).block.total }

-- childRelation+ of one store
abbrev pub reached : Global → ℕ → Numbers
reached g s = Plus g.child_relation s

-- GlobalMemoryManager
pub record GlobalMemoryManager (g : Global) : Type 1 where
  pub store : (b : ℕ) → g.stores.dom b → BackingStore (g.stores.at b)
  pub root : g.stores.dom g.root_backing_store
  pub selves : (b : ℕ) → g.stores.dom b → (g.stores.at b).self ≡ b
  pub parts : (b : ℕ) → g.stores.dom b → (m : Numbers) × (m ⊆ (g.stores.at b).block.used) × Partition (child_totals g b) m
  pub contexts : (t : ℕ) → g.thread_a_cs.dom t → g.stores.dom (g.thread_a_cs.at t)
  pub relation : (i j : ℕ) → g.child_relation i j ↔ (g.stores.dom i × (g.stores.at i).children j)
  pub all : (x : ℕ) → g.stores.dom x ↔ Star g.child_relation g.root_backing_store x
  pub acyclic : (s : ℕ) → g.stores.dom s → reached g s s → ⊥

-- equal stores, equal thread contexts
abbrev pub SameStores : Partial Backing → Partial Backing → Type 0
SameStores f g = SameMap SameStore f g

abbrev pub SameThreads : Partial ℕ → Partial ℕ → Type 0
SameThreads f g = SameMap (λ c d. d ≡ c) f g

-- Δ GlobalMemoryManager
pub record ΔGlobalMemoryManager (g g' : Global) : Type 1 where
  pub before : GlobalMemoryManager g
  pub after : GlobalMemoryManager g'

-- GlobalFixedVars
pub record GlobalFixedVars (g g' : Global) : Type 0 where
  pub root : g'.root_backing_store ≡ g.root_backing_store
  pub threads : SameThreads g.thread_a_cs g'.thread_a_cs

-- Ξ GlobalMemoryManager
pub record ΞGlobalMemoryManager (g g' : Global) : Type 1 where
  pub changes : ΔGlobalMemoryManager g g'
  pub stores : SameStores g.stores g'.stores
  pub fixed : GlobalFixedVars g g'
  pub relation : (i j : ℕ) → g.child_relation i j ↔ g'.child_relation i j

-- GlobalMemoryManagerInit
pub record GlobalMemoryManagerInit (g' : Global) (addresses : Run) (report : MMReport) : Type 1 where
  pub after : GlobalMemoryManager g'
  pub first : Backing
  pub initial : RBackingStoreInit first addresses report
  pub stores : SameStores (single g'.root_backing_store first) g'.stores
  pub relation : (i j : ℕ) → g'.child_relation i j → ⊥
  pub threads : g'.thread_a_cs.dom ≐ ∅

-- GlobalMakeBS
pub record GlobalMakeBS (g g' : Global) (request ac child_id : ℕ) : Type 1 where
  pub changes : ΔGlobalMemoryManager g g'
  pub there : g.stores.dom ac
  pub allocated : Run
  pub parent : Backing
  pub child : Backing
  pub allocates : RBSAllocateChild (g.stores.at ac) parent (request + backing_store_overhead) allocated child_id MMokay
  pub new : g.stores.dom child_id → ⊥
  pub initial : RBackingStoreInit child allocated MMokay
  pub self : child.self ≡ child_id
  pub stores : SameStores (g.stores ⊕ ac ⟼ parent ⊕ child_id ⟼ child) g'.stores
  pub fixed : GlobalFixedVars g g'

-- GlobalClearBS
pub record GlobalClearBS (g g' : Global) (ac : ℕ) : Type 1 where
  pub changes : ΔGlobalMemoryManager g g'
  pub there : g.stores.dom ac
  pub cleared : Backing
  pub clears : RBSClear (g.stores.at ac) cleared MMokay
  pub finite : Finite (reached g ac)
  pub stores : SameStores ((reached g ac ⩤ g.stores) ⊕ ac ⟼ cleared) g'.stores
  pub idle : (t : ℕ) → g.thread_a_cs.dom t → reached g ac (g.thread_a_cs.at t) → ⊥
  pub fixed : GlobalFixedVars g g'

-- GlobalResizeBS
pub record GlobalResizeBS (g g' : Global) (to_resize new_size new_id : ℕ) : Type 1 where
  pub changes : ΔGlobalMemoryManager g g'
  pub not_root : to_resize ≡ g.root_backing_store → ⊥
  pub there : g.stores.dom to_resize
  pub child : Backing
  pub parent : Backing
  pub parent_id : ℕ
  pub parent_there : g.stores.dom parent_id
  pub only : (g.stores.at parent_id).children ≐ ⟨ to_resize ⟩
  pub old_addresses : Run
  pub new_addresses : Run
  pub resizes : RBSResize (g.stores.at to_resize) child new_addresses old_addresses MMokay
  pub within : RBSResizeChild (g.stores.at parent_id) parent new_size old_addresses new_addresses to_resize new_id MMokay
  pub new : (g.stores.dom new_id → ⊥) ⊎ (new_id ≡ to_resize)
  pub stores : SameStores ((⟨ to_resize ⟩ ⩤ g.stores) ⊕ parent_id ⟼ parent ⊕ new_id ⟼ child) g'.stores
  pub fixed : GlobalFixedVars g g'

-- containingStores of GlobalFindAddress
abbrev pub Containing : Global → ℕ → ℕ → Type 0
Containing g address s = g.stores.dom s × cells (g.stores.at s).block.total address

-- what its μ asks: a containing store that every containing store leads to
abbrev pub Furthest : Global → ℕ → ℕ → Type 0
Furthest g address s = Containing g address s × ((x : ℕ) → Containing g address x → Star g.child_relation x s)

-- GlobalFindAddress
pub record GlobalFindAddress (g g' : Global) (address backing_store : ℕ) : Type 1 where
  pub stays : ΞGlobalMemoryManager g g'
  pub covered : cells (g.stores.at g.root_backing_store).block.total address
  pub furthest : Furthest g address backing_store
  pub alone : (s : ℕ) → Furthest g address s → s ≡ backing_store

-- GlobalGetRootBackingStore
pub record GlobalGetRootBackingStore (g g' : Global) (rbs : ℕ) : Type 1 where
  pub stays : ΞGlobalMemoryManager g g'
  pub root : rbs ≡ g.root_backing_store

-- PromoteAC
pub record PromoteAC (g g' : Global) (b b' : Backing) (ac : ℕ) : Type 1 where
  pub changes : ΔGlobalMemoryManager g g'
  pub store : ΔBackingStore b b'
  pub there : g.stores.dom ac
  pub now : SameStore (g.stores.at ac) b
  pub stores : SameStores (g.stores ⊕ ac ⟼ b') g'.stores
  pub fixed : GlobalFixedVars g g'

-- ∃ Δ BackingStore • an operation ∧ PromoteAC
pub record Promoted (operation : Backing → Backing → Type 0) (g g' : Global) (ac : ℕ) : Type 1 where
  pub store : Backing
  pub after : Backing
  pub done : operation store after
  pub promotes : PromoteAC g g' store after ac

-- GlobalAllocateMemory
pub record GlobalAllocateMemory (g g' : Global) (request ac address : ℕ) (report : MMReport) : Type 1 where
  pub allocated : Run
  pub allocates : Promoted (λ b b'. RBSAllocate b b' request allocated report) g g' ac
  pub first : Least (cells allocated) address

-- GlobalGetTotalSize
abbrev pub GlobalGetTotalSize : Global → Global → ℕ → ℕ → MMReport → Type 1
GlobalGetTotalSize g g' ac answer report = Promoted (λ b b'. RBSGetTotalSize b b' answer report) g g' ac

-- GlobalGetUsedSize
abbrev pub GlobalGetUsedSize : Global → Global → ℕ → ℕ → MMReport → Type 1
GlobalGetUsedSize g g' ac answer report = Promoted (λ b b'. RBSGetUsedSize b b' answer report) g g' ac

-- GlobalGetFreeSize
abbrev pub GlobalGetFreeSize : Global → Global → ℕ → ℕ → MMReport → Type 1
GlobalGetFreeSize g g' ac answer report = Promoted (λ b b'. RBSGetFreeSize b b' answer report) g g' ac

-- ---- errors

-- GlobalNonexistentBS
pub record GlobalNonexistentBS (g g' : Global) (ac : ℕ) (report : MMReport) : Type 1 where
  pub stays : ΞGlobalMemoryManager g g'
  pub missing : g.stores.dom ac → ⊥
  pub told : report ≡ MMnonexistentBS

-- GlobalStoreInUse: some thread's context is reached from the store
pub record GlobalStoreInUse (g g' : Global) (ac : ℕ) (report : MMReport) : Type 1 where
  pub stays : ΞGlobalMemoryManager g g'
  pub thread : ℕ
  pub known : g.thread_a_cs.dom thread
  pub inside : reached g ac (g.thread_a_cs.at thread)
  pub told : report ≡ MMstoreInUse

-- GlobalRootBSResize
pub record GlobalRootBSResize (g g' : Global) (to_resize : ℕ) (report : MMReport) : Type 1 where
  pub stays : ΞGlobalMemoryManager g g'
  pub is_root : to_resize ≡ g.root_backing_store
  pub told : report ≡ MMrootBSResize

-- GlobalNotOnlyChild
pub record GlobalNotOnlyChild (g g' : Global) (to_resize : ℕ) (report : MMReport) : Type 1 where
  pub stays : ΞGlobalMemoryManager g g'
  pub not_root : to_resize ≡ g.root_backing_store → ⊥
  pub there : g.stores.dom to_resize
  pub others : (b : ℕ) → g.stores.dom b → ((g.stores.at b).children ≐ ⟨ to_resize ⟩) → ⊥
  pub told : report ≡ MMnotOnlyChild

-- GlobalBSAllocateChildError
pub record GlobalBSAllocateChildError (g g' : Global) (request ac : ℕ) (report : MMReport) : Type 1 where
  pub stays : ΞGlobalMemoryManager g g'
  pub there : g.stores.dom ac
  pub child_id : ℕ
  pub allocated : Run
  pub after : Backing
  pub allocates : RBSAllocateChild (g.stores.at ac) after (request + backing_store_overhead) allocated child_id report
  pub failed : report ≡ MMokay → ⊥

-- GlobalBSResizeError, for new addresses of the size asked for (docs/SCHEMAS.md)
pub record GlobalBSResizeError (g g' : Global) (to_resize new_size : ℕ) (report : MMReport) : Type 1 where
  pub stays : ΞGlobalMemoryManager g g'
  pub not_root : to_resize ≡ g.root_backing_store → ⊥
  pub there : g.stores.dom to_resize
  pub after : Backing
  pub new_addresses : Run
  pub old_addresses : Run
  pub long : size new_addresses ≡ new_size
  pub resizes : RBSResize (g.stores.at to_resize) after new_addresses old_addresses report
  pub failed : report ≡ MMokay → ⊥

-- GlobalBSResizeChildError, of the parent and for the store's own addresses (docs/SCHEMAS.md)
pub record GlobalBSResizeChildError (g g' : Global) (to_resize new_size new_id : ℕ) (report : MMReport) : Type 1 where
  pub stays : ΞGlobalMemoryManager g g'
  pub not_root : to_resize ≡ g.root_backing_store → ⊥
  pub there : g.stores.dom to_resize
  pub parent_id : ℕ
  pub parent_there : g.stores.dom parent_id
  pub only : (g.stores.at parent_id).children ≐ ⟨ to_resize ⟩
  pub old_addresses : Run
  pub new_addresses : Run
  pub after : Backing
  pub old : cells old_addresses ≐ cells (g.stores.at to_resize).block.total
  pub resizes : RBSResizeChild (g.stores.at parent_id) after new_size old_addresses new_addresses to_resize new_id report
  pub failed : report ≡ MMokay → ⊥

-- GlobalUnknownAddress
pub record GlobalUnknownAddress (g g' : Global) (address : ℕ) (report : MMReport) : Type 1 where
  pub stays : ΞGlobalMemoryManager g g'
  pub outside : cells (g.stores.at g.root_backing_store).block.total address → ⊥
  pub told : report ≡ MMunknownAddress

-- ---- robust operations

-- RGlobalMemoryManagerInit
abbrev pub RGlobalMemoryManagerInit : Global → Run → MMReport → Type 1
RGlobalMemoryManagerInit g' addresses report = GlobalMemoryManagerInit g' addresses report

-- RGlobalMakeBS
abbrev pub RGlobalMakeBS : Global → Global → ℕ → ℕ → ℕ → MMReport → Type 1
RGlobalMakeBS g g' request ac child_id report =
    (GlobalMakeBS g g' request ac child_id × Success report)
    ⊎ (GlobalStoreInUse g g' ac report ⊎ (GlobalNonexistentBS g g' ac report ⊎ GlobalBSAllocateChildError g g' request ac report))

-- RGlobalClearBS
abbrev pub RGlobalClearBS : Global → Global → ℕ → MMReport → Type 1
RGlobalClearBS g g' ac report = (GlobalClearBS g g' ac × Success report) ⊎ (GlobalNonexistentBS g g' ac report ⊎ GlobalStoreInUse g g' ac report)

-- RGlobalResizeBS
abbrev pub RGlobalResizeBS : Global → Global → ℕ → ℕ → ℕ → MMReport → Type 1
RGlobalResizeBS g g' to_resize new_size new_id report =
    (GlobalResizeBS g g' to_resize new_size new_id × Success report)
    ⊎ (GlobalNonexistentBS g g' to_resize report
    ⊎ (GlobalRootBSResize g g' to_resize report
    ⊎ (GlobalNotOnlyChild g g' to_resize report ⊎ (GlobalBSResizeError g g' to_resize new_size report ⊎ GlobalBSResizeChildError g g' to_resize new_size new_id report))))

-- RGlobalGetRootBackingStore
abbrev pub RGlobalGetRootBackingStore : Global → Global → ℕ → MMReport → Type 1
RGlobalGetRootBackingStore g g' rbs report = GlobalGetRootBackingStore g g' rbs × Success report

-- RGlobalFindAddress
abbrev pub RGlobalFindAddress : Global → Global → ℕ → ℕ → MMReport → Type 1
RGlobalFindAddress g g' address backing_store report = (GlobalFindAddress g g' address backing_store × Success report) ⊎ GlobalUnknownAddress g g' address report

-- RGlobalAllocateMemory, whose first half tells the promoted operation's report (docs/SCHEMAS.md)
abbrev pub RGlobalAllocateMemory : Global → Global → ℕ → ℕ → ℕ → MMReport → Type 1
RGlobalAllocateMemory g g' request ac address report = GlobalAllocateMemory g g' request ac address report ⊎ GlobalNonexistentBS g g' ac report

-- RGlobalGetTotalSize
abbrev pub RGlobalGetTotalSize : Global → Global → ℕ → ℕ → MMReport → Type 1
RGlobalGetTotalSize g g' ac answer report = (GlobalGetTotalSize g g' ac answer report × Success report) ⊎ GlobalNonexistentBS g g' ac report

-- RGlobalGetUsedSize
abbrev pub RGlobalGetUsedSize : Global → Global → ℕ → ℕ → MMReport → Type 1
RGlobalGetUsedSize g g' ac answer report = (GlobalGetUsedSize g g' ac answer report × Success report) ⊎ GlobalNonexistentBS g g' ac report

-- RGlobalGetFreeSize
abbrev pub RGlobalGetFreeSize : Global → Global → ℕ → ℕ → MMReport → Type 1
RGlobalGetFreeSize g g' ac answer report = (GlobalGetFreeSize g g' ac answer report × Success report) ⊎ GlobalNonexistentBS g g' ac report
