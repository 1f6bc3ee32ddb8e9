-- 000's type MMReport, the number of each of its reports, and the schema Success. Assumes nothing.
use Rattle.std.specs.Prelude.{[], ◌∷◌, ◌≡◌, refl, ℕ, ◌<◌, get_or}
use Rattle.std.proofs.Common.{sym, ◌∙◌, ap, arith}

pub data MMReport : Type 0 where
  MMokay MMoutOfMemory MMnotEmpty MMnonexistentAllocation MMsizeTooSmall MMnonexistentBS MMstoreInUse : MMReport
  MMrootBSResize MMnotOnlyChild MMunknownAddress MMnonexistentStack MMcannotShrink MMinvalidThreadAC MMfragmentation : MMReport

-- document 01: "0 to 13 follow the order of 000's report type"
abbrev pub number : MMReport → ℕ
number MMokay = 0
number MMoutOfMemory = 1
number MMnotEmpty = 2
number MMnonexistentAllocation = 3
number MMsizeTooSmall = 4
number MMnonexistentBS = 5
number MMstoreInUse = 6
number MMrootBSResize = 7
number MMnotOnlyChild = 8
number MMunknownAddress = 9
number MMnonexistentStack = 10
number MMcannotShrink = 11
number MMinvalidThreadAC = 12
number MMfragmentation = 13

-- the report of a number
abbrev pub report_of : ℕ → MMReport
report_of n =
    get_or
    (MMokay ∷ MMoutOfMemory ∷ MMnotEmpty ∷ MMnonexistentAllocation ∷ MMsizeTooSmall ∷ MMnonexistentBS ∷ MMstoreInUse ∷ MMrootBSResize ∷ MMnotOnlyChild
    ∷ MMunknownAddress ∷ MMnonexistentStack ∷ MMcannotShrink ∷ MMinvalidThreadAC ∷ MMfragmentation ∷ [])
    n
    MMokay

numbered : (r : MMReport) → (report_of (number r) ≡ r) × (number r < 14)
numbered MMokay = (refl, omega arith)
numbered MMoutOfMemory = (refl, omega arith)
numbered MMnotEmpty = (refl, omega arith)
numbered MMnonexistentAllocation = (refl, omega arith)
numbered MMsizeTooSmall = (refl, omega arith)
numbered MMnonexistentBS = (refl, omega arith)
numbered MMstoreInUse = (refl, omega arith)
numbered MMrootBSResize = (refl, omega arith)
numbered MMnotOnlyChild = (refl, omega arith)
numbered MMunknownAddress = (refl, omega arith)
numbered MMnonexistentStack = (refl, omega arith)
numbered MMcannotShrink = (refl, omega arith)
numbered MMinvalidThreadAC = (refl, omega arith)
numbered MMfragmentation = (refl, omega arith)

-- a number names one report
pub number_names : {r : MMReport} {n : ℕ} → n ≡ number r → r ≡ report_of n
number_names {r} e = sym (numbered r).0 ∙ ap report_of (sym e)

-- and no report of the type has one above 13
pub number_most : (r : MMReport) → number r < 14
number_most r = (numbered r).1

-- Success
abbrev pub Success : MMReport → Type 0
Success report = report ≡ MMokay
