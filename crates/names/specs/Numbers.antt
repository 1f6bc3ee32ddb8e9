-- The number of each report: document 01, "Report numbers"; and what is told of a call in these numbers. Assumes nothing.
use Rattle.std.specs.Prelude.{ℕ, Result, Ok, Err}
use Rattle.names.specs.declared.report.Report.{Report}
use Rattle.names.specs.declared.report.Report.TheVariants.{Accepted, OutOfMemory, NotEmpty, SizeTooSmall, NoSuchStore, StoreInUse, RootResize, NotOnlyChild, UnknownAddress, NoSuchStack, CannotShrink, NoThreadContext, Fragmentation, TableFull, BadArea, UnsoundTable}

abbrev pub number_of : Report → ℕ
number_of Accepted = 0
number_of OutOfMemory = 1
number_of NotEmpty = 2
number_of SizeTooSmall = 4
number_of NoSuchStore = 5
number_of StoreInUse = 6
number_of RootResize = 7
number_of NotOnlyChild = 8
number_of UnknownAddress = 9
number_of NoSuchStack = 10
number_of CannotShrink = 11
number_of NoThreadContext = 12
number_of Fragmentation = 13
number_of TableFull = 14
number_of BadArea = 15
number_of UnsoundTable = 16

-- what is told of a call, in document 01's numbers
pub record Told : Type 0 where
  pub report : ℕ
  pub value : ℕ

-- an accepted call has report 0 and its value; a refusal has its report and value 0
abbrev pub told_of : Result ℕ Report → Told
told_of (Ok v) = record { report = 0; value = v }
told_of (Err r) = record { report = number_of r; value = 0 }
