-- Call 7 as a way down from the root, on any list of stores: into the child that holds the address, as long as there is one in the lines that follow. The
-- lines of a sound table rise, so a child follows its parent; Right.antt proves that this is the deepest store that holds the address. Assumes nothing.
use Rattle.std.specs.Prelude.{Bool, ◌&&◌, Result, Ok, Err, List, [], ◌∷◌, ℕ, ◌+◌, eqb, if◌then◌else◌}
use Rattle.names.specs.declared.report.Report.{Report}
use Rattle.names.specs.Numbers.{number_of}
use Rattle.meaning.specs.Model.{Store, ◌holds◌, whole}
use Rattle.meaning.specs.Calls.{Outcome}
use Rattle.finding.specs.declared.Found.{Found}

-- what call 7 tells, in document 01's numbers
pub record Finding : Type 0 where
  pub report : ℕ
  pub value : ℕ
  pub steps : ℕ

abbrev pub seen : Result Found Report → Finding
seen (Ok f) = record { report = 0; value = f.store.0; steps = f.steps }
seen (Err r) = record { report = number_of r; value = 0; steps = 0 }

-- what a call of the model tells
abbrev pub told : Outcome → Finding
told o = record { report = o.report; value = o.value; steps = o.steps }

-- the answer s, k steps below the root
abbrev pub inside : ℕ → ℕ → Finding
inside s k = record { report = 0; value = s; steps = k }

-- "unknown address: outside the root's total"
abbrev pub outside : Finding
outside = record { report = 9; value = 0; steps = 0 }

-- x is a child of s and holds the address
unfoldable pub leads : ℕ → ℕ → Store → Bool
leads s a x = eqb x.parent s && whole x holds a

-- down from s, which is k steps below the root, in the lines that follow
unfoldable pub descend : List Store → ℕ → ℕ → ℕ → Finding
descend [] s k a = inside s k
descend (x ∷ l) s k a = if leads s a x then descend l x.start (k + 1) a else descend l s k a

-- down from the root, where it holds the address
unfoldable pub descent : List Store → ℕ → Finding
descent [] a = outside
descent (r ∷ l) a = if whole r holds a then descend l r.start 0 a else outside
