-- What is said of every call in Step.antt of proofs: which checks are numbered, and which calls change the model. Assumes nothing.
use Rattle.std.specs.Prelude.{Bool, true, ◌||◌, List, ◌≡◌, ℕ, leb, ltb, eqb}
use Rattle.lists.specs.Lists.{all}
use Rattle.meaning.specs.Reports.{Check}

-- no check has the report 0
abbrev pub Numbered : List Check → Type 0
Numbered ks = all (λ k. ltb 0 k.report) ks ≡ true

-- the codes of the calls that change the model: 0, 3, 8 to 15
abbrev pub changes_model : ℕ → Bool
changes_model k = eqb k 0 || eqb k 3 || leb 8 k
