-- Call 7, in words: what it promises of its answer. Find.antt of proofs proves it. Assumes nothing.
use Rattle.std.specs.Prelude.{List, ◌≡◌, ℕ, ◌≤◌}
use Rattle.lists.specs.Lists.{◌∈◌}
use Rattle.meaning.specs.Model.{Store, whole}
use Rattle.meaning.specs.Nesting.{Below, depth}
use Rattle.meaning.specs.Facts.{◌Holds◌}

-- what call 7 promises of its answer
pub record RightStore (ss : List Store) (a answer steps : ℕ) : Type 0 where
  pub store : Store
  pub listed : store ∈ ss
  pub named : store.start ≡ answer
  pub covers : whole store Holds a
  pub deepest : (s : Store) → s ∈ ss → whole s Holds a → depth ss s.start ≤ depth ss answer
  pub below : Below ss answer steps
