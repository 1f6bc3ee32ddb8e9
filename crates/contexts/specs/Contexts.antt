-- The two tests of a thread's context: rule 5's, that it is a listed store, and report 6's, that it is nested in the store to be cleared. Assumes nothing.
use Rattle.std.specs.Prelude.{Bool, List, ℕ}
use Rattle.meaning.specs.Model.{Store, Thread, listed}
use Rattle.meaning.specs.Nesting.{nested}

-- its context is a listed store
abbrev pub in_listed : List Store → Thread → Bool
in_listed ss t = listed ss t.context

-- its context is nested in the store s
abbrev pub in_nested : List Store → ℕ → Thread → Bool
in_nested ss s t = nested ss t.context s
