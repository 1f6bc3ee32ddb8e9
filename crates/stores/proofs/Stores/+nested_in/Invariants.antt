use Rattle.stores.proofs.Stores.+nested_in.Given as goal

-- a parent stands lower
abbrev pub decreases-nested_in : goal.decreases-nested_in
decreases-nested_in l = l.store.0
