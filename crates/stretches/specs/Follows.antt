-- What is to show of one call: that one that stays does on the model without what is in S as it did on the model, and that one that is dropped changes nothing
-- there. Assumes nothing.
use Rattle.std.specs.Prelude.{◌≡◌, ℕ}
use Rattle.meaning.specs.Model.{Model, Bytes, whole, store_of}
use Rattle.meaning.specs.Calls.{Call, Outcome, checks, change}
use Rattle.meaning.specs.Reports.{NoneHolds}
use Rattle.stretches.specs.Stretch.{moved, SameOutside}
use Rattle.stretches.specs.Without.{without}

-- the bytes are the same outside S
abbrev pub Same : ℕ → Model → Bytes → Bytes → Type 0
Same S m bs other = SameOutside m.store_area (whole (store_of m.stores S)) bs other

-- a call that stays: accepted on the model without what is in S, with the same value, leading to the later model without what is in S
pub record Follows (S : ℕ) (m : Model) (bs other : Bytes) (c : Call) : Type 0 where
  pub passes : NoneHolds (checks (without S m) other (moved S m c))
  pub value : (change (without S m) other (moved S m c)).value ≡ (change m bs c).value
  pub steps : (change (without S m) other (moved S m c)).steps ≡ (change m bs c).steps
  pub model : (change (without S m) other (moved S m c)).model ≡ without S (change m bs c).model
  pub bytes : Same S m (change m bs c).bytes (change (without S m) other (moved S m c)).bytes

-- a call that is dropped: it is not seen on the model without what is in S, nor in the bytes outside S
pub record Unseen (S : ℕ) (m : Model) (bs : Bytes) (o : Outcome) : Type 0 where
  pub model : without S o.model ≡ without S m
  pub bytes : Same S m bs o.bytes
