-- What is to show of any list of calls: what stays of them, run without what is in S, gives the same answers, and ends where they end, without what is in S.
-- Assumes nothing.
use Rattle.std.specs.Prelude.{List, ◌≡◌, ℕ}
use Rattle.meaning.specs.Model.{Model, Bytes, whole, store_of}
use Rattle.meaning.specs.Calls.{Call}
use Rattle.meaning.specs.CallList.{after, told, bytes_after}
use Rattle.stretches.specs.Stretch.{stayed, the_rest}
use Rattle.stretches.specs.Without.{without}
use Rattle.stretches.specs.Follows.{Same}

-- what is to show of a list of calls from m, and of what stays of it from another model w and other bytes
pub record Ends (S : ℕ) (m : Model) (bs : Bytes) (w : Model) (other : Bytes) (cs : List Call) : Type 0 where
  pub answers : told w other (the_rest S m bs cs) ≡ stayed S m bs cs
  pub table : after w other (the_rest S m bs cs) ≡ without S (after m bs cs)
  pub bytes : Same S m (bytes_after m bs cs) (bytes_after w other (the_rest S m bs cs))
  pub place : whole (store_of (after m bs cs).stores S) ≡ whole (store_of m.stores S)
