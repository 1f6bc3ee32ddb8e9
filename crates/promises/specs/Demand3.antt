-- Demand 3, on tables and lent bytes: "Start from a sound table with an empty store S. Take any calls ending in an accepted clear of S, with no accepted start
-- among them, S neither removed nor resized meanwhile, and the store area's bytes changed by these calls alone. Drop the questions, the refused calls and the
-- work done inside S; where a thread was placed in a store nested in S, place it in S. The rest, run from the same start, is all accepted with the same
-- answers, and ends with the same table and the same bytes outside S." What a question is, what work inside S is and where a thread is placed instead are the
-- words of Stretch.antt, asked of what the table reads as at that moment. `demand3` of Proof3.antt of proofs proves it of every table whose arrays are as long as they are
-- declared (`Sized`), whatever the rest hands back. Assumes nothing.
use Rattle.std.specs.Prelude.{Bool, true, not, ◌&&◌, List, [], ◌∷◌, ◌++◌, map, ◌≡◌, ℕ, eqb, if◌then◌else◌}
use Rattle.lists.specs.Lists.{◌∈◌}
use Rattle.names.specs.Numbers.{number_of}
use Rattle.meaning.specs.Model.{Bytes, whole, listed, store_of, context_in}
use Rattle.meaning.specs.Calls.{Call, clear}
use Rattle.meaning.specs.CallList.{Line}
use Rattle.stretches.specs.Stretch.{question, work_inside, moved, starts_or_resizes, SameOutside}
use Rattle.table.specs.declared.Table.{Table}
use Rattle.table.specs.Table.{reading, sound_table}
use Rattle.promises.specs.Handed.{Given, Made, last_table, last_bytes}

abbrev pub is_accepted : Given → Bool
is_accepted g = eqb (number_of g.report) 0

-- a call with what is told of it
abbrev pub line_of : Call → Given → Line
line_of c g = record { call = c; report = number_of g.report; value = g.value; steps = g.steps }

unfoldable pub lines_of : List Call → List Given → List Line
lines_of [] gs = []
lines_of (c ∷ cs) [] = []
lines_of (c ∷ cs) (g ∷ gs) = line_of c g ∷ lines_of cs gs

-- "Drop the questions, the refused calls and the work done inside S; where a thread was placed in a store nested in S, place it in S."
unfoldable pub kept_lines : ℕ → Table → List Call → List Given → List Line
kept_lines S t [] gs = []
kept_lines S t (c ∷ cs) [] = []
kept_lines S t (c ∷ cs) (g ∷ gs) =
    let later = kept_lines S g.table cs gs in
    if not (question c) && is_accepted g && not (work_inside S (reading t) c) then line_of (moved S (reading t) c) g ∷ later else later

-- "The rest"
abbrev pub rest_of : ℕ → Table → List Call → List Given → List Call
rest_of S t cs gs = map (λ l. l.call) (kept_lines S t cs gs)

-- "with no accepted start among them, S neither removed nor resized meanwhile"
unfoldable pub lasts_in : ℕ → List Call → List Given → Bool
lasts_in S [] gs = true
lasts_in S (c ∷ cs) [] = true
lasts_in S (c ∷ cs) (g ∷ gs) = not (is_accepted g && starts_or_resizes S c) && listed (reading g.table).stores S && lasts_in S cs gs

-- The calls cs, made on the table t and the store area's bytes bs, hand back gs; they are what the demand speaks of.
pub record StretchOf (S : ℕ) (t : Table) (bs : Bytes) (cs : List Call) (gs : List Given) : Type 0 where
  -- "Start from a sound table with an empty store S."
  pub sound : sound_table t ≡ true
  pub there : listed (reading t).stores S ≡ true
  pub empty : (store_of (reading t).stores S).used ≡ 0
  -- "Take any calls": made one after the other, "the store area's bytes changed by these calls alone"
  pub made : Made t bs cs gs
  -- "ending in an accepted clear of S": calls before it, and a clear by a thread whose context then is S
  pub before : List Call
  pub earlier : List Given
  pub thread : ℕ
  pub last : Given
  pub ending : cs ≡ before ++ (clear thread ∷ [])
  pub made_before : Made t bs before earlier
  pub answers : gs ≡ earlier ++ (last ∷ [])
  pub context : context_in (reading (last_table t earlier)).threads thread ≡ S
  pub accepted : is_accepted last ≡ true
  -- "with no accepted start among them, S neither removed nor resized meanwhile"
  pub meanwhile : lasts_in S cs gs ≡ true

-- "The rest, run from the same start," hands back hs;
pub record TakenBackOf (S : ℕ) (t : Table) (bs : Bytes) (cs : List Call) (gs hs : List Given) : Type 0 where
  -- it "is all accepted
  pub accepted : (h : Given) → h ∈ hs → number_of h.report ≡ 0
  -- with the same answers,
  pub answers : lines_of (rest_of S t cs gs) hs ≡ kept_lines S t cs gs
  -- and ends with the same table
  pub table : last_table t hs ≡ last_table t gs
  -- and the same bytes outside S."
  pub bytes : SameOutside (reading t).store_area (whole (store_of (reading t).stores S)) (last_bytes bs gs) (last_bytes bs hs)
  -- (S is where it was, so outside S is the same at the end as at the start)
  pub place : whole (store_of (reading (last_table t gs)).stores S) ≡ whole (store_of (reading t).stores S)
