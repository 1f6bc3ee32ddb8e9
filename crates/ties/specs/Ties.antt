-- What a caller of the table's methods has in hand, as the demands see it. Assumes nothing.
use Rattle.std.specs.Prelude.{ℕ}
use Rattle.meaning.specs.Model.{Bytes}
use Rattle.meaning.specs.Calls.{Call, find}
use Rattle.table.specs.declared.Table.{Table}
use Rattle.table.specs.declared.answer.Answer.{Answer}
use Rattle.table.specs.declared.answer.Found.{Found}
use Rattle.promises.specs.Handed.{Given, Handed}

-- an answer, with the bytes of the store area after the call
abbrev pub given : Answer → Bytes → Given
given a bs = record { table = a.table; report = a.report; value = a.value; steps = 0; bytes = bs }

-- A method that is lent nothing hands back the answer, whatever bytes the store area has: it leaves them.
abbrev pub Hands : Table → Call → Answer → Type 0
Hands t c a = (bs : Bytes) → Handed t bs c (given a bs)

-- The same of find, which tells its steps too.
abbrev pub HandsFound : Table → ℕ → Found → Type 0
HandsFound t a f = (bs : Bytes) → Handed t bs (find a) (record { table = f.table; report = f.report; value = f.value; steps = f.steps; bytes = bs })
