-- A text of calls turned into records, call by call. Assumes nothing.
use Rattle.std.specs.Prelude.{List, ℕ, zero, suc, ◌+◌, length, codes, Option, Some, None, Result, Ok, Err, if◌then◌else◌}
use Rattle.texts.specs.Buffer.{fits, overwritten}
use Rattle.notation.specs.Notation.{written}
use Rattle.notation.specs.Told.{fault_told}
use Rattle.notation.specs.declared.Call.{Call}
use Rattle.notation.specs.declared.Fault.{Fault}
use Rattle.record_bytes.specs.Records.{record_bytes}
use Rattle.translation.specs.declared.Refused.{Refused}
use Rattle.translation.specs.declared.Refused.TheVariants.{TooMany, Wrong}

-- what is told of a refusal
abbrev pub refusal_told : Refused → List ℕ
refusal_told TooMany = codes "too many calls"
refusal_told (Wrong fault) = fault_told fault

-- what a text comes to, as many bytes of records or a refusal, and the buffer with the records
pub record Translated : Type 0 where
  pub outcome : Result ℕ Refused
  pub records : List ℕ

abbrev pub record_of : Call → List ℕ
record_of k = record_bytes k.code k.numbers

-- a call goes on, all else ends the text
abbrev pub onward : Result (Option Call) Fault → ℕ → List ℕ → (Call → Translated) → Translated
onward (Ok (Some k)) end records go = go k
onward (Ok None) end records go = record { outcome = Ok end; records = records }
onward (Err fault) end records go = record { outcome = Err (Wrong fault); records = records }

-- the calls from a place on, with `end` bytes of records written; each takes one of the turns
unfoldable pub walk : ℕ → List ℕ → ℕ → ℕ → List ℕ → Translated
walk zero text place end records = record { outcome = Err TooMany; records = records }
walk (suc turns) text place end records =
    onward (written text place) end records
    (λ k. if fits end (record_of k) records
    then walk turns text k.next (end + length (record_of k)) (overwritten end (record_of k) records)
    else record { outcome = Err TooMany; records = records })

-- the whole text; there are more turns than there is room for records
unfoldable pub translated : List ℕ → List ℕ → Translated
translated text records = walk (suc (length records)) text 0 0 records
