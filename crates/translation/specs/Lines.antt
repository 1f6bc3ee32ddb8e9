-- A list of calls spelled one to a line comes to the records of those calls, one after the other. Assumes nothing.
use Rattle.std.specs.Prelude.{true, List, [], ◌∷◌, ◌++◌, ◌≡◌, refl, ℕ, zero, suc, ◌+◌, ◌*◌, ◌≤◌, ◌<◌, length, take, drop, get_or, Ok}
use Rattle.std.proofs.Common.{append-nil, append_assoc, ◌∙◌, ap₂, arith, length-append, take-append-drop, le-leb}
use Rattle.lists.specs.Lists.{all}
use Rattle.texts.specs.Record.{counts}
use Rattle.texts.specs.Buffer.{overwritten}
use Rattle.texts.specs.BufferLaws.{overwritten_length, overwritten_more}
use Rattle.notation.specs.Notation.{is_blank}
use Rattle.notation.specs.Spelled.{spelled}
use Rattle.notation.specs.ReadBack.{is_word, read_back, read_end}
use Rattle.record_bytes.specs.Records.{record_bytes}
use Rattle.record_bytes.specs.Laws.{record_length_lem}
use Rattle.translation.specs.Translation.{walk, translated}

-- a call by its code and its arguments
pub record Spelling : Type 0 where
  pub code : ℕ
  pub args : List ℕ

-- one that there is: a code up to 15, as many arguments as it takes, each of 32 bits
abbrev pub Known : Spelling → Type 0
Known s = (s.code ≤ 15) × (length s.args ≡ get_or counts s.code 0) × (all is_word s.args ≡ true)

abbrev pub AllKnown : List Spelling → Type 0
AllKnown [] = Unit
AllKnown (s ∷ ss) = Known s × AllKnown ss

-- one call to a line
abbrev pub lines : List Spelling → List ℕ
lines [] = []
lines (s ∷ ss) = spelled s.code s.args ++ (10 ∷ lines ss)

-- the record of a call, 0 for the arguments that it lacks
abbrev pub record_for : Spelling → List ℕ
record_for s = record_bytes s.code (get_or s.args 0 0 ∷ get_or s.args 1 0 ∷ get_or s.args 2 0 ∷ get_or s.args 3 0 ∷ [])

abbrev pub records : List Spelling → List ℕ
records [] = []
records (s ∷ ss) = record_for s ++ records ss

-- ---- line by line

walk-lines
    : (ss : List Spelling) (before blanks : List ℕ) (turns end : ℕ) (buffer : List ℕ)
    → AllKnown ss
    → all is_blank blanks ≡ true
    → length ss < turns
    → end + length (records ss) ≤ length buffer
    → walk turns (before ++ (blanks ++ lines ss)) (length before) end buffer ≡ record { outcome = Ok (end + length (records ss)); records = overwritten end (records ss) buffer }
unfolding walk overwritten
walk-lines ss before blanks zero end buffer k b t r = absurd (omega arith)
walk-lines [] before blanks (suc turns) end buffer k b t r =
    let z : end + 0 ≡ end = omega arith in
    rw (append-nil blanks, read_end before blanks b, z, append-nil (take end buffer), take-append-drop end buffer)
walk-lines (s ∷ ss) before blanks (suc turns) end buffer k b t r =
    let sp = spelled s.code s.args in
    let m = length (record_for s) in
    let e = read_back before blanks s.code s.args (10 ∷ lines ss) k.0.0 k.0.1 k.0.2 b refl in
    let room : end + m + length (records ss) ≤ length buffer = omega (arith, length-append (record_for s) (records ss)) in
    let now = overwritten end (record_for s) buffer in
    let long : length now ≡ length buffer = overwritten_length end (record_for s) buffer (omega arith) in
    let i = walk-lines ss (before ++ (blanks ++ sp)) (10 ∷ []) turns (end + m) now k.1 refl (omega arith) (omega arith) in
    let text : before ++ (blanks ++ (sp ++ (10 ∷ lines ss))) ≡ (before ++ (blanks ++ sp)) ++ (10 ∷ lines ss) = simp append_assoc in
    let place : length before + length blanks + length sp ≡ length (before ++ (blanks ++ sp)) = simp length-append (omega arith) in
    let last : end + m + length (records ss) ≡ end + length (record_for s ++ records ss) = simp length-append (omega arith) in
    rw (e, le-leb (end + m) (length buffer) (omega arith))
    (ap₂ (λ l n. walk turns l n (end + m) now) text place ∙ i ∙ ap₂ (λ n l. record { outcome = Ok n; records = l }) last (overwritten_more end (record_for s) buffer (records ss) room))

records_length : (ss : List Spelling) → length (records ss) ≡ 19 * length ss
records_length [] = refl
records_length (s ∷ ss) =
    let i = records_length ss in
    let l = record_length_lem s.code (get_or s.args 0 0 ∷ get_or s.args 1 0 ∷ get_or s.args 2 0 ∷ get_or s.args 3 0 ∷ []) refl in
    simp length-append (omega arith)

-- as many calls as there is room for, one to a line, come to their records from the front of the buffer; what is behind them stays
pub lines-translated
    : (ss : List Spelling) (buffer : List ℕ)
    → AllKnown ss
    → 19 * length ss ≤ length buffer
    → translated (lines ss) buffer ≡ record { outcome = Ok (19 * length ss); records = records ss ++ drop (19 * length ss) buffer }
unfolding translated overwritten
lines-translated ss buffer k h =
    let n = records_length ss in
    let w = walk-lines ss [] [] (suc (length buffer)) 0 buffer k refl (omega arith) (omega arith) in
    let z : 0 + length (records ss) ≡ 19 * length ss = omega arith in
    rw z at w
