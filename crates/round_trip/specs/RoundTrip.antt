-- The bench reads back what is written as records: a record is its code and its numbers, and each call of a text in document 01's notation is read from the
-- records of that text. Assumes nothing.
use Rattle.std.specs.Prelude.{true, List, [], ◌∷◌, ◌++◌, ◌≡◌, refl, ℕ, suc, ◌+◌, ◌*◌, ◌≤◌, ◌<◌, length, drop, get_or}
use Rattle.std.proofs.Common.{append_assoc, sym, ◌∙◌, ap, arith, leb-true, le-leb}
use Rattle.std.proofs.Math.Seq.{drop-append-add}
use Rattle.meaning.specs.Calls.{Call, root}
use Rattle.texts.specs.Record.{counts}
use Rattle.call_list.specs.Records.{call, calls, zero_after, entry, number_at, whole_record, record_at}
use Rattle.notation.specs.ReadBack.{is_word, all_at}
use Rattle.record_bytes.specs.Records.{record_bytes}
use Rattle.record_bytes.specs.Laws.{record_length_lem, number_back}
use Rattle.translation.specs.Translation.{translated}
use Rattle.translation.specs.Lines.{Spelling, Known, AllKnown, lines, record_for, records, lines-translated}

-- ---- one record

-- what is written of a code and four numbers of 32 bits is read as that code and those numbers
pub record_read : (code a b c d : ℕ) (rest : List ℕ) → a < 4294967296 → b < 4294967296 → c < 4294967296 → d < 4294967296
    → record_at (record_bytes code (a ∷ b ∷ c ∷ d ∷ []) ++ rest) 0 ≡ entry code a b c d
unfolding record_at whole_record number_at record_bytes
record_read code a b c d rest ha hb hc hd = rw (number_back a ha, number_back b hb, number_back c hc, number_back d hd)

-- and where the code is a call's, and the numbers that it lacks are 0, it is that call
pub call_read : (code a b c d : ℕ) (rest : List ℕ) → a < 4294967296 → b < 4294967296 → c < 4294967296 → d < 4294967296
    → code ≤ 15 → zero_after (get_or counts code 0) a b c d ≡ true → record_at (record_bytes code (a ∷ b ∷ c ∷ d ∷ []) ++ rest) 0 ≡ call (get_or (calls a b c d) code root)
unfolding entry
call_read code a b c d rest ha hb hc hd h z = record_read code a b c d rest ha hb hc hd ∙ rw (le-leb code 15 h, z)

-- ---- the records of a text

-- the call that a spelling means
abbrev pub call_of : Spelling → Call
call_of s = get_or (calls (get_or s.args 0 0) (get_or s.args 1 0) (get_or s.args 2 0) (get_or s.args 3 0)) s.code root

-- the arguments that there are not are 0
none_after : (xs : List ℕ) → zero_after (length xs) (get_or xs 0 0) (get_or xs 1 0) (get_or xs 2 0) (get_or xs 3 0) ≡ true
unfolding zero_after
none_after [] = refl
none_after (a ∷ []) = refl
none_after (a ∷ b ∷ []) = refl
none_after (a ∷ b ∷ c ∷ []) = refl
none_after (a ∷ b ∷ c ∷ d ∷ []) = refl
none_after (a ∷ b ∷ c ∷ d ∷ e ∷ xs) = refl

known_read : (s : Spelling) (rest : List ℕ) → Known s → record_at (record_for s ++ rest) 0 ≡ call (call_of s)
known_read s rest k =
    let word : (i : ℕ) → get_or s.args i 0 < 4294967296 = λ i. omega (arith, leb-true (get_or s.args i 0) 4294967295 (all_at is_word s.args i 0 k.2 refl)) in
    call_read s.code _ _ _ _ rest (word 0) (word 1) (word 2) (word 3) k.0 (rw (sym k.1) (none_after s.args))

-- a place behind some bytes is a place of the rest
behind : (front rest : List ℕ) (place : ℕ) → record_at (front ++ rest) (length front + place) ≡ record_at rest place
unfolding record_at
behind front rest place = rw (drop-append-add front rest place)

records_read : (before after : List Spelling) (s : Spelling) (rest : List ℕ) → AllKnown (before ++ (s ∷ after))
    → record_at (records (before ++ (s ∷ after)) ++ rest) (19 * length before) ≡ call (call_of s)
records_read [] after s rest k = rw (append_assoc (record_for s) (records after) rest) (known_read s (records after ++ rest) k.0)
records_read (x ∷ before) after s rest k =
    let more = records (before ++ (s ∷ after)) in
    let n : 19 * suc (length before) ≡ length (record_for x) + 19 * length before = omega (arith, record_length_lem x.code (get_or x.args 0 0 ∷ get_or x.args 1 0 ∷ get_or x.args 2 0 ∷ get_or x.args 3 0 ∷ []) refl) in
    rw (append_assoc (record_for x) more rest, n) (behind (record_for x) (more ++ rest) (19 * length before) ∙ records_read before after s rest k.1)

-- calls one to a line, as many as there is room for, come to records from which each is read, 19 bytes behind the one before
pub lines_read : (before after : List Spelling) (s : Spelling) (buffer : List ℕ) → AllKnown (before ++ (s ∷ after)) → 19 * length (before ++ (s ∷ after)) ≤ length buffer
    → record_at (translated (lines (before ++ (s ∷ after))) buffer).records (19 * length before) ≡ call (call_of s)
lines_read before after s buffer k h =
    let ss = before ++ (s ∷ after) in
    ap (λ t. record_at t.records (19 * length before)) (lines-translated ss buffer k h) ∙ records_read before after s (drop (19 * length ss) buffer) k
