-- The bench's call list: document 01, "The bench program". A list is bytes, and at each place of it a record stands, or something to stop at. Assumes nothing.
use Rattle.std.specs.Prelude.{Bool, ◌&&◌, List, [], ◌∷◌, ℕ, ◌+◌, ◌*◌, leb, eqb, length, take, drop, get_or, if◌then◌else◌}
use Rattle.lists.specs.Lists.{all}
use Rattle.meaning.specs.Calls.{Call, root, context_of, set_context, total_of, used_of, free_of, find, allocate, make_store, clear, resize, make_stack, destroy_stack, add_thread, remove_thread}
use Rattle.meaning.specs.Cases.{start_at}
use Rattle.texts.specs.Record.{record_length, first_mark, second_mark, counts}

-- what stands at a place: a call, or what the program stops at
pub data Entry : Type 0 where
  call : Call → Entry
  stop : Entry

-- ---- the call of a code and four numbers

-- the calls of the numbers a b c d, by their codes: "the arguments in the order above"
abbrev pub calls : ℕ → ℕ → ℕ → ℕ → List Call
calls a b c d =
    start_at a b c d ∷ root ∷ context_of a ∷ set_context a b ∷ total_of a ∷ used_of a ∷ free_of a ∷ find a ∷ allocate a b ∷ make_store a b ∷ clear a ∷ resize a b
    ∷ make_stack a ∷ destroy_stack a ∷ add_thread a b ∷ remove_thread a ∷ []

abbrev pub is_zero : ℕ → Bool
is_zero n = eqb n 0

-- "and 0 in those a call lacks": of the four numbers, those after the first n are 0
unfoldable pub zero_after : ℕ → ℕ → ℕ → ℕ → ℕ → Bool
zero_after n a b c d = all is_zero (drop n (a ∷ b ∷ c ∷ d ∷ []))

-- a code above 15 and a number other than 0 where 0 belongs are stopped at
unfoldable pub entry : ℕ → ℕ → ℕ → ℕ → ℕ → Entry
entry code a b c d = if leb code 15 && zero_after (get_or counts code 0) a b c d then call (get_or (calls a b c d) code root) else stop

-- ---- the bytes of a record

-- "32-bit numbers, low byte first": the number whose first byte stands at i
unfoldable pub number_at : List ℕ → ℕ → ℕ
number_at r i = get_or r i 0 + 256 * get_or r (i + 1) 0 + 65536 * get_or r (i + 2) 0 + 16777216 * get_or r (i + 3) 0

-- the mark stands in front
abbrev pub marked : List ℕ → Bool
marked r = eqb (get_or r 0 0) first_mark && eqb (get_or r 1 0) second_mark

-- "the mark, one code byte 0 to 15, then four 32-bit numbers"
unfoldable pub whole_record : List ℕ → Entry
whole_record r = if marked r then entry (get_or r 2 0) (number_at r 3) (number_at r 7) (number_at r 11) (number_at r 15) else stop

-- "A record is 19 bytes": fewer are stopped at
unfoldable pub record_at : List ℕ → ℕ → Entry
record_at list place =
    let r = take record_length (drop place list) in
    if eqb (length r) record_length then whole_record r else stop
