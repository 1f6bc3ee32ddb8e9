-- A call list as people write it: document 01's own notation, as `0(4096,256,8192,64) 14(1,4096) 8(1,20)`. What stands at a place of such a text is a call,
-- nothing more, or what is no call, with the place where it goes wrong. Assumes nothing.
use Rattle.std.specs.Prelude.{Bool, ◌&&◌, ◌||◌, List, [], ◌∷◌, ℕ, ◌+◌, ltb, leb, eqb, length, drop, take_while, get_or, Option, Some, None, Result, Ok, Err, if◌then◌else◌}
use Rattle.texts.specs.Record.{counts}
use Rattle.notation.specs.Numbers.{wrong, number_at}
use Rattle.notation.specs.declared.Call.{Call}
use Rattle.notation.specs.declared.Fault.{Fault}

-- ---- bytes at a place

-- a space, a tab, or a byte that ends a line
abbrev pub is_blank : ℕ → Bool
is_blank b = eqb b 32 || eqb b 9 || eqb b 10 || eqb b 13

-- the first place from `place` on that holds no blank
unfoldable pub past_blanks : List ℕ → ℕ → ℕ
past_blanks text place = place + length (take_while is_blank (drop place text))

-- the bytes `(`, `,` and `)`
abbrev pub opening : ℕ
opening = 40

abbrev pub comma : ℕ
comma = 44

abbrev pub closing : ℕ
closing = 41

-- the byte b stands at a place
unfoldable pub stands : List ℕ → ℕ → ℕ → Bool
stands text at b = ltb at (length text) && eqb (get_or text at 0) b

-- the place after the byte b, which has to stand at a place
unfoldable pub after_byte : List ℕ → ℕ → ℕ → Result ℕ Fault
after_byte text at b = if stands text at b then Ok (at + 1) else wrong at

-- a blank stands at a place, or nothing
unfoldable pub ends : List ℕ → ℕ → Bool
ends text at = leb (length text) at || is_blank (get_or text at 0)

-- ---- a call

-- what has been read, and what follows it; where the text has gone wrong nothing follows
infixl 10 ◌>>=◌
abbrev pub ◌>>=◌ : {A B : Type 0} → Result A Fault → (A → Result B Fault) → Result B Fault
(Ok x) >>= follows = follows x
(Err fault) >>= follows = Err fault

-- the argument with k others in front of it, of n in all, at a place, and the place after it: a number, with a comma before all but the first. One that the call
-- lacks is 0 and no text
unfoldable pub argument : List ℕ → ℕ → ℕ → ℕ → Result (ℕ × ℕ) Fault
argument text n k at =
    if leb n k then Ok (0, at)
    else if eqb k 0 then number_at text at
    else (after_byte text at comma >>= number_at text)

-- the closing parenthesis, with a blank or nothing behind it, and the place after it
unfoldable pub closed : List ℕ → ℕ → Result ℕ Fault
closed text at = do
  next ← after_byte text at closing
  if ends text next then Ok next else wrong next

-- the arguments from a place on, and the closing
unfoldable pub arguments : List ℕ → ℕ → ℕ → Result Call Fault
arguments text code at = do
  let n = get_or counts code 0
  a ← argument text n 0 at
  b ← argument text n 1 a.1
  c ← argument text n 2 b.1
  d ← argument text n 3 c.1
  next ← closed text d.1
  Ok (record { code = code; numbers = a.0 ∷ b.0 ∷ c.0 ∷ d.0 ∷ []; next = next })

-- what follows the code that begins at `at`: codes end at 15, and the opening parenthesis comes next
unfoldable pub opened : List ℕ → ℕ → ℕ → ℕ → Result Call Fault
opened text at code next = if leb code 15 then (after_byte text next opening >>= arguments text code) else wrong at

unfoldable pub call_at : List ℕ → ℕ → Result Call Fault
call_at text at = do
  code ← number_at text at
  opened text at code.0 code.1

-- the next call from a place on
unfoldable pub written : List ℕ → ℕ → Result (Option Call) Fault
written text place =
    let at = past_blanks text place in
    if leb (length text) at then Ok None else (call_at text at >>= λ call. Ok (Some call))
