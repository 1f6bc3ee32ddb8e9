-- Texts by computation: the first three calls of document 01's example, and texts that go wrong, each with its place. Assumes nothing.
use Rattle.std.specs.Prelude.{List, [], ◌∷◌, map, ◌≡◌, refl, ℕ, Option, Some, None, Result, Ok}
use Rattle.notation.specs.Numbers.{wrong, number_at}
use Rattle.notation.specs.Notation.{past_blanks, stands, after_byte, ends, argument, closed, arguments, opened, call_at, written}
use Rattle.notation.specs.declared.Call.{Call}
use Rattle.notation.specs.declared.Fault.{Fault}

-- "0(4096,256,8192,64) 14(1,4096) 8(1,20)" and a line end
abbrev example : List ℕ
example =
    48 ∷ 40 ∷ 52 ∷ 48 ∷ 57 ∷ 54 ∷ 44 ∷ 50 ∷ 53 ∷ 54 ∷ 44 ∷ 56 ∷ 49 ∷ 57 ∷ 50 ∷ 44 ∷ 54 ∷ 52 ∷ 41 ∷ 32 ∷ 49 ∷ 52 ∷ 40 ∷ 49 ∷ 44 ∷ 52 ∷ 48 ∷ 57 ∷ 54 ∷ 41 ∷ 32 ∷ 56 ∷ 40 ∷ 49 ∷ 44 ∷ 50 ∷ 48 ∷ 41 ∷ 10 ∷ []

abbrev got : ℕ → List ℕ → ℕ → Result (Option Call) Fault
got code numbers next = Ok (Some (record { code = code; numbers = numbers; next = next }))

pub example_calls
    : map (written example) (0 ∷ 19 ∷ 30 ∷ 38 ∷ [])
    ≡ got 0 (4096 ∷ 256 ∷ 8192 ∷ 64 ∷ []) 19 ∷ got 14 (1 ∷ 4096 ∷ 0 ∷ 0 ∷ []) 30 ∷ got 8 (1 ∷ 20 ∷ 0 ∷ 0 ∷ []) 38 ∷ Ok None ∷ []
unfolding written past_blanks call_at opened arguments argument closed after_byte stands ends number_at
example_calls = refl

-- "8(1, 20)": a blank inside; "2(4294967296)": a number of more than 32 bits; "16()": a code above 15; "8(1)": an argument short;
-- "6(1,2)": an argument too many; "8(1,20": a text that breaks off; "8(1,20)1()": no blank between two calls
abbrev wrong_texts : List (List ℕ)
wrong_texts =
    (56 ∷ 40 ∷ 49 ∷ 44 ∷ 32 ∷ 50 ∷ 48 ∷ 41 ∷ []) ∷
    (50 ∷ 40 ∷ 52 ∷ 50 ∷ 57 ∷ 52 ∷ 57 ∷ 54 ∷ 55 ∷ 50 ∷ 57 ∷ 54 ∷ 41 ∷ []) ∷
    (49 ∷ 54 ∷ 40 ∷ 41 ∷ []) ∷
    (56 ∷ 40 ∷ 49 ∷ 41 ∷ []) ∷
    (54 ∷ 40 ∷ 49 ∷ 44 ∷ 50 ∷ 41 ∷ []) ∷
    (56 ∷ 40 ∷ 49 ∷ 44 ∷ 50 ∷ 48 ∷ []) ∷
    (56 ∷ 40 ∷ 49 ∷ 44 ∷ 50 ∷ 48 ∷ 41 ∷ 49 ∷ 40 ∷ 41 ∷ []) ∷ []

pub example_wrong : map (λ t. written t 0) wrong_texts ≡ map wrong (4 ∷ 2 ∷ 0 ∷ 3 ∷ 3 ∷ 6 ∷ 7 ∷ [])
unfolding written past_blanks call_at opened arguments argument closed after_byte stands ends number_at
example_wrong = refl
