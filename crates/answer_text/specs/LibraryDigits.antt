-- The decimals of a number are what the library writes of it. Assumes nothing.
use Rattle.std.specs.Prelude.{List, [], ◌∷◌, ◌++◌, ◌≡◌, ℕ, suc, ◌^◌, ◌<◌}
use Rattle.std.proofs.Common.{append_assoc, sym, arith, mod-eq_of_lt}
use Rattle.std.specs.Fmt.{decimal as library_digits}
use Rattle.std.proofs.lemmas.Fmt.{AppendsLastDigit, decimal_from_appends, length-decimal-le_succ}
use Rattle.texts.specs.Decimal.{digits_of, decimal}
use Rattle.texts.proofs.DecimalLaws.{digits_one, digits_more}
use Rattle.answer_text.specs.Text.{word}

appends : AppendsLastDigit digits_of
appends = record { one = λ k n h. rw (digits_one k n h, mod-eq_of_lt h); more = digits_more }

pub library_decimal : (n : ℕ) → n < 2 ^ 64 → library_digits n ≡ decimal n
unfolding decimal
library_decimal n h = sym (decimal_from_appends digits_of appends (suc n) n h (omega (arith, length-decimal-le_succ n h)))

-- the library's digits behind a text, and a byte behind them, are a word behind the text
pub word_behind : (text : List ℕ) (n last : ℕ) → n < 2 ^ 32 → (text ++ library_digits n) ++ (last ∷ []) ≡ text ++ word n last
unfolding word
word_behind text n last h = rw (library_decimal n (omega arith)) (append_assoc text (decimal n) (last ∷ []))
