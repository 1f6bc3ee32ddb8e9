-- How long the texts are. Assumes nothing.
use Rattle.std.specs.Prelude.{◌≡◌, ℕ, ◌+◌, length}
use Rattle.std.proofs.Common.{arith, length-append}
use Rattle.texts.specs.Decimal.{decimal}
use Rattle.answer_text.specs.Text.{word, answer_text, stop_text}

word_length : (n last : ℕ) → length (word n last) ≡ length (decimal n) + 1
unfolding word
word_length n last = simp length-append

pub answer_length : (code report value : ℕ) → length (answer_text code report value) ≡ length (decimal code) + length (decimal report) + length (decimal value) + 3
unfolding answer_text
answer_length code report value = simp (length-append, word_length) (omega arith)

pub stop_length : (offset : ℕ) → length (stop_text offset) ≡ length (decimal offset) + 6
unfolding stop_text
stop_length offset = simp word_length (omega arith)
