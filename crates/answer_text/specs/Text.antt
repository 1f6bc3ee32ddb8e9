-- The text of an answer: document 01, "The bench program". Assumes nothing.
use Rattle.std.specs.Prelude.{List, [], ◌∷◌, ◌++◌, ℕ}
use Rattle.texts.specs.Decimal.{decimal}

abbrev pub space : ℕ
space = 32

abbrev pub line_end : ℕ
line_end = 10

-- a number, and the byte after it
unfoldable pub word : ℕ → ℕ → List ℕ
word n last = decimal n ++ (last ∷ [])

-- "three decimals with one space between and a line end: code, report, value"
unfoldable pub answer_text : ℕ → ℕ → ℕ → List ℕ
answer_text code report value = word code space ++ word report space ++ word value line_end

-- the letters s t o p, and a space
abbrev pub stop_word : List ℕ
stop_word = 115 ∷ 116 ∷ 111 ∷ 112 ∷ space ∷ []

-- "stop N", with a line end
unfoldable pub stop_text : ℕ → List ℕ
stop_text offset = stop_word ++ word offset line_end
