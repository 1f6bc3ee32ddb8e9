-- What a list in an array tells by key: from the place that a search finds to the list that the lines mean, whatever the count says. Assumes nothing.
use Rattle.std.specs.Prelude.{List, ◌≡◌, ℕ, min, length}
use Rattle.std.proofs.Common.{sym, ◌∙◌, ap}
use Rattle.lines.specs.Shape.{Shape, live, live_length, live_clamp}

-- the length of the list that is read is the count, or the limit where the count is higher
pub count_read : {A B : Type 0} (σ : Shape A B) (count n : ℕ) (ls : List A) → length ls ≡ σ.limit → n ≡ length (live σ count ls) → n ≡ min count σ.limit
count_read σ count n ls long e = e ∙ live_length σ count ls ∙ ap (min count) long

module _ {A B : Type 0} (σ : Shape A B) (count n : ℕ) (ls : List A) (long : length ls ≡ σ.limit) (few : n ≡ min count σ.limit) where
  -- the first n lines are what the count reads
  pub lines_read : live σ n ls ≡ live σ count ls
  lines_read = ap (λ k. live σ k ls) few ∙ live_clamp σ count ls σ.limit long

  pub lines_count : n ≡ length (live σ count ls)
  lines_count = few ∙ sym (live_length σ count ls ∙ ap (min count) long)
