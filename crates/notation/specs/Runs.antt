-- Runs of digits in a text. Assumes nothing.
use Rattle.std.specs.Prelude.{true, ◌≡◌, ℕ, ◌≤◌, leb}
use borrow.Author.Tests.{leb-true}
use Rattle.lists.specs.Tests.{and_iff}
use Rattle.texts.specs.Decimal.{is_digit}

pub digit_low : (b : ℕ) → is_digit b ≡ true → 48 ≤ b
digit_low b h = leb-true 48 b ((and_iff (leb 48 b) (leb b 57)).0 h).0
