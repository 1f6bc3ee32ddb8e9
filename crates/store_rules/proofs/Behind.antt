-- The lines behind the first, by their places. Assumes nothing.
use Rattle.std.specs.Prelude.{List, [], ◌∷◌, ◌≡◌, refl, ℕ, ◌+◌, ◌<◌, ◌≤◌, length, drop, get_or}
use Rattle.std.proofs.Common.{ap, arith, ◌∙◌, add-one}

module _ {A : Type 0} where
  -- the line at a place
  at_rest : (ls : List A) (k : ℕ) (d : A) → get_or (drop 1 ls) k d ≡ get_or ls (k + 1) d
  at_rest [] k d = refl
  at_rest (x ∷ ls) k d = rw add-one refl

  pub at_other : (ls os : List A) (k : ℕ) (d : A) → os ≡ drop 1 ls → get_or os k d ≡ get_or ls (k + 1) d
  at_other ls os k d e = ap (λ l. get_or l k d) e ∙ at_rest ls k d

  pub other_in : (ls os : List A) (k : ℕ) → os ≡ drop 1 ls → k < length os → k + 1 < length ls
  other_in [] os k e h = let f : length os ≡ 0 = ap length e in absurd (omega arith)
  other_in (x ∷ ls) os k e h = let f : length os ≡ length ls = ap length e in omega arith

  pub others_done : (ls os : List A) (k : ℕ) → os ≡ drop 1 ls → length os ≤ k → length ls ≤ k + 1
  others_done [] os k e h = omega arith
  others_done (x ∷ ls) os k e h = let f : length os ≡ length ls = ap length e in omega arith
