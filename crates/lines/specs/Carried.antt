-- Loops that carry a number from line to line: a test in which the line before has a part, and a sum. Assumes nothing.
use Rattle.std.specs.Prelude.{Bool, true, false, ◌&&◌, List, [], ◌∷◌, ◌≡◌, ℕ, ◌+◌, ◌≤◌, ◌<◌, length, drop, get_or}
use Rattle.std.proofs.Math.Path.{sym}
use Rattle.std.proofs.Common.{◌∙◌, ap, arith}
use Rattle.lists.specs.Lists.{sum}
use Rattle.lines.specs.Shape.{Shape, live, from_here, from_end}

-- each element passes the test with the number that the one before it leaves, the first with e
unfoldable pub chained : {A : Type 0} (p : ℕ → A → Bool) (leaves : A → ℕ) → ℕ → List A → Bool
chained p leaves e [] = true
chained p leaves e (x ∷ l) = p e x && chained p leaves (leaves x) l

-- ---- a chained test of the first n lines

module _ {A B : Type 0} (σ : Shape A B) (p : ℕ → B → Bool) (leaves : B → ℕ) (first n : ℕ) (ls : List A) where
  -- before the line at i the number is e: the whole test is the test from there
  abbrev pub Chained : ℕ → ℕ → Type 0
  Chained e i = chained p leaves first (live σ n ls) ≡ chained p leaves e (drop i (live σ n ls))

  module _ (short : n ≤ length ls) where
    pub chain_stop : (e i : ℕ) → i < n → p e (σ.view (get_or ls i σ.zeros)) ≡ false → Chained e i → false ≡ chained p leaves first (live σ n ls)
    unfolding chained
    chain_stop e i h q c = sym (c ∙ rw (from_here σ n ls short i h, q))

    pub chain_more : (e i d : ℕ) → i < n → p e (σ.view (get_or ls i σ.zeros)) ≡ true → d ≡ leaves (σ.view (get_or ls i σ.zeros)) → Chained e i → Chained d (i + 1)
    unfolding chained
    chain_more e i d h q w c = c ∙ rw (from_here σ n ls short i h, q, w)

    pub chain_end : (e i : ℕ) → n ≤ i → Chained e i → true ≡ chained p leaves first (live σ n ls)
    unfolding chained
    chain_end e i h c = sym (c ∙ rw (from_end σ n ls short i h))

-- ---- a sum over the first n lines, from a first number on

module _ {A B : Type 0} (σ : Shape A B) (f : B → ℕ) (first n : ℕ) (ls : List A) where
  -- s is the sum before the line at i
  abbrev pub Summed : ℕ → ℕ → Type 0
  Summed s i = sum f (live σ n ls) + first ≡ sum f (drop i (live σ n ls)) + s

  module _ (short : n ≤ length ls) where
    pub sum_more : (s i : ℕ) → i < n → Summed s i → Summed (s + f (σ.view (get_or ls i σ.zeros))) (i + 1)
    sum_more s i h c =
        let e = ap (sum f) (from_here σ n ls short i h) in
        omega arith

    pub sum_end : (s i : ℕ) → n ≤ i → Summed s i → s ≡ sum f (live σ n ls) + first
    sum_end s i h c = let e = ap (sum f) (from_end σ n ls short i h) in omega arith
