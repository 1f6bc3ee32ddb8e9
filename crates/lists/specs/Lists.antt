-- The functions on lists that the definitions use: tests of the elements, the elements that pass one, a sum, all but the first; and AllTwo as a proposition.
-- Assumes nothing.
use Rattle.std.specs.Prelude.{Bool, true, false, ◌&&◌, ◌||◌, ℕ, ◌+◌, if◌then◌else◌}
use mathlib.Core.List.{List, [], ◌∷◌, Memᴰ}

infix 40 ◌∈◌
-- x stands in the list
abbrev pub ◌∈◌ : {A : Type 0} → A → List A → Type 0
x ∈ l = Memᴰ x l

module _ {A : Type 0} where
  -- each element passes the test
  abbrev pub all : (A → Bool) → List A → Bool
  all p [] = true
  all p (x ∷ l) = p x && all p l

  -- some element passes the test
  abbrev pub any : (A → Bool) → List A → Bool
  any p [] = false
  any p (x ∷ l) = p x || any p l

  -- every two elements pass the test
  abbrev pub all_two : (A → A → Bool) → List A → Bool
  all_two p [] = true
  all_two p (x ∷ l) = all (p x) l && all_two p l

  -- the same of a relation, as a proposition
  abbrev pub AllTwo : (A → A → Type 0) → List A → Type 0
  AllTwo R [] = Unit
  AllTwo R (x ∷ l) = ((y : A) → y ∈ l → R x y) × AllTwo R l

  -- the elements that pass the test, in their order
  abbrev pub keep : (A → Bool) → List A → List A
  keep p [] = []
  keep p (x ∷ l) = if p x then x ∷ keep p l else keep p l

  -- the sum of a number of each element
  abbrev pub sum : (A → ℕ) → List A → ℕ
  sum f [] = 0
  sum f (x ∷ l) = f x + sum f l

  -- all elements but the first
  abbrev pub rest : List A → List A
  rest [] = []
  rest (x ∷ l) = l
