-- Lists whose elements have a number for a name, the key. Assumes nothing.
use Rattle.std.specs.Prelude.{◌≡◌, Bool, true, false, not, ◌&&◌, ◌||◌, List, [], ◌∷◌, ℕ, ◌<◌, ltb, eqb, if◌then◌else◌}
use Rattle.lists.specs.Lists.{◌∈◌, AllTwo, keep}

module _ {A : Type 0} (key : A → ℕ) where
  -- some element has the key k
  abbrev pub has : List A → ℕ → Bool
  has [] k = false
  has (x ∷ l) k = eqb (key x) k || has l k

  -- the first element with the key k; where there is none, `none k`
  abbrev pub at : (ℕ → A) → List A → ℕ → A
  at none [] k = none k
  at none (x ∷ l) k = if eqb (key x) k then x else at none l k

  -- n before the first element of a higher key
  abbrev pub insert : A → List A → List A
  insert n [] = n ∷ []
  insert n (x ∷ l) = if ltb (key n) (key x) then n ∷ x ∷ l else x ∷ insert n l

  -- the elements of any other key
  abbrev pub remove : ℕ → List A → List A
  remove k l = keep (λ x. not (eqb (key x) k)) l

  -- the keys rise strictly, from above k on
  abbrev pub rising_from : ℕ → List A → Bool
  rising_from k [] = true
  rising_from k (x ∷ l) = ltb k (key x) && rising_from (key x) l

  -- the keys rise strictly
  abbrev pub rising : List A → Bool
  rising [] = true
  rising (x ∷ l) = rising_from (key x) l

  -- has and rising as propositions
  abbrev pub Has : List A → ℕ → Type 0
  Has l k = (x : A) × (x ∈ l) × (key x ≡ k)

  abbrev pub Rising : List A → Type 0
  Rising l = AllTwo (λ x y. key x < key y) l
