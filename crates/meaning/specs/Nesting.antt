-- Nested in, depth, and the deepest store that holds an address. Document 01, "The table" and call 7. Each is said twice: as a relation on the parent
-- links, in the document's words, and as a computation up the links, which the calls use. Laws/Nested.antt and Laws/Find.antt of proofs prove that they agree.
-- Assumes nothing.
use Rattle.std.specs.Prelude.{Bool, false, ◌&&◌, ◌||◌, List, [], ◌∷◌, ◌≡◌, ℕ, zero, suc, ◌+◌, ltb, eqb, if◌then◌else◌}
use Rattle.lists.specs.Lists.{◌∈◌, keep, rest}
use Rattle.meaning.specs.Model.{Store, ◌holds◌, whole, store_of, root_of}

-- ---- the relations

-- x is a child of s: a listed store, not the root, whose parent is s. The root is nobody's child.
abbrev pub Child : List Store → ℕ → ℕ → Type 0
Child ss x s = (c : Store) × (c ∈ rest ss) × (c.start ≡ x) × (c.parent ≡ s)

-- "Nested in S": a child of S or nested in a child of S
pub data Nested (ss : List Store) : ℕ → ℕ → Type 0 where
  child : {x s : ℕ} → Child ss x s → Nested ss x s
  in_child : {x y s : ℕ} → Child ss y s → Nested ss x y → Nested ss x s

-- x is n parent-to-child steps from the root
pub data Below (ss : List Store) : ℕ → ℕ → Type 0 where
  top : {x n : ℕ} → x ≡ root_of ss → n ≡ 0 → Below ss x n
  under : {x y k n : ℕ} → Child ss x y → Below ss y k → n ≡ k + 1 → Below ss x n

-- ---- the same, computed

-- the parent of a store
abbrev pub parent_in : List Store → ℕ → ℕ
parent_in ss s = (store_of ss s).parent

-- Up the parent links from x, each to a lower store, s is met. The first number only bounds the steps: x itself is enough, since each goes lower.
abbrev pub climbs : (ℕ → ℕ) → ℕ → ℕ → ℕ → Bool
climbs parent zero x s = false
climbs parent (suc n) x s = let above = climbs parent n (parent x) s in ltb (parent x) x && (eqb (parent x) s || above)

-- x is nested in s
unfoldable pub nested : List Store → ℕ → ℕ → Bool
nested ss x s = climbs (parent_in ss) x x s

-- the number of links from x up, each to a lower store; bounded in the same way
abbrev pub links : (ℕ → ℕ) → ℕ → ℕ → ℕ
links parent zero x = 0
links parent (suc n) x = let above = suc (links parent n (parent x)) in if ltb (parent x) x then above else 0

-- the number of parent-to-child steps from the root to x
unfoldable pub depth : List Store → ℕ → ℕ
depth ss x = links (parent_in ss) x x

-- the deeper of two stores, the first where they are equally deep
abbrev pub deeper : List Store → ℕ → ℕ → ℕ
deeper ss x y = if ltb (depth ss x) (depth ss y) then y else x

-- the deepest of x and some stores
abbrev pub deepest : List Store → ℕ → List Store → ℕ
deepest ss x [] = x
deepest ss x (s ∷ l) = deepest ss (deeper ss x s.start) l

-- the deepest store whose total holds the address; the root where none does
unfoldable pub store_holding : List Store → ℕ → ℕ
store_holding ss a = deepest ss (root_of ss) (keep (λ s. whole s holds a) ss)
