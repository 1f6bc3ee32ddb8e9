-- What the schemas of document 000, the requirements report, are said with: memory as sets of addresses, contiguous memory, how many elements a set has,
-- partial functions and the closure of a relation.
-- Sets are predicates, equal where they have the same elements. Assumes nothing.
use Rattle.std.specs.Prelude.{Bool, cond, not, List, [], ◌∷◌, ◌↔◌, ◌⊎◌, ◌≡◌, refl, ℕ, zero, suc, ◌+◌, ◌-◌, ◌<◌, ◌≤◌, eqb, length}
use mathlib.Core.List.Memᴰ.{cases_cons}
use mathlib.Core.List.Memᴰ.{head as here}
use mathlib.Core.List.Memᴰ.{not-nil as nowhere}
use mathlib.Core.List.Memᴰ.{tail as there}
use Rattle.std.proofs.Common.{inl, inr, ⊎_elim, sym, ap, arith, eqb-true, eq-eqb, ne_eqb}
use Rattle.std.proofs.Math.Decide.{ℕ_discrete}
use Rattle.std.proofs.lemmas.Bool.{eqb-false}
use Rattle.lists.specs.Lists.{◌∈◌, AllTwo, keep}
use Rattle.lists.specs.Tests.{tested, not_iff}
use Rattle.lists.specs.ListLaws.{member_keep}
use Rattle.lists.specs.ListChanges.{keep_shorter}
use Rattle.meaning.specs.Model.{Run}
use Rattle.meaning.specs.Facts.{◌Holds◌}

-- ---- sets

-- P MemoryAddress, and a set of identifiers
abbrev pub Numbers : Type 1
Numbers = ℕ → Type 0

infix 40 ◌≐◌ ◌⊆◌ ◌apart◌
infixl 60 ◌∪◌ ◌∖◌
-- equal sets
abbrev pub ◌≐◌ : Numbers → Numbers → Type 0
S ≐ T = (a : ℕ) → S a ↔ T a

abbrev pub ◌⊆◌ : Numbers → Numbers → Type 0
S ⊆ T = (a : ℕ) → S a → T a

-- their intersection is empty
abbrev pub ◌apart◌ : Numbers → Numbers → Type 0
S apart T = (a : ℕ) → S a → T a → ⊥

abbrev pub ◌∪◌ : Numbers → Numbers → Numbers
(S ∪ T) a = S a ⊎ T a

abbrev pub ◌∖◌ : Numbers → Numbers → Numbers
(S ∖ T) a = S a × (T a → ⊥)

abbrev pub ∅ : Numbers
∅ a = ⊥

abbrev pub ⟨◌⟩ : ℕ → Numbers
⟨ x ⟩ a = a ≡ x

-- finite: its elements can be listed
abbrev pub Finite : Numbers → Type 0
Finite S = (l : List ℕ) × ((a : ℕ) → S a ↔ (a ∈ l))

-- the least element of S is a
abbrev pub Least : Numbers → ℕ → Type 0
Least S a = S a × ((x : ℕ) → S x → a ≤ x)

infix 40 ◌counts◌
-- # S = n: its elements, each listed once, are n
pub record ◌counts◌ (S : Numbers) (n : ℕ) : Type 0 where
  pub list : List ℕ
  pub once : AllTwo (λ a b. a ≡ b → ⊥) list
  pub elements : (a : ℕ) → S a ↔ (a ∈ list)
  pub many : length list ≡ n

no_fewer : (l k : List ℕ) → AllTwo (λ a b. a ≡ b → ⊥) l → ((a : ℕ) → a ∈ l → a ∈ k) → length l ≤ length k
no_fewer [] k d s = omega arith
no_fewer (x ∷ l) k d s =
    let other : ℕ → Bool = λ a. not (eqb a x) in
    let i = no_fewer l (keep other k) d.1 (λ a m. member_keep other k (s a (there m)) ((not_iff _).1 (ne_eqb a x (λ e. d.0 a m (sym e))))) in
    let j = keep_shorter other k (s x (here refl)) (rw (eq-eqb x x refl)) in
    omega arith

-- so # S is one number
pub counts_one : {S : Numbers} {n k : ℕ} → S counts n → S counts k → n ≡ k
counts_one c d =
    let i = no_fewer c.list d.list c.once (λ a m. (d.elements a).0 ((c.elements a).1 m)) in
    let j = no_fewer d.list c.list d.once (λ a m. (c.elements a).0 ((d.elements a).1 m)) in
    omega (arith, c.many, d.many)

-- ---- contiguous memory

infix 50 ◌··◌
-- a .. b
abbrev pub ◌··◌ : ℕ → ℕ → Numbers
(a ·· b) x = (a ≤ x) × (x ≤ b)

-- ContiguousMemory, of a set
abbrev pub Contiguous : Numbers → Type 0
Contiguous S = (a : ℕ) × (b : ℕ) × (S ≐ (a ·· b))

-- An element of ContiguousMemory is given as a run: its addresses, and # of it.
abbrev pub cells : Run → Numbers
cells r a = r Holds a

abbrev pub size : Run → ℕ
size r = r.length

-- a run is contiguous memory
pub run_contiguous : (r : Run) → Contiguous (cells r)
run_contiguous r = elim (ℕ_discrete r.length 0) [
  | yes e ↦ (1, 0, λ x. omega arith)
  | no d ↦ (r.start, r.start + r.length - 1, λ x. omega arith)
]

-- and every contiguous memory is a run
pub contiguous_run : {S : Numbers} → Contiguous S → (r : Run) × (S ≐ cells r)
contiguous_run c =
    let r : Run = record { start = c.0; length = c.1 + 1 - c.0 } in
    (r, λ x. let e = c.2 x in (λ s. let b = e.0 s in omega arith, λ h. e.1 (omega arith)))

-- n addresses from a on
from : ℕ → ℕ → List ℕ
from a zero = []
from a (suc n) = a ∷ from (a + 1) n

from_elements : (a n x : ℕ) → ((a ≤ x) × (x < a + n)) ↔ (x ∈ from a n)
unfolding from
from_elements a zero x = (λ h. absurd (omega arith), λ i. absurd (nowhere i))
from_elements a (suc n) x = (
  λ h. elim (ℕ_discrete x a) [
    | yes e ↦ here e
    | no d ↦ there ((from_elements (a + 1) n x).0 (omega arith))
  ],
  λ i. ⊎_elim (λ e. omega arith) (λ j. let b = (from_elements (a + 1) n x).1 j in omega arith) (cases_cons i),
)

from_once : (a n : ℕ) → AllTwo (λ x y. x ≡ y → ⊥) (from a n)
unfolding from
from_once a zero = tt
from_once a (suc n) = ((λ y i e. let b = (from_elements (a + 1) n y).1 i in omega arith), from_once (a + 1) n)

from_many : (a n : ℕ) → length (from a n) ≡ n
unfolding from
from_many a zero = refl
from_many a (suc n) = ap suc (from_many (a + 1) n)

-- # of a run is its length
pub run_counts : {S : Numbers} (r : Run) → S ≐ cells r → S counts size r
run_counts r e =
    record {
      list = from r.start r.length;
      once = from_once r.start r.length;
      elements = λ x. let f = from_elements r.start r.length x in (λ s. f.0 ((e x).0 s), λ i. (e x).1 (f.1 i));
      many = from_many r.start r.length;
    }

-- ---- partial functions of an identifier

pub record Partial {ℓ} (A : Type ℓ) : Type (ℓ ⊔ 1) where
  pub dom : Numbers
  pub at : ℕ → A

-- {k ↦ x}
abbrev pub single {ℓ} : {A : Type ℓ} → ℕ → A → Partial A
single k x = record { dom = ⟨ k ⟩; at = λ _. x }

infixl 60 ◌⊕◌⟼◌
infix 60 ◌⩤◌
-- f ⊕ {k ↦ x}
abbrev pub ◌⊕◌⟼◌ {ℓ} : {A : Type ℓ} → Partial A → ℕ → A → Partial A
f ⊕ k ⟼ x = record { dom = f.dom ∪ ⟨ k ⟩; at = λ j. cond (eqb j k) x (f.at j) }

-- what holds of the overriding value at k, and of the other elsewhere, holds of an overridden function's values
pub picked {ℓ} : {A : Type ℓ} (P : A → Type 0) (j k : ℕ) {x y : A} → (j ≡ k → P x) → ((j ≡ k → ⊥) → P y) → P (cond (eqb j k) x y)
picked P j k at elsewhere = elim (tested (eqb j k)) [
  | inl e ↦ rw e (at (eqb-true j k e))
  | inr e ↦ rw e (elsewhere (eqb-false j k e))
]

-- f without the elements of a set in its domain
abbrev pub ◌⩤◌ {ℓ} : {A : Type ℓ} → Numbers → Partial A → Partial A
S ⩤ f = record { dom = f.dom ∖ S; at = f.at }

-- equal partial functions, where `same` is equality of their values
abbrev pub SameMap {ℓ} : {A : Type ℓ} → (A → A → Type 0) → Partial A → Partial A → Type 0
SameMap same f g = (f.dom ≐ g.dom) × ((k : ℕ) → f.dom k → same (f.at k) (g.at k))

-- f partition S, of sets that are contiguous
pub record Partition (f : Partial Run) (S : Numbers) : Type 0 where
  pub disjoint : (i j : ℕ) → f.dom i → f.dom j → (i ≡ j → ⊥) → cells (f.at i) apart cells (f.at j)
  pub union : S ≐ (λ a. (i : ℕ) × f.dom i × cells (f.at i) a)

-- ---- closures of a relation

-- R+
pub data Plus (R : ℕ → ℕ → Type 0) : ℕ → ℕ → Type 0 where
  one : {x y : ℕ} → R x y → Plus R x y
  more : {x y z : ℕ} → R x y → Plus R y z → Plus R x z

-- R*
abbrev pub Star : (ℕ → ℕ → Type 0) → ℕ → ℕ → Type 0
Star R x y = (y ≡ x) ⊎ Plus R x y
