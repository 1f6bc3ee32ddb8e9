-- From tests to facts and back: each law says what one form of test means, and `simp reflect` turns a whole test into its facts. Assumes nothing.
use Rattle.std.specs.Prelude.{Bool, true, false, not, ◌&&◌, ◌||◌, ◌↔◌, ◌⊎◌, ◌≡◌, refl, ℕ, ◌<◌, ◌≤◌, ltb, leb, eqb}
use Rattle.std.proofs.Math.Bool.{and-eq-true_iff}
use Rattle.std.proofs.Common.{inl, inr, sym, arith, ltb-true, ltb-false, leb-true, leb-false, eqb-true, lt-ltb, le-ltb, le-leb, eq-eqb, ne_eqb}
use Rattle.std.proofs.lemmas.Bool.{eqb-false, lt-leb}

-- a test is true or false
pub tested : (b : Bool) → (b ≡ true) ⊎ (b ≡ false)
tested true = inl refl
tested false = inr refl

-- and never both
pub never : {A : Type 0} (b : Bool) → b ≡ true → b ≡ false → A
never b t f = let z : ◌≡◌ {A = ℕ} 0 1 = cc in absurd (omega arith)

pub false_of : (b : Bool) → (b ≡ true → ⊥) → b ≡ false
false_of true h = absurd (h refl)
false_of false h = refl

-- tests that imply each other are equal
pub same_test : (a b : Bool) → (a ≡ true → b ≡ true) → (b ≡ true → a ≡ true) → a ≡ b
same_test true b f g = sym (f refl)
same_test false true f g = g refl
same_test false false f g = refl

pub and_iff : (a b : Bool) → ((a && b) ≡ true) ↔ ((a ≡ true) × (b ≡ true))
and_iff a b = and-eq-true_iff a b

pub implies_iff : (a b : Bool) → ((not a || b) ≡ true) ↔ (a ≡ true → b ≡ true)
implies_iff true b = (λ h _. h, λ h. h refl)
implies_iff false b = (λ h e. never false e refl, λ h. refl)

pub unless_iff : (a b : Bool) → ((a || b) ≡ true) ↔ (a ≡ false → b ≡ true)
unless_iff true b = (λ h e. never true refl e, λ h. refl)
unless_iff false b = (λ h _. h, λ h. h refl)

pub or_false_iff : (a b : Bool) → ((a || b) ≡ false) ↔ ((a ≡ false) × (b ≡ false))
or_false_iff true b = (λ h. never true refl h, λ h. never true refl h.0)
or_false_iff false b = (λ h. (refl, h), λ h. h.1)

pub not_iff : (a : Bool) → (not a ≡ true) ↔ (a ≡ false)
not_iff true = (λ h. never false h refl, λ h. never true refl h)
not_iff false = (λ _. refl, λ _. refl)

pub not_false_iff : (a : Bool) → (not a ≡ false) ↔ (a ≡ true)
not_false_iff true = (λ _. refl, λ _. refl)
not_false_iff false = (λ h. never true refl h, λ h. never false h refl)

pub ltb_iff : (a b : ℕ) → (ltb a b ≡ true) ↔ (a < b)
ltb_iff a b = (ltb-true a b, lt-ltb a b)

pub ltb_false_iff : (a b : ℕ) → (ltb a b ≡ false) ↔ (b ≤ a)
ltb_false_iff a b = (ltb-false a b, le-ltb a b)

pub leb_iff : (a b : ℕ) → (leb a b ≡ true) ↔ (a ≤ b)
leb_iff a b = (leb-true a b, le-leb a b)

pub leb_false_iff : (a b : ℕ) → (leb a b ≡ false) ↔ (b < a)
leb_false_iff a b = (leb-false a b, lt-leb a b)

pub eqb_iff : (a b : ℕ) → (eqb a b ≡ true) ↔ (a ≡ b)
eqb_iff a b = (eqb-true a b, eq-eqb a b)

pub eqb_false_iff : (a b : ℕ) → (eqb a b ≡ false) ↔ (a ≡ b → ⊥)
eqb_false_iff a b = (eqb-false a b, ne_eqb a b)

-- facts of a test; `implies_iff` stands before `unless_iff`, which would fit too
pub ruleset reflect = (and_iff, implies_iff, unless_iff, or_false_iff, not_iff, not_false_iff, ltb_iff, ltb_false_iff, leb_iff, leb_false_iff, eqb_iff, eqb_false_iff)
