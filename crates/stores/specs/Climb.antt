-- Up the parent links by recursion: what nested-in is at a store, from what it is at the store's parent. Assumes nothing.
use Rattle.std.specs.Prelude.{false, true, ◌||◌, ◌≡◌, refl, ℕ, zero, suc, ◌≤◌, ◌<◌, ltb, eqb}
use Rattle.std.proofs.Common.{inl, inr, ap, arith, ltb-true, lt-ltb, le-ltb, eq-eqb, ne_eqb}
use Rattle.lists.specs.Tests.{tested}
use Rattle.meaning.specs.Nesting.{climbs}

module _ (par : ℕ → ℕ) where
  -- a bound on the steps that is more than enough changes nothing
  enough : (n k x s : ℕ) → x ≤ n → x ≤ k → climbs par n x s ≡ climbs par k x s
  enough zero zero x s a b = refl
  enough zero (suc k) x s a b = rw (le-ltb (par x) x (omega arith))
  enough (suc n) zero x s a b = rw (le-ltb (par x) x (omega arith))
  enough (suc n) (suc k) x s a b = elim (tested (ltb (par x) x)) [
    | inl e ↦ let l = ltb-true (par x) x e in rw e (ap (λ b. eqb (par x) s || b) (enough n k (par x) s (omega arith) (omega arith)))
    | inr e ↦ rw e
  ]

  -- the parent is no lower store: the climb ends
  pub climbs_stop : (x s : ℕ) → x ≤ par x → climbs par x x s ≡ false
  climbs_stop zero s h = refl
  climbs_stop (suc n) s h = rw (le-ltb (par (suc n)) (suc n) h)

  -- the parent is the store asked for
  pub climbs_here : (x s : ℕ) → par x < x → par x ≡ s → climbs par x x s ≡ true
  climbs_here zero s h e = absurd (omega arith)
  climbs_here (suc n) s h e = rw (lt-ltb (par (suc n)) (suc n) h, eq-eqb (par (suc n)) s e)

  -- it is another: the climb goes on from there
  pub climbs_more : (x s : ℕ) → par x < x → (par x ≡ s → ⊥) → climbs par x x s ≡ climbs par (par x) (par x) s
  climbs_more zero s h e = absurd (omega arith)
  climbs_more (suc n) s h e =
      rw (lt-ltb (par (suc n)) (suc n) h, ne_eqb (par (suc n)) s e) (enough n (par (suc n)) (par (suc n)) s (omega arith) (omega arith))
