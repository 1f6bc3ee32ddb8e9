-- How the stores of a sound model lie: nested, or sharing no address. Assumes nothing.
use Rattle.std.specs.Prelude.{false, List, ◌⊎◌, ◌≡◌, refl, ℕ, zero, suc, ◌+◌, ◌<◌, ◌≤◌}
use Rattle.std.proofs.Common.{inl, inr, ⊎_elim, sym, ◌∙◌, ap, arith}
use Rattle.std.proofs.Math.Decide.{ℕ_discrete, dec_lt}
use Rattle.lists.specs.Tests.{false_of}
use Rattle.names.specs.Overhead.{store_overhead}
use Rattle.meaning.specs.Model.{Store, Model, whole, used_part, free_part, free, listed, store_of}
use Rattle.meaning.specs.Nesting.{Child, Nested, child, in_child, parent_in}
use Rattle.meaning.specs.Facts.{◌Holds◌, ◌Inside◌, ◌ApartFrom◌, Sound}
use Rattle.meaning.proofs.Laws.Nested.{named, child_link, link_child}
use Rattle.laws.specs.ByName.{Listed, total_in, used_in, ByName, by_name}
use Rattle.laws.specs.Nesting.{nested_transitive, nested_below, inner_listed, outer_listed}

module _ (m : Model) (sound : Sound m) where
  abbrev ss : List Store
  ss = m.stores

  abbrev by : ByName m.store_area ss
  by = by_name m sound

  -- x's total lies in the used part of s, in numbers
  abbrev Lies : ℕ → ℕ → Type 0
  Lies x s = (s + store_overhead ≤ x) × (x + total_in ss x ≤ s + store_overhead + used_in ss s)

  child_lies : {x s : ℕ} → Listed ss x → Child ss x s → Lies x s
  child_lies {x} {s} h c =
      let k = child_link m sound c in
      let low = by.lowest s (outer_listed m sound (child c)) in
      let g = by.others x h (omega arith) in
      let u = ap (used_in ss) k.0 in
      omega arith

  lies : {x s : ℕ} → Nested ss x s → Lies x s
  lies (child c) = child_lies (inner_listed m sound (child c)) c
  lies (in_child {y = y} c n) =
      let g = lies n in
      let h = outer_listed m sound n in
      let f = by.fits y h in
      let u = child_lies h c in
      omega arith

  -- a nested store's total lies in the used part of each store that it is nested in
  pub nested_inside : {x s : ℕ} → Nested ss x s → whole (store_of ss x) Inside used_part (store_of ss s)
  nested_inside {x} {s} n = let g = lies n in let p = named ss x in let q = named ss s in omega arith

  -- of two children of one parent the lower ends before the other
  pub siblings : {a b p : ℕ} → Child ss a p → Child ss b p → a < b → a + total_in ss a ≤ b
  siblings {a} {b} {p} c d l =
      let i = child_link m sound c in
      let j = child_link m sound d in
      let low = by.lowest p (outer_listed m sound (child c)) in
      by.apart a b (inner_listed m sound (child c)) (inner_listed m sound (child d)) (omega arith) (i.0 ∙ sym j.0) l

  -- what is nested in a store's parent and starts below that store ends before it
  beside : {x b p : ℕ} → Nested ss x p → Child ss b p → x < b → x + total_in ss x ≤ b
  beside (child c) d l = siblings c d l
  beside (in_child {y = y} c n) d l =
      let k = nested_below m sound n in
      let f = by.fits y (outer_listed m sound n) in
      let g = lies n in
      let z = siblings c d (omega arith) in
      omega arith

  -- of two stores the later is nested in the other, or the other ends before it
  laminar : (n a b : ℕ) → b ≤ n → Listed ss a → Listed ss b → a < b → Nested ss b a ⊎ (a + total_in ss a ≤ b)
  laminar zero a b k h i l = absurd (omega arith)
  laminar (suc n) a b k h i l =
      let low = by.lowest a h in
      let g = by.others b i (omega arith) in
      let p = parent_in ss b in
      let c : Child ss b p = link_child m sound {x = b} refl (omega arith) in
      elim (ℕ_discrete p a) [
        | yes e ↦ inl (child (rw e at c))
        | no d ↦ elim (dec_lt a p) [
          | yes u ↦ ⊎_elim (λ o. inl (nested_transitive ss (child c) o)) (λ o. inr (omega arith)) (laminar n a p (omega arith) h g.parent u)
          | no u ↦ ⊎_elim
              (λ o. inr (beside o c l))
              (λ o. let f = by.fits p g.parent in absurd (omega arith))
              (laminar n p a (omega arith) g.parent h (omega arith))
        ]
      ]

  nested_or_before : (a b : ℕ) → Listed ss a → Listed ss b → a < b → Nested ss b a ⊎ (a + total_in ss a ≤ b)
  nested_or_before a b h i l = laminar b a b (omega arith) h i l

  -- Two different listed stores share no address, or one is nested in the other.
  pub apart_or_nested : (a b : ℕ) → Listed ss a → Listed ss b → (a ≡ b → ⊥)
      → (whole (store_of ss a) ApartFrom whole (store_of ss b)) ⊎ (Nested ss a b ⊎ Nested ss b a)
  apart_or_nested a b h i d =
      let p = named ss a in
      let q = named ss b in
      elim (dec_lt a b) [
        | yes l ↦ ⊎_elim (λ n. inr (inr n)) (λ o. inl (λ x j k. omega arith)) (nested_or_before a b h i l)
        | no l ↦ ⊎_elim (λ n. inr (inl n)) (λ o. inl (λ x j k. omega arith)) (nested_or_before b a i h (omega arith))
      ]

  -- A store's free part shares no address with any other listed store that it is not nested in.
  pub free_apart : (a b : ℕ) → Listed ss a → Listed ss b → (a ≡ b → ⊥) → (Nested ss a b → ⊥) → free_part (store_of ss a) ApartFrom whole (store_of ss b)
  free_apart a b h i d out =
      let f = by.fits a h in
      ⊎_elim (λ o x j k. o x (omega arith) k)
      (λ o. ⊎_elim (λ n. absurd (out n)) (λ n x j k. let g = nested_inside n in omega arith) o)
      (apart_or_nested a b h i d)

  -- No store begins where another's free part does, if that part has any bytes.
  pub none_at_free : (a : ℕ) → Listed ss a → 0 < free (store_of ss a) → listed ss (a + store_overhead + used_in ss a) ≡ false
  none_at_free a h some =
      let b = a + store_overhead + used_in ss a in
      false_of _
      (λ i.
      let f = by.fits b i in
      let p = named ss a in
      let q = named ss b in
      free_apart a b h i (omega arith) (λ n. let l = nested_below m sound n in omega arith) b (omega arith) (omega arith))

  -- Of two listed stores that hold one address, one is nested in the other: the holders of an address are a chain.
  pub holders_nested : (a b x : ℕ) → Listed ss a → Listed ss b → (a ≡ b → ⊥) → whole (store_of ss a) Holds x → whole (store_of ss b) Holds x
      → Nested ss a b ⊎ Nested ss b a
  holders_nested a b x h i d j k = ⊎_elim (λ o. absurd (o x j k)) (λ n. n) (apart_or_nested a b h i d)
