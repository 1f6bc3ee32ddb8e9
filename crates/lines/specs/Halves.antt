-- A search by halves for a key: what it finds has the key on any list, and on a rising list it finds what a search from the front finds. Assumes nothing.
use Rattle.std.specs.Prelude.{true, ◌≡◌, refl, ℕ, zero, suc, ◌+◌, ◌≤◌, ◌<◌, ltb, eqb, length, get_or}
use mathlib.Core.List.Memᴰ.{head as here}
use mathlib.Core.List.Memᴰ.{tail as there}
use mathlib.Core.List.{List, [], ◌∷◌}
use Rattle.std.proofs.Math.Logic.{inl, inr}
use Rattle.std.proofs.Common.{sym, ◌∙◌, ap, arith, eqb-true, ltb-true}
use Rattle.std.proofs.Math.Decide.{dec_lt, ℕ_discrete}
use Rattle.lists.specs.Lists.{◌∈◌}
use Rattle.lists.specs.Keyed.{has, rising, Rising}
use Rattle.lists.specs.KeyedLaws.{member_has, rising_iff}
use Rattle.lists.specs.Tests.{tested}
use Rattle.lines.specs.Shape.{Shape, live, live_full, live_at}
use Rattle.lines.specs.Search.{place, place_most, has_place}

module _ {A : Type 0} where
  pub at_in : (l : List A) (i : ℕ) (d : A) → i < length l → get_or l i d ∈ l
  at_in [] i d h = absurd (omega arith)
  at_in (x ∷ l) zero d h = here refl
  at_in (x ∷ l) (suc i) d h = there (at_in l i d (omega arith))

module _ {A : Type 0} (key : A → ℕ) where
  -- where a key is first found, there it stands
  pub place_key : (l : List A) (k : ℕ) (d : A) → place (λ x. eqb (key x) k) l < length l → key (get_or l (place (λ x. eqb (key x) k) l) d) ≡ k
  unfolding place
  place_key [] k d h = absurd (omega arith)
  place_key (x ∷ l) k d h = elim (tested (eqb (key x) k)) [
    | inl e ↦ rw e (eqb-true (key x) k e)
    | inr e ↦ let g = rw e at h in rw e (place_key l k d (omega arith))
  ]

  pub rising_at : (l : List A) → Rising key l → (i j : ℕ) (d : A) → i < j → j < length l → key (get_or l i d) < key (get_or l j d)
  rising_at [] r i j d h k = absurd (omega arith)
  rising_at (x ∷ l) r i zero d h k = absurd (omega arith)
  rising_at (x ∷ l) r zero (suc j) d h k = r.0 (get_or l j d) (at_in l j d (omega arith))
  rising_at (x ∷ l) r (suc i) (suc j) d h k = rising_at l r.1 i j d (omega arith) (omega arith)

  -- what a search by halves for k answers: r is below the length only where the list has k, and on a rising list it is the place of k
  pub record Halved (l : List A) (k r : ℕ) : Type 0 where
    pub hit : r < length l → has key l k ≡ true
    pub right : rising key l ≡ true → r ≡ place (λ x. eqb (key x) k) l

  -- the search has come down to the places from lo to below hi: on a rising list k stands there or nowhere
  abbrev pub Between : List A → ℕ → ℕ → ℕ → Type 0
  Between l k lo hi =
      rising key l ≡ true → place (λ x. eqb (key x) k) l < length l → (lo ≤ place (λ x. eqb (key x) k) l) × (place (λ x. eqb (key x) k) l < hi)

-- the key of the line at i
abbrev pub key_at : {A B : Type 0} → Shape A B → (B → ℕ) → List A → ℕ → ℕ
key_at σ key ls i = key (σ.view (get_or ls i σ.zeros))

module _ {A B : Type 0} (σ : Shape A B) (key : B → ℕ) (n : ℕ) (ls : List A) (short : n ≤ length ls) (k : ℕ) where
  abbrev l : List B
  l = live σ n ls

  abbrev d : B
  d = σ.view σ.zeros

  -- the place of k
  abbrev where_k : ℕ
  where_k = place (λ x. eqb (key x) k) l

  long : length l ≡ n
  long = live_full σ n ls short

  key_here : (i : ℕ) → i < n → key (get_or l i d) ≡ key_at σ key ls i
  key_here i h = ap key (live_at σ n ls i h)

  rises : rising key l ≡ true → Rising key l
  rises = (rising_iff key l).0

  -- on a rising list the place that it finds tells whether the list has the key
  pub halves_has : (r : ℕ) → Halved key l k r → rising key l ≡ true → ltb r n ≡ has key l k
  halves_has r h u = ap (λ j. ltb j n) (h.right u) ∙ ap (ltb where_k) (sym long) ∙ sym (has_place key l k)

  pub halves_start : Between key l k 0 n
  halves_start r p = (omega arith, omega (arith, long))

  -- where k stands, its key is k, and the keys before it are lower, those behind it higher
  stands : where_k < length l → key (get_or l where_k d) ≡ k
  stands h = place_key key l k d h

  lower : Rising key l → (i : ℕ) → i < where_k → where_k < length l → key_at σ key ls i < k
  lower r i h p = let e = stands p in let q = key_here i (omega (arith, long)) in let b = rising_at key l r i where_k d h p in omega arith

  higher : Rising key l → (i : ℕ) → where_k < i → i < n → where_k < length l → k < key_at σ key ls i
  higher r i h j p = let e = stands p in let q = key_here i j in let b = rising_at key l r where_k i d h (omega (arith, long)) in omega arith

  same : (i : ℕ) → i < n → i ≡ where_k → where_k < length l → key_at σ key ls i ≡ k
  same i h e p = sym (key_here i h) ∙ ap (λ j. key (get_or l j d)) e ∙ stands p

  pub halves_hit : (i : ℕ) → i < n → key_at σ key ls i ≡ k → Halved key l k i
  halves_hit i h e =
      let found : has key l k ≡ true = rw (← e, ← key_here i h) (member_has key l (at_in l i d (omega (arith, long)))) in
      record {
        hit = λ _. found;
        right = λ r.
            let inside : where_k < length l = ltb-true where_k (length l) (sym (has_place key l k) ∙ found) in
            elim (dec_lt i where_k) [
              | yes a ↦ let b = lower (rises r) i a inside in absurd (omega arith)
              | no a ↦ elim (dec_lt where_k i) [
                | yes c ↦ let b = higher (rises r) i c h inside in absurd (omega arith)
                | no c ↦ omega arith
              ]
            ];
      }

  pub halves_low : (lo hi i : ℕ) → i < n → key_at σ key ls i < k → Between key l k lo hi → Between key l k (i + 1) hi
  halves_low lo hi i h a b r p =
      let w = b r p in
      elim (dec_lt i where_k) [
        | yes c ↦ (omega arith, w.1)
        | no c ↦ elim (ℕ_discrete i where_k) [
          | yes e ↦ let q = same i h e p in absurd (omega arith)
          | no e ↦ let q = higher (rises r) i (omega arith) h p in absurd (omega arith)
        ]
      ]

  pub halves_high : (lo hi i : ℕ) → i < n → k < key_at σ key ls i → Between key l k lo hi → Between key l k lo i
  halves_high lo hi i h a b r p =
      let w = b r p in
      elim (dec_lt where_k i) [
        | yes c ↦ (w.0, c)
        | no c ↦ elim (ℕ_discrete i where_k) [
          | yes e ↦ let q = same i h e p in absurd (omega arith)
          | no e ↦ let q = lower (rises r) i (omega arith) p in absurd (omega arith)
        ]
      ]

  pub halves_end : (lo hi : ℕ) → hi ≤ lo → Between key l k lo hi → Halved key l k n
  halves_end lo hi h b =
      record {
        hit = λ c. absurd (omega (arith, long));
        right = λ r. elim (dec_lt where_k (length l)) [
          | yes p ↦ let w = b r p in absurd (omega (arith, w.0, w.1))
          | no p ↦ let m = place_most (λ x. eqb (key x) k) l in omega (arith, long)
        ];
      }
