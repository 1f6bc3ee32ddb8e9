-- A list kept in an array: a count and as many lines as the array has, those past the count zeros. What it reads as, how a list is written so, and its lines one by one.
-- Document 01, rule 8: "lines past them hold zeros. At a higher count the other rules read all lines there are." Assumes nothing.
use Rattle.std.specs.Prelude.{Bool, true, List, [], ◌∷◌, ◌++◌, map, ◌≡◌, refl, ℕ, zero, suc, ◌+◌, ◌-◌, ◌≤◌, ◌<◌, min, drop, replicate, get_or}
use Rattle.std.proofs.Common.{sym, ◌∙◌, ap₂, add-one, length-append, length-drop, drop_of_length-le, take_at, get_or-take, drop_at, drop-cons}
use Rattle.std.proofs.Math.Path.{ap}
use Rattle.std.proofs.Math.Decide.{dec_le}
use Rattle.std.proofs.Math.Nat.{min-eq_left, min-eq_right}
use native.Mathlib.Omega.{arith}
use Rattle.std.proofs.Math.ListN.{length, take, get_or-map, length-map, length-take, take-append-drop}
use Rattle.std.proofs.lemmas.List.{length-replicate}
use Rattle.std.proofs.Math.Seq.{take_all}
use Rattle.lists.specs.Lists.{all, rest}
use Rattle.lists.specs.Tests.{and_iff}

-- A is a line as the table has it, B what it means; view and back lead from one to the other. zeros is the line of zeros, and a table has limit lines.
pub record Shape (A B : Type 0) : Type 0 where
  pub view : A → B
  pub back : B → A
  pub back_view : (a : A) → back (view a) ≡ a
  pub view_back : (b : B) → view (back b) ≡ b
  pub zeros : A
  pub is_zeros : A → Bool
  pub is_zeros_true : (a : A) → is_zeros a ≡ true → a ≡ zeros
  pub limit : ℕ

module _ {A B : Type 0} (σ : Shape A B) where
  -- the list that the first n lines mean, all lines where there are fewer
  unfoldable pub live : ℕ → List A → List B
  live n ls = map σ.view (take n ls)

  -- the lines of a list, with zeros up to the limit
  unfoldable pub pad : List B → List A
  pad xs = map σ.back xs ++ replicate (σ.limit - length xs) σ.zeros

  -- the lines past the first n hold zeros
  unfoldable pub blank : ℕ → List A → Bool
  blank n ls = all σ.is_zeros (drop n ls)

  pub live_length : (n : ℕ) (ls : List A) → length (live n ls) ≡ min n (length ls)
  unfolding live
  live_length n ls = length-map (take n ls) σ.view ∙ length-take n ls

  -- all n, where there are so many lines
  pub live_full : (n : ℕ) (ls : List A) → n ≤ length ls → length (live n ls) ≡ n
  live_full n ls short = live_length n ls ∙ min-eq_left short

  -- all lines there are
  pub live_whole : (ls : List A) → live (length ls) ls ≡ map σ.view ls
  unfolding live
  live_whole ls = ap (map σ.view) (take_all (length ls) ls (omega arith))

  pub pad_length : (xs : List B) → length xs ≤ σ.limit → length (pad xs) ≡ σ.limit
  unfolding pad
  pad_length xs h = simp (length-append, length-map, length-replicate) (omega arith)

  unmap : (xs : List B) → map σ.view (map σ.back xs) ≡ xs
  unmap [] = refl
  unmap (x ∷ xs) = ap₂ (λ a b. a ∷ b) (σ.view_back x) (unmap xs)

  -- what is written reads as what it was
  pub live_pad : (xs : List B) → live (length xs) (pad xs) ≡ xs
  unfolding live pad
  live_pad xs = ap (map σ.view) (take_at (map σ.back xs) _ (length xs) (length-map xs σ.back)) ∙ unmap xs

  zeros_pass : σ.is_zeros σ.zeros ≡ true → (k : ℕ) → all σ.is_zeros (replicate k σ.zeros) ≡ true
  zeros_pass e zero = refl
  zeros_pass e (suc k) = rw e (zeros_pass e k)

  -- past a list that is written stand zeros
  pub blank_past : σ.is_zeros σ.zeros ≡ true → (xs : List B) → blank (length xs) (pad xs) ≡ true
  unfolding blank pad
  blank_past e xs =
      ap (all σ.is_zeros) (drop_at (map σ.back xs) (replicate (σ.limit - length xs) σ.zeros) (length xs) (length-map xs σ.back))
      ∙ zeros_pass e (σ.limit - length xs)

  remap : (ls : List A) → map σ.back (map σ.view ls) ≡ ls
  remap [] = refl
  remap (a ∷ ls) = ap₂ (λ a b. a ∷ b) (σ.back_view a) (remap ls)

  all_zeros : (ls : List A) → all σ.is_zeros ls ≡ true → ls ≡ replicate (length ls) σ.zeros
  all_zeros [] h = refl
  all_zeros (a ∷ ls) h = let b = (and_iff (σ.is_zeros a) _).0 h in ap₂ (λ a b. a ∷ b) (σ.is_zeros_true a b.0) (all_zeros ls b.1)

  -- where the lines past the count hold zeros, the lines are those of what they mean
  pad_live : (n : ℕ) (ls : List A) → length ls ≡ σ.limit → n ≤ σ.limit → blank n ls ≡ true → pad (live n ls) ≡ ls
  unfolding live pad blank
  pad_live n ls e h b =
      let left : σ.limit - length (map σ.view (take n ls)) ≡ length (drop n ls) = simp (length-map, length-take, length-drop) (omega arith) in
      rw (remap (take n ls), left) (ap (λ r. take n ls ++ r) (sym (all_zeros (drop n ls) b)) ∙ take-append-drop n ls)

  -- a line in use, as it reads
  pub live_at : (n : ℕ) (ls : List A) (i : ℕ) → i < n → get_or (live n ls) i (σ.view σ.zeros) ≡ σ.view (get_or ls i σ.zeros)
  unfolding live
  live_at n ls i h = get_or-map σ.view (take n ls) i σ.zeros ∙ ap σ.view (get_or-take n ls i σ.zeros h)

  -- the list from i on: the line there and what follows it, or nothing
  pub from_here : (n : ℕ) (ls : List A) → n ≤ length ls → (i : ℕ) → i < n → drop i (live n ls) ≡ σ.view (get_or ls i σ.zeros) ∷ drop (i + 1) (live n ls)
  from_here n ls short i h = rw (drop-cons (live n ls) i (σ.view σ.zeros) (omega (arith, live_full n ls short)), live_at n ls i h, add-one)

  pub from_end : (n : ℕ) (ls : List A) → n ≤ length ls → (i : ℕ) → n ≤ i → drop i (live n ls) ≡ []
  from_end n ls short i h = drop_of_length-le (live n ls) {i = i} (omega (arith, live_full n ls short))

  pub first_line : (n : ℕ) (ls : List A) → n ≤ length ls → 0 < n → live n ls ≡ σ.view (get_or ls 0 σ.zeros) ∷ drop 1 (live n ls)
  first_line n ls short h = from_here n ls short 0 h

  pub first_none : (n : ℕ) (ls : List A) → n ≤ length ls → n ≡ 0 → live n ls ≡ []
  first_none n ls short e = from_end n ls short 0 (omega arith)

  -- a count past the last line reads all lines there are
  pub live_clamp : (n : ℕ) (ls : List A) (k : ℕ) → length ls ≡ k → live (min n k) ls ≡ live n ls
  unfolding live
  live_clamp n ls k e = elim (dec_le n k) [
    | yes h ↦ rw (min-eq_left h)
    | no h ↦
        let m : k ≤ n = omega arith in
        rw (min-eq_right m, take_all k ls (omega arith), take_all n ls (omega arith))
  ]

  -- a count and lines that obey rule 8 are those of what they mean
  pub written_back : (n : ℕ) (ls : List A) → length ls ≡ σ.limit → n ≤ σ.limit → blank n ls ≡ true → (length (live n ls) ≡ n) × (pad (live n ls) ≡ ls)
  written_back n ls e h b = (live_length n ls ∙ ap (min n) e ∙ min-eq_left h, pad_live n ls e h b)

-- ---- any list

-- an array of structs is known as a mapped list; it has as many lines
pub unmapped : {X Y : Type 0} (f : X → Y) (l : List X) (n : ℕ) → length (map f l) ≡ n → length l ≡ n
unmapped f l n e = sym (length-map l f) ∙ e

-- rest is drop 1
pub rest_drop : {A : Type 0} (l : List A) → rest l ≡ drop 1 l
rest_drop [] = refl
rest_drop (x ∷ l) = refl
