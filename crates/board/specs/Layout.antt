-- The table whose every word is another number. Assumes nothing.
use Rattle.std.specs.Prelude.{List, [], ◌∷◌, ◌++◌, ◌≡◌, length, take, set}
use Rattle.std.proofs.Math.Path.{refl, ap}
use Rattle.std.proofs.Common.{sym, ◌∙◌, add-one, length-set, take-suc-set, take_all}
use Prim.Native.Nat.{ℕ, zero, suc, ◌+◌, ◌*◌, ◌≤◌, ◌<◌}
use Rattle.std.proofs.Math.Nat.{mul-suc}
use native.Mathlib.Omega.{arith}
use Rattle.names.specs.declared.lines.Store.{Store}
use Rattle.names.specs.declared.lines.Thread.{Thread}
use Rattle.names.specs.declared.lines.Stack.{Stack}
use Rattle.table.specs.declared.Table.{Table}

-- a line whose first word is w
abbrev pub store_at : ℕ → Store
store_at w = record { id = record { 0 = w }; total = w + 1; used = w + 2; parent = record { 0 = w + 3 } }

abbrev pub thread_at : ℕ → Thread
thread_at w = record { id = record { 0 = w }; context = record { 0 = w + 1 } }

abbrev pub stack_at : ℕ → Stack
stack_at w = record { id = record { 0 = w }; total = w + 1 }

-- n lines one behind the other, each k words long, the first from the word w on
unfoldable pub lines_from : {A : Type 0} → (ℕ → A) → ℕ → ℕ → ℕ → List A
lines_from line k w zero = []
lines_from line k w (suc n) = line w ∷ lines_from line k (w + k) n

-- The words 1, 2, 3 and so on, in the order in which the fields lie.
unfoldable pub numbered_table : Table
numbered_table =
    record {
      areas = record { stores = record { start = 1; length = 2 }; stacks = record { start = 3; length = 4 } };
      free = record { start = 5; length = 6 };
      stores = record { count = 7; lines = lines_from store_at 4 8 64 };
      threads = record { count = 264; lines = lines_from thread_at 2 265 32 };
      stacks = record { count = 329; lines = lines_from stack_at 2 330 32 };
    }

-- ---- a loop that writes such lines

-- the first i of n lines are written, and the next one begins with word
pub record LinesTo {A : Type 0} (line : ℕ → A) (k w n : ℕ) (l : List A) (i word : ℕ) : Type 0 where
  pub within : i ≤ n
  pub long : length l ≡ n
  pub next : word ≡ w + k * i
  pub written : take i l ≡ lines_from line k w i

module _ {A : Type 0} (line : ℕ → A) (k : ℕ) where
  lines_snoc : (n w : ℕ) → lines_from line k w (suc n) ≡ lines_from line k w n ++ (line (w + k * n) ∷ [])
  unfolding lines_from
  lines_snoc zero w = let e : w ≡ w + k * 0 = omega arith in ap (λ v. line v ∷ []) e
  lines_snoc (suc n) w =
      let e : w + k + k * n ≡ w + k * suc n = omega (arith, mul-suc k n) in
      ap (λ l. line w ∷ l) (rw e at (lines_snoc n (w + k)))

  pub lines_none : (w n : ℕ) (l : List A) → length l ≡ n → LinesTo line k w n l 0 w
  unfolding lines_from
  lines_none w n l e = record { within = omega arith; long = e; next = omega arith; written = refl }

  pub lines_more : (w n : ℕ) (l : List A) (i word : ℕ) (x : A) → LinesTo line k w n l i word → i < n → x ≡ line word → LinesTo line k w n (set l i x) (i + 1) (word + k)
  lines_more w n l i word x s h e =
      record {
        within = omega arith;
        long = simp length-set s.long;
        next = rw add-one (omega (arith, mul-suc k i));
        written = rw (add-one, e, s.next) (take-suc-set l i (line (w + k * i)) (omega arith) ∙ ap (λ f. f ++ (line (w + k * i) ∷ [])) s.written ∙ sym (lines_snoc i w));
      }

  pub lines_all : (w n : ℕ) (l : List A) (i word : ℕ) → LinesTo line k w n l i word → n ≤ i → l ≡ lines_from line k w n
  lines_all w n l i word s h =
      let e : i ≡ n = omega arith in
      sym (take_all n l (omega arith)) ∙ rw e at s.written
