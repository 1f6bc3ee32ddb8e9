-- The bytes of call 8: a part of the area, filled with zeros and put back, is the area with those bytes zeroed. Assumes nothing.
use Rattle.std.specs.Prelude.{[], ◌∷◌, ◌≡◌, refl, ℕ, zero, suc, ◌+◌, ◌-◌, ◌<◌, ◌≤◌, Result, Ok, Err, min, leb, length, replicate}
use Rattle.std.proofs.Common.{inl, inr, sym, ◌∙◌, ap, arith}
use borrow.Author.Tests.{leb-true, leb-false}
use borrow.Rule.Slice.PartMut.{put_mid}
use Rattle.lists.specs.Tests.{tested}
use Rattle.names.specs.declared.report.Report.{Report}
use Rattle.names.specs.Overhead.{allocation_overhead, block_taken}
use Rattle.meaning.specs.Model.{Bytes}
use Rattle.meaning.specs.Changes.{zeroed}

-- the bytes of the area that begins at start, after a call of n bytes that told this: the block of an accepted call becomes 0, a refused call leaves them all
unfoldable pub zeroed_as_told : Result ℕ Report → ℕ → ℕ → Bytes → Bytes
zeroed_as_told (Ok address) start n bs = zeroed (address - allocation_overhead - start) (block_taken n) bs
zeroed_as_told (Err r) start n bs = bs

pub zeroed_none : (o : ℕ) (bs : Bytes) → zeroed o 0 bs ≡ bs
zeroed_none o [] = refl
zeroed_none zero (b ∷ bs) = refl
zeroed_none (suc o) (b ∷ bs) = ap (λ l. b ∷ l) (zeroed_none o bs)

-- past the end there is nothing to zero
past : (o k n : ℕ) (bs : Bytes) → length bs ≤ o + k → k ≤ n → zeroed o k bs ≡ zeroed o n bs
past o k n [] h l = refl
past zero zero n (b ∷ bs) h l = absurd (omega arith)
past zero (suc k) zero (b ∷ bs) h l = absurd (omega arith)
past zero (suc k) (suc n) (b ∷ bs) h l = ap (λ l. 0 ∷ l) (past zero k n bs (omega arith) (omega arith))
past (suc o) k n (b ∷ bs) h l = ap (λ l. b ∷ l) (past o k n bs (omega arith) l)

-- k bytes from o on are filled, where n are asked for and the list ends first, or not
filled_start : (k n : ℕ) (bs : Bytes) → k ≡ min n (length bs) → put_mid 0 k bs (replicate k 0) ≡ zeroed 0 n bs
filled_start zero zero bs e = sym (zeroed_none 0 bs)
filled_start zero (suc n) [] e = refl
filled_start zero (suc n) (b ∷ bs) e = absurd (omega arith)
filled_start (suc k) n [] e = absurd (omega arith)
filled_start (suc k) zero (b ∷ bs) e = absurd (omega arith)
filled_start (suc k) (suc n) (b ∷ bs) e = ap (λ l. 0 ∷ l) (filled_start k n bs (omega arith))

filled : (o k n : ℕ) (bs : Bytes) → o < length bs → k ≡ min n (length bs - o) → put_mid o k bs (replicate k 0) ≡ zeroed o n bs
filled o k n [] h e = absurd (omega arith)
filled zero k n (b ∷ bs) h e = filled_start k n (b ∷ bs) (omega arith)
filled (suc o) k n (b ∷ bs) h e = ap (λ l. b ∷ l) (filled o k n bs (omega arith) (omega arith))

-- the part from one offset up to another, as far as the list goes
pub zeroed_part : (o t e : ℕ) (bs part : Bytes) → e ≡ min t (length bs) → o < e → part ≡ replicate (e - o) 0 → put_mid o (e - o) bs part ≡ zeroed o (t - o) bs
zeroed_part o t e bs part q h p = rw p (filled o (e - o) (t - o) bs (omega arith) (omega arith))

-- no byte of the list lies between the two
pub zeroed_off : (o t e : ℕ) (bs : Bytes) → e ≡ min t (length bs) → e ≤ o → bs ≡ zeroed o (t - o) bs
zeroed_off o t e bs q h = elim (tested (leb t o)) [
  | inl l ↦ let z : t - o ≡ 0 = omega (arith, leb-true t o l) in rw z (sym (zeroed_none o bs))
  | inr l ↦ sym (zeroed_none o bs) ∙ past o 0 (t - o) bs (omega (arith, leb-false t o l)) (omega arith)
]
