-- The bytes of call 8: the block's become 0, and no other changes. Assumes nothing.
use Rattle.std.specs.Prelude.{[], ◌∷◌, ◌≡◌, refl, ℕ, zero, suc, ◌+◌, ◌<◌, ◌≤◌, length, get_or}
use Rattle.std.proofs.Common.{ap, arith}
use Rattle.names.specs.Overhead.{block_taken}
use Rattle.meaning.specs.Model.{Model, Bytes}
use Rattle.meaning.specs.Changes.{zeroed}
use Rattle.meaning.specs.Calls.{allocate, checks, change, all_checks, step}
use Rattle.lists.specs.Tests.{reflect}
use Rattle.meaning.proofs.Laws.Step.{accepted_exact, accepted_sound, step_accepted}
use Rattle.meaning.specs.Laws.Bytes.{block_offset, BlockZeroed}
use Rattle.meaning.proofs.Laws.Within.{store_within, store_fits, context_listed}

pub zeroed_length : (o n : ℕ) (bs : Bytes) → length (zeroed o n bs) ≡ length bs
zeroed_length o n [] = refl
zeroed_length zero zero (b ∷ bs) = refl
zeroed_length zero (suc n) (b ∷ bs) = ap suc (zeroed_length zero n bs)
zeroed_length (suc o) n (b ∷ bs) = ap suc (zeroed_length o n bs)

pub zeroed_before : (o n : ℕ) (bs : Bytes) (i : ℕ) → i < o → get_or (zeroed o n bs) i 0 ≡ get_or bs i 0
zeroed_before o n [] i h = refl
zeroed_before zero n (b ∷ bs) i h = absurd (omega arith)
zeroed_before (suc o) n (b ∷ bs) zero h = refl
zeroed_before (suc o) n (b ∷ bs) (suc i) h = zeroed_before o n bs i (omega arith)

pub zeroed_behind : (o n : ℕ) (bs : Bytes) (i : ℕ) → o + n ≤ i → get_or (zeroed o n bs) i 0 ≡ get_or bs i 0
zeroed_behind o n [] i h = refl
zeroed_behind zero zero (b ∷ bs) i h = refl
zeroed_behind zero (suc n) (b ∷ bs) zero h = absurd (omega arith)
zeroed_behind zero (suc n) (b ∷ bs) (suc i) h = zeroed_behind zero n bs i (omega arith)
zeroed_behind (suc o) n (b ∷ bs) zero h = absurd (omega arith)
zeroed_behind (suc o) n (b ∷ bs) (suc i) h = zeroed_behind o n bs i (omega arith)

pub zeroed_inside : (o n : ℕ) (bs : Bytes) (i d : ℕ) → o ≤ i → i < o + n → i < length bs → get_or (zeroed o n bs) i d ≡ 0
zeroed_inside o n [] i d l h k = absurd (omega arith)
zeroed_inside zero zero (b ∷ bs) i d l h k = absurd (omega arith)
zeroed_inside zero (suc n) (b ∷ bs) zero d l h k = refl
zeroed_inside zero (suc n) (b ∷ bs) (suc i) d l h k = zeroed_inside zero n bs i d (omega arith) (omega arith) (omega arith)
zeroed_inside (suc o) n (b ∷ bs) zero d l h k = absurd (omega arith)
zeroed_inside (suc o) n (b ∷ bs) (suc i) d l h k = zeroed_inside o n bs i d (omega arith) (omega arith) (omega arith)

-- the context's free part lies in the store area, which is as long as the lent one
block_there : (m : Model) (bs : Bytes) (t n : ℕ) → (step m bs (allocate t n)).report ≡ 0 → block_offset m t + block_taken n ≤ length bs
unfolding all_checks checks
block_there m bs t n h =
    let f = simp reflect at ((accepted_exact m bs (allocate t n)).0 h) in
    let sound = accepted_sound m bs (allocate t n) (omega arith) h in
    let there = context_listed m sound t f.1.1.0 in
    let lies = store_within m sound _ there in
    let fits = store_fits m sound _ there in
    omega (arith, f.1.0, f.1.1.1.0)

pub allocate_bytes : (m : Model) (bs : Bytes) (t n : ℕ) → (step m bs (allocate t n)).report ≡ 0
    → BlockZeroed (block_offset m t) (block_taken n) bs (step m bs (allocate t n)).bytes
unfolding change
allocate_bytes m bs t n h =
    let there = block_there m bs t n h in
    rw (step_accepted m bs (allocate t n) h)
    (record {
      there = there;
      long = zeroed_length _ _ bs;
      low = zeroed_before _ _ bs;
      block = λ i d l k. zeroed_inside _ _ bs i d l k (omega arith);
      high = zeroed_behind _ _ bs;
    })
