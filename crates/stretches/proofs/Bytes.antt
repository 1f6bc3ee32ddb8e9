-- Bytes that are the same outside a run: such pairs compose, and zeroing alike, or inside the run alone, keeps them so. Assumes nothing.
use Rattle.std.specs.Prelude.{◌≡◌, refl, ℕ, ◌+◌, ◌≤◌, ◌<◌, length, get_or}
use Rattle.std.proofs.Common.{sym, ◌∙◌, arith}
use Rattle.std.proofs.Math.Decide.{dec_lt}
use Rattle.std.proofs.Math.ListN.{get_or-eq_default}
use Rattle.meaning.specs.Model.{Run, Bytes, end}
use Rattle.meaning.specs.Changes.{zeroed}
use Rattle.meaning.proofs.Laws.Bytes.{zeroed_length, zeroed_before, zeroed_behind, zeroed_inside}
use Rattle.stretches.specs.Stretch.{SameOutside}

-- a byte of the block is 0, or there is none
block_zero : (o n : ℕ) (bs : Bytes) (i : ℕ) → o ≤ i → i < o + n → get_or (zeroed o n bs) i 0 ≡ 0
block_zero o n bs i low high = elim (dec_lt i (length bs)) [
  | yes l ↦ zeroed_inside o n bs i 0 low high l
  | no l ↦ let k = zeroed_length o n bs in get_or-eq_default (zeroed o n bs) 0 (omega arith)
]

module _ (area run : Run) where
  pub same_bytes : (bs : Bytes) → SameOutside area run bs bs
  same_bytes bs = record { long = refl; same = λ i out. refl }

  pub same_after : {a b c : Bytes} → SameOutside area run a b → SameOutside area run b c → SameOutside area run a c
  same_after p q = record { long = q.long ∙ p.long; same = λ i out. q.same i out ∙ p.same i out }

  pub same_back : {a b : Bytes} → SameOutside area run a b → SameOutside area run b a
  same_back p = record { long = sym p.long; same = λ i out. sym (p.same i out) }

  -- the same block of both
  pub zeroed_alike : (o n : ℕ) {bs other : Bytes} → SameOutside area run bs other → SameOutside area run (zeroed o n bs) (zeroed o n other)
  zeroed_alike o n {bs} {other} s =
      record {
        long = zeroed_length o n other ∙ s.long ∙ sym (zeroed_length o n bs);
        same = λ i out. elim (dec_lt i o) [
          | yes l ↦ zeroed_before o n other i l ∙ s.same i out ∙ sym (zeroed_before o n bs i l)
          | no l ↦ elim (dec_lt i (o + n)) [
            | yes h ↦ block_zero o n other i (omega arith) h ∙ sym (block_zero o n bs i (omega arith) h)
            | no h ↦ zeroed_behind o n other i (omega arith) ∙ s.same i out ∙ sym (zeroed_behind o n bs i (omega arith))
          ]
        ];
      }

  -- a block inside the run
  pub zeroed_unseen : (o n : ℕ) (bs : Bytes) → run.start ≤ area.start + o → area.start + o + n ≤ end run → SameOutside area run bs (zeroed o n bs)
  zeroed_unseen o n bs low high =
      record {
        long = zeroed_length o n bs;
        same = λ i out. elim (dec_lt i o) [
          | yes l ↦ zeroed_before o n bs i l
          | no l ↦ elim (dec_lt i (o + n)) [
            | yes h ↦ absurd (out (omega arith))
            | no h ↦ zeroed_behind o n bs i (omega arith)
          ]
        ];
      }
