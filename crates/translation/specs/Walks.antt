-- How the loop over the calls goes on: what the whole text comes to is what it comes to from here. Assumes nothing.
use Rattle.std.specs.Prelude.{List, ◌≡◌, refl, ℕ, zero, suc, ◌+◌, ◌≤◌, ◌<◌, Some, None, Ok, Err}
use Rattle.std.proofs.Math.Logic.{inl, inr}
use Rattle.std.proofs.Math.Path.{sym, ap}
use Rattle.std.proofs.Common.{◌∙◌}
use native.Mathlib.Omega.{arith}
use Rattle.std.proofs.Math.ListN.{length}
use borrow.Author.Tests.{leb-true}
use Rattle.lists.specs.Tests.{tested}
use Rattle.texts.specs.Buffer.{fits, overwritten, placed, end_of}
use Rattle.texts.specs.BufferLaws.{overwritten_length}
use Rattle.notation.specs.Notation.{written}
use Rattle.notation.specs.declared.Call.{Call}
use Rattle.notation.specs.declared.Fault.{Fault}
use Rattle.record_bytes.specs.Records.{record_bytes}
use Rattle.translation.specs.Translation.{record_of, walk, translated}
use Rattle.translation.specs.declared.Refused.TheVariants.{TooMany, Wrong}

-- the loop has come to a place, with `end` bytes of records written, and turns are left for the rest of the room
abbrev pub Here : List ℕ → List ℕ → List ℕ → ℕ → ℕ → Type 0
Here text records₀ records place end =
    (turns : ℕ) × (length records < end + turns) × (end ≤ length records) × (length records ≡ length records₀) × (translated text records₀ ≡ walk turns text place end records)

pub here_first : (text records : List ℕ) → Here text records records 0 0
unfolding translated
here_first text records = (suc (length records), omega arith, omega arith, refl, refl)

module _ (text records₀ records : List ℕ) (place end : ℕ) where
  pub here_end : Here text records₀ records place end → written text place ≡ Ok None → record { outcome = Ok end; records = records } ≡ translated text records₀
  unfolding walk
  here_end (zero, room, most, same, e) w = absurd (omega arith)
  here_end (suc turns, room, most, same, e) w = sym (e ∙ rw w)

  pub here_wrong : (fault : Fault) → Here text records₀ records place end → written text place ≡ Err fault → record { outcome = Err (Wrong fault); records = records } ≡ translated text records₀
  unfolding walk
  here_wrong fault (zero, room, most, same, e) w = absurd (omega arith)
  here_wrong fault (suc turns, room, most, same, e) w = sym (e ∙ rw w)

  module _ (k : Call) (records₁ : List ℕ) (now : records₁ ≡ placed end (record_of k) records) where
    -- a record has its mark, so it is not empty
    some : 0 < length (record_of k)
    unfolding record_bytes
    some = omega arith

    pub here_full : Here text records₀ records place end → written text place ≡ Ok (Some k) → end_of end (record_of k) records ≡ None → record { outcome = Err TooMany; records = records₁ } ≡ translated text records₀
    unfolding walk placed end_of
    here_full (zero, room, most, same, e) w n = absurd (omega arith)
    here_full (suc turns, room, most, same, e) w n = elim (tested (fits end (record_of k) records)) [
      | inl t ↦ let f = rw t at n in absurd (cc)
      | inr t ↦ rw (now, t) (sym (e ∙ rw (w, t)))
    ]

    pub here_more : (next : ℕ) → Here text records₀ records place end → written text place ≡ Ok (Some k) → end_of end (record_of k) records ≡ Some next → (end < next) × Here text records₀ records₁ k.next next
    unfolding walk placed end_of
    here_more next (zero, room, most, same, e) w n = absurd (omega arith)
    here_more next (suc turns, room, most, same, e) w n = elim (tested (fits end (record_of k) records)) [
      | inl t ↦
          let f = rw t at n in
          let a : next ≡ end + length (record_of k) = cc in
          let b : records₁ ≡ overwritten end (record_of k) records = now ∙ rw t in
          let r = leb-true (end + length (record_of k)) (length records) t in
          let l : length records₁ ≡ length records = ap length b ∙ overwritten_length end (record_of k) records r in
          let f : translated text records₀ ≡ walk turns text k.next next records₁ = e ∙ rw (w, t, a, b) in
          (omega (arith, some), (turns, omega (arith, some), omega arith, l ∙ same, f))
      | inr t ↦ let f = rw t at n in absurd (cc)
    ]
