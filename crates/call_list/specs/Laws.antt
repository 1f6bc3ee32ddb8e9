-- What stands at a place, by how many bytes follow it; and the codes that are left when the first are excluded. Assumes nothing.
use Rattle.std.specs.Prelude.{true, List, [], ◌∷◌, ◌≡◌, ℕ, zero, suc, ◌+◌, ◌≤◌, ◌<◌, length, take, drop}
use Rattle.std.proofs.Common.{arith, length-take, length-drop, drop_of_length-le, eq-eqb, ne_eqb}
use Rattle.call_list.specs.Records.{stop, zero_after, whole_record, record_at}

record_length_lem : (list : List ℕ) (place : ℕ) → place + 19 ≤ length list → length (take 19 (drop place list)) ≡ 19
record_length_lem list place h = simp (length-take, length-drop) (omega arith)

pub record_whole : (list : List ℕ) (place : ℕ) → place + 19 ≤ length list → record_at list place ≡ whole_record (take 19 (drop place list))
unfolding record_at
record_whole list place h = rw (eq-eqb (length (take 19 (drop place list))) 19 (record_length_lem list place h))

pub record_short : (list : List ℕ) (place : ℕ) → length list < place + 19 → record_at list place ≡ stop
unfolding record_at
record_short list place h = rw (ne_eqb (length (take 19 (drop place list))) 19 (simp (length-take, length-drop) (omega arith)))

-- a call that takes all four numbers lacks none
pub none_lacked : (n a b c d : ℕ) → 4 ≤ n → zero_after n a b c d ≡ true
unfolding zero_after
none_lacked n a b c d h = rw (drop_of_length-le (a ∷ b ∷ c ∷ d ∷ []) h)

-- n is none of the numbers below k, as a match on n tells it where no arm fits
abbrev pub NoneBelow : ℕ → ℕ → Type 0
NoneBelow zero n = Unit
NoneBelow (suc k) n = NoneBelow k n × (n ≡ k → ⊥)

pub past : (k n : ℕ) → NoneBelow k n → k ≤ n
past zero n h = omega arith
past (suc k) n h = let b = past k n h.0 in let d = h.1 in omega arith
