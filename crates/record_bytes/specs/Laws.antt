-- A record is 19 bytes, and its numbers are read back from their bytes. Assumes nothing.
use Rattle.std.specs.Prelude.{List, [], ◌∷◌, ◌≡◌, refl, ℕ, ◌+◌, ◌*◌, ◌/◌, ◌<◌, ◌≤◌, length, get_or, take, replicate, flat_map, Some, None}
use Rattle.std.proofs.Common.{mod-eq_of_lt, div-lt_iff_lt-mul, arith, length-take, ◌∙◌, append-nil, take_all, le-leb}
use Rattle.std.proofs.Math.Nat.{div-add-mod, div-div-eq-div-mul}
use Rattle.std.proofs.lemmas.List.{take_more, flat_map_more}
use Rattle.std.proofs.lemmas.Bool.{lt-leb}
use borrow.Rule.Slice.PartMut.{put_mid}
use Rattle.texts.specs.Buffer.{overwritten, placed, end_of, Put}
use Rattle.texts.specs.BufferLaws.{overwritten_more, put_back}
use Rattle.record_bytes.specs.Records.{low_first, record_bytes}

-- four bytes for each number
numbers_length : (numbers : List ℕ) → length (flat_map low_first numbers) ≡ 4 * length numbers
numbers_length [] = refl
numbers_length (n ∷ numbers) = omega (arith, numbers_length numbers)

-- one number more behind those that stand from the place 3 on
pub numbers_more
    : (numbers buffer part : List ℕ) (i k : ℕ)
    → i < length numbers
    → 3 + 4 * length numbers ≤ length buffer
    → k ≡ 4
    → part ≡ low_first (get_or numbers i 0)
    → put_mid (3 + 4 * i) k (overwritten 3 (flat_map low_first (take i numbers)) buffer) part ≡ overwritten 3 (flat_map low_first (take (i + 1) numbers)) buffer
numbers_more numbers buffer part i k h room four made =
    let s = flat_map low_first (take i numbers) in
    let n : length s ≡ 4 * i = omega (arith, numbers_length (take i numbers), length-take {A = ℕ}) in
    rw (put_back (3 + 4 * i) (low_first (get_or numbers i 0)) (overwritten 3 s buffer) k part four made, take_more numbers i 0 h, ← n)
    (overwritten_more 3 s buffer (low_first (get_or numbers i 0)) (omega arith) ∙ rw (flat_map_more low_first [] (take i numbers) (get_or numbers i 0)))

-- and all of them behind the mark and the code
pub numbers_whole
    : (code : ℕ) (numbers : List ℕ) (i : ℕ)
    → length numbers ≡ 4
    → 4 ≤ i
    → overwritten 3 (flat_map low_first (take i numbers)) (77 ∷ 83 ∷ code ∷ replicate 16 0) ≡ record_bytes code numbers
unfolding overwritten record_bytes
numbers_whole code numbers i four h = let n : length (flat_map low_first numbers) ≡ 16 = omega (arith, numbers_length numbers) in rw (take_all i numbers (omega arith), n, append-nil (flat_map low_first numbers))

-- "A record is 19 bytes"
pub record_length_lem : (code : ℕ) (numbers : List ℕ) → length numbers ≡ 4 → length (record_bytes code numbers) ≡ 19
unfolding record_bytes
record_length_lem code numbers four = omega (arith, numbers_length numbers)

-- the number that four bytes make, low byte first
abbrev pub number : List ℕ → ℕ
number l = get_or l 0 0 + 256 * get_or l 1 0 + 65536 * get_or l 2 0 + 16777216 * get_or l 3 0

pub number_back : (n : ℕ) → n < 4294967296 → number (low_first n) ≡ n
number_back n h =
    let two : n / 256 / 256 ≡ n / 65536 = div-div-eq-div-mul n 256 256 in
    let three : n / 65536 / 256 ≡ n / 16777216 = div-div-eq-div-mul n 65536 256 in
    let high : n / 16777216 < 256 = (div-lt_iff_lt-mul {k = 16777216} (omega arith)).1 h in
    omega (arith, div-add-mod n 256, div-add-mod (n / 256) 256, div-add-mod (n / 65536) 256, mod-eq_of_lt high)

-- ---- what a caller is told

pub put_fits : (at : ℕ) (s buffer b : List ℕ) (p : ℕ) → at + length s ≤ length buffer → Put at s buffer b p → (b ≡ placed at s buffer) × (Some p ≡ end_of at s buffer)
unfolding placed end_of
put_fits at s buffer b p h u = rw (le-leb (at + length s) (length buffer) h, u.1) (u.0, refl)

pub put_none : (at : ℕ) (s buffer : List ℕ) → length buffer < at + length s → (buffer ≡ placed at s buffer) × (None ≡ end_of at s buffer)
unfolding placed end_of
put_none at s buffer h = rw (lt-leb (at + length s) (length buffer) h) (refl, refl)
