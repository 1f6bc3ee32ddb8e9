-- Bytes written one after the other are the same bytes written at once; and a part of a buffer that bytes were copied into, put back in its place.
-- Assumes nothing.
use mathlib.Core.List.{List, [], ◌∷◌, ◌++◌, append_assoc}
use Rattle.std.specs.Prelude.{◌≡◌, refl, set, get_or, unwrap_or}
use Rattle.std.proofs.Math.Path.{sym, ap}
use Rattle.std.proofs.Common.{◌∙◌, inl, inr, arith, length-drop, take-append-drop, take_at, drop_at, drop-cons, le-leb}
use Prim.Native.Nat.{ℕ, suc, ◌+◌, ◌≤◌, ◌<◌}
use Rattle.std.proofs.Math.ListN.{length, take, drop, length-append, length-take}
use Rattle.std.proofs.Math.Seq.{drop-drop, set_at, append_snoc, take-length}
use Rattle.std.proofs.lemmas.List.{drop-append-le}
use Rattle.std.proofs.lemmas.Bool.{lt-leb}
use borrow.Rule.Slice.PartMut.{put_mid, mid_of}
use Rattle.texts.specs.Buffer.{overwritten, placed, place_after, Put, fits, end_of}
use Rattle.lists.specs.Tests.{tested}

module _ (at : ℕ) (s buffer : List ℕ) where
  front : at ≤ length buffer → length (take at buffer ++ s) ≡ at + length s
  front h = simp (length-append, length-take) (omega arith)

  abbrev end : ℕ
  end = at + length s

  pub overwritten_length : end ≤ length buffer → length (overwritten at s buffer) ≡ length buffer
  unfolding overwritten
  overwritten_length h = simp (length-append, length-take, length-drop) (omega arith)

  -- more bytes behind them
  pub overwritten_more : (t : List ℕ) → end + length t ≤ length buffer → overwritten end t (overwritten at s buffer) ≡ overwritten at (s ++ t) buffer
  unfolding overwritten
  overwritten_more t h =
      let f = front (omega arith) in
      let p = take at buffer ++ s in
      let d : drop (end + length t) (p ++ drop end buffer) ≡ drop (end + length t) buffer =
      sym (drop-drop (length t) end (p ++ drop end buffer)) ∙ ap (drop (length t)) (drop_at p (drop end buffer) end f) ∙ drop-drop (length t) end buffer in
      let n : at + length (s ++ t) ≡ end + length t = simp length-append (omega arith) in
      rw (take_at p (drop end buffer) end f, d, n, append_assoc (take at buffer) s t)

  -- one byte more
  pub overwritten_byte : (b : ℕ) → end < length buffer → set (overwritten at s buffer) end b ≡ overwritten at (s ++ (b ∷ [])) buffer
  unfolding overwritten
  overwritten_byte b h =
      let p = take at buffer ++ s in
      let n : at + length (s ++ (b ∷ [])) ≡ suc end = simp length-append (omega arith) in
      rw (drop-cons buffer end 0 h, set_at p (get_or buffer end 0) (drop (suc end) buffer) b end (front (omega arith)), n, ← append_assoc (take at buffer) s (b ∷ []))
      (sym (append_snoc p b (drop (suc end) buffer)))

  -- bytes copied to the front of a part of the buffer, the k bytes from `at` on
  pub copied : (k : ℕ) (part : List ℕ) → end ≤ length buffer → length s ≤ k → part ≡ take (length s) s ++ drop (length s) (mid_of at k buffer)
      → put_mid at k buffer part ≡ overwritten at s buffer
  unfolding overwritten
  copied k part h l e =
      let d = drop at buffer in
      let few : length s ≤ length (take k d) = simp (length-take, length-drop) (omega arith) in
      let tail : drop (length s) (take k d) ++ drop k d ≡ drop end buffer =
      sym (drop-append-le (length s) (take k d) (drop k d) few) ∙ ap (drop (length s)) (take-append-drop k d) ∙ drop-drop (length s) at buffer in
      rw (e, take-length s, append_assoc s (drop (length s) (take k d)) (drop k d), tail) (sym (append_assoc (take at buffer) s (drop end buffer)))

  -- or bytes in the place of as many, put back
  pub put_back : (k : ℕ) (part : List ℕ) → k ≡ length s → part ≡ s → put_mid at k buffer part ≡ overwritten at s buffer
  unfolding overwritten
  put_back k part n e = rw (e, n, drop-drop (length s) at buffer) (sym (append_assoc (take at buffer) s (drop end buffer)))

-- the first n bytes, where there are so many, are n
pub part_length : (n : ℕ) (bytes : List ℕ) → n ≤ length bytes → n ≡ length (take n bytes)
part_length n bytes h = simp length-take (omega arith)

-- ---- what a caller is told

-- after bytes put one after the other, as after all at once
pub put_more : (at : ℕ) (s t buffer b b' : List ℕ) (p p' : ℕ) → at + length s + length t ≤ length buffer
    → Put at s buffer b p → Put p t b b' p' → Put at (s ++ t) buffer b' p'
put_more at s t buffer b b' p p' h u v =
    let n = length-append s t in
    let e = u.1 in
    let f = v.1 in
    (v.0 ∙ rw (u.0, u.1) (overwritten_more at s buffer t h), omega arith)

pub put_whole : (at : ℕ) (s buffer b : List ℕ) (p : ℕ) → at + length s ≤ length buffer → Put at s buffer b p → (b ≡ placed at s buffer) × (p ≡ place_after at s buffer)
unfolding placed place_after
put_whole at s buffer b p h u = rw (le-leb (at + length s) (length buffer) h) u

pub put_nothing : (at : ℕ) (s buffer : List ℕ) → length buffer < at + length s → (buffer ≡ placed at s buffer) × (at ≡ place_after at s buffer)
unfolding placed place_after
put_nothing at s buffer h = rw (lt-leb (at + length s) (length buffer) h) (refl, refl)

-- the place after bytes is where they end, or the same place where they do not fit
pub place_after_end : (at : ℕ) (s buffer : List ℕ) → place_after at s buffer ≡ unwrap_or (end_of at s buffer) at
unfolding place_after end_of
place_after_end at s buffer = elim (tested (fits at s buffer)) [
  | inl h ↦ rw h
  | inr h ↦ rw h
]
