-- An array of zeros into which the lines of a list are written, from the front. Assumes nothing.
use mathlib.Core.List.{List, [], ◌∷◌, ◌++◌, map, map-append}
use Rattle.std.specs.Prelude.{◌≡◌, set}
use Rattle.std.proofs.Math.Path.{sym, ap}
use Rattle.std.proofs.Common.{◌∙◌}
use Prim.Native.Nat.{suc, ◌-◌, ◌<◌}
use native.Mathlib.Omega.{arith}
use Rattle.std.proofs.Math.ListN.{length, replicate, length-append}
use Rattle.std.proofs.lemmas.List.{length-map, set_at}
use Rattle.std.proofs.Math.Seq.{append_snoc}
use Rattle.lines.specs.Shape.{Shape, pad}

module _ {A B : Type 0} (σ : Shape A B) where
  -- nothing written yet
  pub pad_nothing : replicate σ.limit σ.zeros ≡ pad σ []
  unfolding pad
  pad_nothing = let e : σ.limit ≡ σ.limit - 0 = omega arith in ap (λ k. replicate k σ.zeros) e

  -- one line more
  pub pad_more : (xs : List B) (x : B) → length xs < σ.limit → set (pad σ xs) (length xs) (σ.back x) ≡ pad σ (xs ++ (x ∷ []))
  unfolding pad
  pad_more xs x h =
      let left : σ.limit - length xs ≡ suc (σ.limit - length (xs ++ (x ∷ []))) = simp length-append (omega arith) in
      rw (left, map-append σ.back xs (x ∷ []))
      (set_at (map σ.back xs) σ.zeros _ (σ.back x) (length xs) (length-map xs σ.back) ∙ sym (append_snoc (map σ.back xs) (σ.back x) _))
