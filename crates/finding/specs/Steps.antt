-- The way down as the code goes it, line by line. Assumes nothing.
use Rattle.std.specs.Prelude.{Bool, true, false, List, [], ◌∷◌, ◌≡◌, refl, ℕ, ◌+◌, ◌≤◌, ◌<◌, map, length, drop, get_or}
use Rattle.std.proofs.Common.{sym, ◌∙◌, ap, arith, add-one, drop-cons, drop_of_length-le}
use Rattle.names.specs.declared.lines.Store.{Store as Line}
use Rattle.meaning.specs.Model.{Store, ◌holds◌, whole}
use Rattle.stores.specs.Stores.{view, zeros}
use Rattle.finding.specs.Descent.{inside, outside, leads, descend, descent}

-- behind the last line the way is at its end
pub end_here : (ls : List Line) (s a i k : ℕ) → length ls ≤ i → descend (map view (drop i ls)) s k a ≡ inside s k
unfolding descend
end_here ls s a i k h = rw (drop_of_length-le ls {i = i} h)

-- the way down has come to s, k steps below the root r: what it tells from there, in the lines from i on, is what it tells from the root
unfoldable pub Come : List Line → ℕ → ℕ → ℕ → ℕ → ℕ → Type 0
Come ls r a s k i = descend (map view (drop i ls)) s k a ≡ descend (map view ls) r 0 a

module _ (ls : List Line) (r a : ℕ) where
  pub way_starts : Come ls r a r 0 0
  unfolding Come
  way_starts = refl

  module _ (s k i : ℕ) (c : Come ls r a s k i) (h : i < length ls) where
    pub way_leads : (b : Bool) → b ≡ leads s a (view (get_or ls i zeros)) → b ≡ true → Come ls r a (get_or ls i zeros).id.0 (k + 1) (i + 1)
    unfolding Come descend
    way_leads b e t =
        let goes : descend (map view (drop i ls)) s k a ≡ descend (map view (drop (i + 1) ls)) (get_or ls i zeros).id.0 (k + 1) a = rw (drop-cons ls i zeros h, add-one i, sym e ∙ t) in
        sym goes ∙ c

    pub way_passes : (b : Bool) → b ≡ leads s a (view (get_or ls i zeros)) → b ≡ false → Come ls r a s k (i + 1)
    unfolding Come descend
    way_passes b e f =
        let stays : descend (map view (drop i ls)) s k a ≡ descend (map view (drop (i + 1) ls)) s k a = rw (drop-cons ls i zeros h, add-one i, sym e ∙ f) in
        sym stays ∙ c

  pub way_ends : (s k i : ℕ) → Come ls r a s k i → length ls ≤ i → inside s k ≡ descend (map view ls) r 0 a
  unfolding Come
  way_ends s k i c h = sym (end_here ls s a i k h) ∙ c

-- the lines that are listed, read as stores: none, or the root's line and those that follow it
pub find_none : (ss : List Store) (a : ℕ) (ls : List Line) → map view ls ≡ ss → length ls ≡ 0 → outside ≡ descent ss a
unfolding descent
find_none ss a [] read e = rw (sym read)
find_none ss a (x ∷ ls) read e = absurd (omega arith)

module _ (ss : List Store) (a : ℕ) (x : Line) (b : Bool) (e : b ≡ whole (view x) holds a) where
  first : (ls xs : List Line) → map view ls ≡ ss → ls ≡ x ∷ xs → ss ≡ view x ∷ map view xs
  first ls xs read split = sym read ∙ ap (map view) split

  pub find_outside : b ≡ false → (ls xs : List Line) → map view ls ≡ ss → ls ≡ x ∷ xs → outside ≡ descent ss a
  unfolding descent
  find_outside f ls xs read split = rw (first ls xs read split, sym e ∙ f)

  pub find_inside : b ≡ true → (ls xs : List Line) → map view ls ≡ ss → ls ≡ x ∷ xs → descend (map view xs) x.id.0 0 a ≡ descent ss a
  unfolding descent
  find_inside h ls xs read split = rw (first ls xs read split, sym e ∙ h)
