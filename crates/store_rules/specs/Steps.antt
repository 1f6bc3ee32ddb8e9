-- What each turn of the pass of Pass.antt does, on lines and on an array that remembers where each parent's last child ended: one law for each way out of
-- the loop. Assumes nothing.
use Rattle.std.specs.Prelude.{Bool, true, false, List, [], ◌∷◌, ◌≡◌, ℕ, zero, suc, ◌+◌, ◌≤◌, ◌<◌, eqb, length, drop, set, get_or, replicate}
use Rattle.std.proofs.Math.Logic.{inl, inr}
use Rattle.std.proofs.Math.Path.{sym, ap}
use Rattle.std.proofs.Common.{◌∙◌, arith, get_or-set_same, get_or-set_other}
use Rattle.std.proofs.lemmas.List.{get_or-replicate}
use borrow.Author.Tests.{eqb-true, eqb-false, ltb-true, lt-leb, le-leb}
use Rattle.lists.specs.Lists.{◌∈◌, rest}
use Rattle.lists.specs.Tests.{tested}
use Rattle.lines.specs.Shape.{rest_drop, live, live_full, live_at, from_here, from_end}
use Rattle.lines.specs.Search.{place, has_place, at_place}
use Rattle.lines.specs.Halves.{Halved, at_in, place_key}
use Rattle.names.specs.declared.lines.Store.{Store as Line}
use Rattle.meaning.specs.Model.{Store, end, whole, store_name, no_such_store, store_of}
use Rattle.meaning.specs.Rules.{stores_hang}
use Rattle.stores.specs.Stores.{view, zeros, store_line, is_store}
use Rattle.store_rules.specs.Pass.{ended, lies_in, lies, walk, parent_listed, rises_too}

-- The pass has come to i: its answer from the start is its answer from here. What is done is hidden; the array holds, where the store k is found, where the
-- last child of k ended.
pub record Standing (l : List Store) (i : ℕ) (ends : List ℕ) : Type 0 where
  pub done : List Store
  pub same : walk l [] (rest l) ≡ walk l done (drop i l)
  pub cached : (k : ℕ) → place (is_store k) l < length l → get_or ends (place (is_store k) l) 0 ≡ ended k done

in_others : (l : List Store) (i : ℕ) (d : Store) → 1 ≤ i → i < length l → get_or l i d ∈ rest l
in_others [] i d h k = absurd (omega arith)
in_others (x ∷ l) zero d h k = absurd (omega arith)
in_others (x ∷ l) (suc i) d h k = at_in l i d (omega arith)

module _ (n : ℕ) (ls : List Line) (short : n ≤ length ls) where
  abbrev l : List Store
  l = live store_line n ls

  -- the line at i
  abbrev at : ℕ → Store
  at i = view (get_or ls i zeros)

  long : length l ≡ n
  long = live_full store_line n ls short

  named : (k : ℕ) → place (is_store k) l < length l → (get_or l (place (is_store k) l) (view zeros)).start ≡ k
  named k h = place_key store_name l k (view zeros) h

  pub pass_start : (room : n ≤ 64) (ends : List ℕ) → ends ≡ replicate 64 0 → Standing l 1 ends
  unfolding ended
  pass_start room ends e =
      record { done = []; same = ap (walk l []) (rest_drop l); cached = λ k h. rw e (get_or-replicate 64 (place (is_store k) l) 0 0 (omega (arith, long))) }

  pub pass_end : (i : ℕ) (ends : List ℕ) → n ≤ i → Standing l i ends → true ≡ walk l [] (rest l)
  unfolding walk
  pass_end i ends h s = sym (s.same ∙ rw (from_end store_line n ls short i h))

  module _ (hung : stores_hang l ≡ true) (i : ℕ) (low : 1 ≤ i) (high : i < n) (j : ℕ) (found : Halved store_name l (at i).parent j) where
    -- the parent of the line at i stands at j
    here : j ≡ place (is_store (at i).parent) l
    here = found.right (rises_too l hung)

    pub parent_low : j < n
    parent_low =
        let m : at i ∈ rest l = rw (← live_at store_line n ls i high) (in_others l i (view zeros) low (omega (arith, long))) in
        let h = ltb-true (place (is_store (at i).parent) l) (length l) (sym (has_place store_name l (at i).parent) ∙ parent_listed l hung (at i) m) in
        omega (arith, here, long)

    is_parent : store_of l (at i).parent ≡ at j
    is_parent =
        at_place store_name no_such_store l (at i).parent (view zeros) (omega (arith, here, long, parent_low)) ∙ ap (λ p. get_or l p (view zeros)) (sym here)
        ∙ live_at store_line n ls j parent_low

    module _ (ends : List ℕ) (s : Standing l i ends) where
      last : get_or ends j 0 ≡ ended (at i).parent s.done
      last = ap (λ p. get_or ends p 0) here ∙ s.cached (at i).parent (omega (arith, here, long, parent_low))

      pub pass_out : (b : Bool) → b ≡ lies_in (at i) (at j) → b ≡ false → false ≡ walk l [] (rest l)
      unfolding walk lies
      pass_out b e f = sym (s.same ∙ rw (from_here store_line n ls short i high, is_parent, sym e ∙ f))

      pub pass_early : (b : Bool) → b ≡ lies_in (at i) (at j) → b ≡ true → (at i).start < get_or ends j 0 → false ≡ walk l [] (rest l)
      unfolding walk lies
      pass_early b e t h = sym (s.same ∙ rw (from_here store_line n ls short i high, is_parent, sym e ∙ t, lt-leb (ended (at i).parent s.done) (at i).start (omega (arith, last))))

      pub pass_more : (b : Bool) → b ≡ lies_in (at i) (at j) → b ≡ true → get_or ends j 0 ≤ (at i).start → n ≤ length ends
          → (x : ℕ) → x ≡ end (whole (at i)) → Standing l (i + 1) (set ends j x)
      unfolding walk lies ended
      pass_more b e t h r x q =
          record {
            done = at i ∷ s.done;
            same = s.same ∙ rw (from_here store_line n ls short i high, is_parent, sym e ∙ t, le-leb (ended (at i).parent s.done) (at i).start (omega (arith, last)));
            cached = λ k p. elim (tested (eqb (at i).parent k)) [
              | inl y ↦ rw (y, ← eqb-true (at i).parent k y, ← here) (get_or-set_same ends j x 0 (omega (arith, parent_low)) ∙ q)
              | inr y ↦ rw y (get_or-set_other ends j (place (is_store k) l) x 0 (λ z. eqb-false (at i).parent k y (sym (named (at i).parent (omega (arith, here, long, parent_low))) ∙ ap (λ p. (get_or l p (view zeros)).start) (sym here ∙ sym z) ∙ named k p)) ∙ s.cached k p)
            ];
          }
