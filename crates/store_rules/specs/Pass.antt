-- Rule 4 in one pass over the stores but the first, each compared with its parent and with where the parent's last child before it ended. `walk` is how the
-- code decides; no public promise names it. Under rule 3 it is rule 4. Assumes nothing.
use Rattle.std.specs.Prelude.{Bool, true, ◌&&◌, ◌≡◌, refl, ℕ, ◌<◌, ◌≤◌, leb, eqb, if◌then◌else◌}
use mathlib.Core.List.Memᴰ.{cases_cons}
use mathlib.Core.List.Memᴰ.{head as here}
use mathlib.Core.List.Memᴰ.{not-nil as nowhere}
use mathlib.Core.List.Memᴰ.{tail as there}
use mathlib.Core.List.{List, [], ◌∷◌}
use Rattle.std.proofs.Math.Logic.Iff
use Rattle.std.proofs.Common.{inl, inr, ⊎_elim, sym, ◌∙◌, arith, eqb-true, eq-eqb, leb-true, le-leb}
use Rattle.std.proofs.Math.Path.{ap}
use Rattle.std.proofs.Math.Decide.{dec_le}
use Rattle.std.proofs.lemmas.Bool.{eqb-false}
use Rattle.lists.specs.Lists.{◌∈◌, all, all_two, AllTwo, rest}
use Rattle.lists.specs.ListLaws.{all_member, all_of, all_two_iff}
use Rattle.lists.specs.Keyed.{rising, Rising}
use Rattle.lists.specs.KeyedLaws.{rising_iff, at_member, member_at, two_by_key, by_key_two}
use Rattle.lists.specs.Tests.{tested, same_test, and_iff, implies_iff, reflect}
use Rattle.names.specs.Overhead.{store_overhead}
use Rattle.meaning.specs.Model.{Store, end, ◌inside◌, ◌apart_from◌, whole, used_part, store_name, listed, no_such_store, store_of}
use Rattle.meaning.specs.Rules.{hangs, stores_hang, fits, child_inside, siblings_apart, stores_fit}
use Rattle.meaning.proofs.Laws.Nested.{named}

-- where the last child of k among those done ended; 0 where it has none there
unfoldable pub ended : ℕ → List Store → ℕ
ended k [] = 0
ended k (c ∷ done) = if eqb c.parent k then end (whole c) else ended k done

-- c lies in the used part of p; and in that of its parent
abbrev pub lies_in : Store → Store → Bool
lies_in c p = whole c inside used_part p

unfoldable pub lies : List Store → Store → Bool
lies ss c = lies_in c (store_of ss c.parent)

-- what is done lies in a list with the latest first
unfoldable pub walk : List Store → List Store → List Store → Bool
walk ss done [] = true
walk ss done (c ∷ l) = lies ss c && leb (ended c.parent done) c.start && walk ss (c ∷ done) l

-- siblings in the order of the list: the first ends before the second begins
abbrev InOrder : Store → Store → Type 0
InOrder c d = c.parent ≡ d.parent → end (whole c) ≤ d.start

-- ---- where the last child ended

-- a bound on every child is one on the last
ended_bound : (k x : ℕ) (done : List Store) → ((b : Store) → b ∈ done → b.parent ≡ k → end (whole b) ≤ x) → ended k done ≤ x
unfolding ended
ended_bound k x [] h = omega arith
ended_bound k x (c ∷ done) h = elim (tested (eqb c.parent k)) [
  | inl e ↦ rw e (h c (here refl) (eqb-true c.parent k e))
  | inr e ↦ rw e (ended_bound k x done (λ b m. h b (there m)))
]

-- every child of what is done ended at or before where its parent's last one did
Ends : List Store → Type 0
Ends done = (b : Store) → b ∈ done → end (whole b) ≤ ended b.parent done

ends_none : Ends []
unfolding Ends
ends_none b m = absurd (nowhere m)

ends_more : (c : Store) (done : List Store) → ended c.parent done ≤ c.start → Ends done → Ends (c ∷ done)
unfolding ended Ends
ends_more c done h e b m = elim (tested (eqb c.parent b.parent)) [
  | inl t ↦
      let q = eqb-true c.parent b.parent t in
      rw t (⊎_elim
      (λ s. let g = ap (λ s. end (whole s)) s in omega arith)
      (λ i. let g = e b i in let f = ap (λ k. ended k done) q in omega arith)
      (cases_cons m))
  | inr t ↦ rw t (⊎_elim (λ s. absurd (eqb-false c.parent b.parent t (ap (λ s. s.parent) (sym s)))) (λ i. e b i) (cases_cons m))
]

-- ---- what the pass has shown, of what is left after `done`

record Passed (ss done l : List Store) : Type 0 where
  in_parent : (c : Store) → c ∈ l → lies ss c ≡ true
  behind : (b c : Store) → b ∈ done → c ∈ l → InOrder b c
  ordered : AllTwo InOrder l

passed_of : (ss done l : List Store) → Ends done → walk ss done l ≡ true → Passed ss done l
unfolding walk Ends
passed_of ss done [] e w = record { in_parent = λ c m. absurd (nowhere m); behind = λ b c i m. absurd (nowhere m); ordered = tt }
passed_of ss done (c ∷ l) e w =
    let f = (and_iff (lies ss c && leb (ended c.parent done) c.start) (walk ss (c ∷ done) l)).0 w in
    let g = (and_iff (lies ss c) (leb (ended c.parent done) c.start)).0 f.0 in
    let low = leb-true (ended c.parent done) c.start g.1 in
    let p = passed_of ss (c ∷ done) l (ends_more c done low e) f.1 in
    record {
      in_parent = λ d m. ⊎_elim (λ q. rw q g.0) (λ i. p.in_parent d i) (cases_cons m);
      behind = λ b d i m q. ⊎_elim
          (λ s. let x = e b i in let y = ap (λ k. ended k done) (q ∙ ap (λ s. s.parent) s) in let z = ap (λ s. s.start) s in omega arith)
          (λ j. p.behind b d (there i) j q)
          (cases_cons m);
      ordered = ((λ d m. p.behind c d (here refl) m), p.ordered);
    }

walk_of : (ss done l : List Store) → Passed ss done l → walk ss done l ≡ true
unfolding walk
walk_of ss done [] p = refl
walk_of ss done (c ∷ l) p =
    let low = ended_bound c.parent c.start done (λ b m q. p.behind b c m (here refl) q) in
    let next = walk_of ss (c ∷ done) l (record {
      in_parent = λ d m. p.in_parent d (there m);
      behind = λ b d i m q. ⊎_elim (λ s. let o = p.ordered.0 d m (sym (ap (λ s. s.parent) s) ∙ q) in let z = ap (λ s. end (whole s)) s in omega arith) (λ j. p.behind b d j (there m) q) (cases_cons i);
      ordered = p.ordered.1;
    }) in
    (and_iff (lies ss c && leb (ended c.parent done) c.start) (walk ss (c ∷ done) l)).1
    ((and_iff (lies ss c) (leb (ended c.parent done) c.start)).1 (p.in_parent c (here refl), le-leb (ended c.parent done) c.start low), next)

-- ---- under rule 3 the pass is rule 4

rest_rises : (ss : List Store) → Rising store_name ss → Rising store_name (rest ss)
rest_rises [] r = tt
rest_rises (s ∷ ss) r = r.1

-- siblings in order share no address
order_apart : (c d : Store) → InOrder c d → siblings_apart c d ≡ true
unfolding ◌apart_from◌
order_apart c d o =
    (implies_iff (eqb c.parent d.parent) (whole c apart_from whole d)).1
    (λ e. rw (le-leb (end (whole c)) d.start (o (eqb-true c.parent d.parent e))))

-- siblings that share no address, none of them empty, the first of a lower start, are in order
apart_order : (c d : Store) → c.start < d.start → store_overhead ≤ c.total → store_overhead ≤ d.total → siblings_apart c d ≡ true → InOrder c d
unfolding ◌apart_from◌
apart_order c d k a b h q =
    let g : (whole c apart_from whole d) ≡ true = (implies_iff (eqb c.parent d.parent) (whole c apart_from whole d)).0 h (eq-eqb c.parent d.parent q) in
    let f = simp reflect at g in
    elim (dec_le (end (whole c)) d.start) [
      | yes y ↦ y
      | no n ↦ let z = f (omega arith) in absurd (omega arith)
    ]

module _ (ss : List Store) (hung : stores_hang ss ≡ true) where
  rises : Rising store_name ss
  unfolding stores_hang
  rises = (rising_iff store_name ss).0 ((and_iff (rising store_name ss) (all (hangs ss) (rest ss))).0 hung).0

  -- each store but the first has a listed parent and a total of at least 16
  hangs_of : (c : Store) → c ∈ rest ss → (listed ss c.parent ≡ true) × (store_overhead ≤ c.total)
  unfolding stores_hang
  hangs_of c m =
      let f = all_member (hangs ss) (rest ss) ((and_iff (rising store_name ss) (all (hangs ss) (rest ss))).0 hung).1 c m in
      let g = simp reflect at f in
      (g.0.0, g.1)

  pub parent_listed : (c : Store) → c ∈ rest ss → listed ss c.parent ≡ true
  parent_listed c m = (hangs_of c m).0

  pub rises_too : rising store_name ss ≡ true
  rises_too = (rising_iff store_name ss).1 rises

  pass_rule : Passed ss [] (rest ss) → (all (λ p. all (child_inside p) (rest ss)) ss ≡ true) × (all_two siblings_apart (rest ss) ≡ true)
  unfolding lies
  pass_rule p = (
    all_of (λ q. all (child_inside q) (rest ss)) ss (λ q i. all_of (child_inside q) (rest ss) (λ c m.
        (implies_iff (eqb c.parent q.start) (whole c inside used_part q)).1 (λ e.
        let s : store_of ss c.parent ≡ q = ap (store_of ss) (eqb-true c.parent q.start e) ∙ member_at store_name no_such_store ss rises i in
        rw s at (p.in_parent c m)))),
    (all_two_iff siblings_apart (λ c d. siblings_apart c d ≡ true) (λ c d. Iff.rfl) (rest ss)).1
        (by_key_two store_name (λ c d. siblings_apart c d ≡ true) (rest ss) (rest_rises ss rises)
        (λ c d m n k. order_apart c d (two_by_key store_name InOrder (rest ss) (rest_rises ss rises) p.ordered m n k))),
  )

  rule_pass : all (λ p. all (child_inside p) (rest ss)) ss ≡ true → all_two siblings_apart (rest ss) ≡ true → Passed ss [] (rest ss)
  unfolding lies
  rule_pass a b =
      let two = (all_two_iff siblings_apart (λ c d. siblings_apart c d ≡ true) (λ c d. Iff.rfl) (rest ss)).0 b in
      record {
        in_parent = λ c m.
            let q = store_of ss c.parent in
            let i : q ∈ ss = at_member store_name no_such_store ss c.parent (parent_listed c m) in
            let f = all_member (child_inside q) (rest ss) (all_member (λ p. all (child_inside p) (rest ss)) ss a q i) c m in
            (implies_iff (eqb c.parent q.start) (whole c inside used_part q)).0 f
            (eq-eqb c.parent q.start (sym (named ss c.parent)));
        behind = λ b c i m. absurd (nowhere i);
        ordered = by_key_two store_name InOrder (rest ss) (rest_rises ss rises) (λ c d m n k.
            apart_order c d k (hangs_of c m).1 (hangs_of d n).1
            (two_by_key store_name (λ c d. siblings_apart c d ≡ true) (rest ss) (rest_rises ss rises) two m n k));
      }

  pub walk_fits : (all fits ss && walk ss [] (rest ss)) ≡ stores_fit ss
  unfolding stores_fit
  walk_fits =
      let A = all fits ss in
      let B = all (λ p. all (child_inside p) (rest ss)) ss in
      let C = all_two siblings_apart (rest ss) in
      same_test (A && walk ss [] (rest ss)) (A && B && C)
      (λ w.
      let f = (and_iff A (walk ss [] (rest ss))).0 w in
      let g = pass_rule (passed_of ss [] (rest ss) (ends_none) f.1) in
      (and_iff (A && B) C).1 ((and_iff A B).1 (f.0, g.0), g.1))
      (λ r.
      let f = (and_iff (A && B) C).0 r in
      let g = (and_iff A B).0 f.0 in
      (and_iff A (walk ss [] (rest ss))).1 (g.0, walk_of ss [] (rest ss) (rule_pass g.1 f.1)))
