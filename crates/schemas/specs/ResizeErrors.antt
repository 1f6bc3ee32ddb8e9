-- Refusals 8, 2 and 1 of call 11 meet 000's error schemas. First, a store that is not the root, and its parent. Assumes nothing.
use Rattle.std.specs.Prelude.{true, false, not, ◌&&◌, List, ◌≡◌, refl, ℕ, ◌+◌, ◌<◌, eqb}
use Rattle.std.proofs.Common.{inl, inr, ⊎_elim, sym, ◌∙◌, ap, arith, eq-eqb, ne_eqb}
use Rattle.std.proofs.Math.Decide.{ℕ_discrete, dec_lt}
use Rattle.lists.specs.Lists.{rest}
use Rattle.lists.specs.Tests.{never, and_iff, not_iff, reflect}
use Rattle.lists.specs.ListLaws.{any_member, member_any}
use Rattle.names.specs.Overhead.{store_overhead}
use Rattle.meaning.specs.Model.{Store, Model, whole, used_part, free, store_of, root_of}
use Rattle.meaning.specs.Nesting.{Child, child, parent_in}
use Rattle.meaning.specs.Facts.{Sound}
use Rattle.meaning.specs.Reports.{not_only_child}
use Rattle.meaning.proofs.Laws.Nested.{named, child_link, link_child}
use Rattle.laws.specs.ByName.{Listed, total_in, used_in, by_name, root_start}
use Rattle.laws.specs.Nesting.{outer_listed}
use Rattle.schemas.specs.Memory.{◌≐◌, ⟨◌⟩, run_counts}
use Rattle.schemas.specs.Reports.{MMReport, number, number_names}
use Rattle.schemas.specs.Global.{GlobalNotOnlyChild, GlobalBSResizeError, GlobalBSResizeChildError}
use Rattle.schemas.specs.Reading.{backing_of, global_of, store_invariant}
use Rattle.schemas.specs.Steps.{store_stays, block_stays, global_stays}

-- ---- a store that is not the root

module _ (m : Model) (sound : Sound m) (x : ℕ) (there : Listed m.stores x) (not_root : x ≡ root_of m.stores → ⊥) where
  abbrev ss : List Store
  ss = m.stores

  abbrev p : ℕ
  p = parent_in ss x

  -- it is a child of its parent
  pub is_child : Child ss x p
  is_child =
      let low = (by_name m sound).lowest x there in
      let o = (by_name m sound).others x there (omega (arith, not_root, root_start m sound)) in
      link_child m sound refl (omega arith)

  pub parent_there_lem : Listed ss p
  parent_there_lem = outer_listed m sound (child is_child)

  -- where report 8 is not told, it is its parent's only child
  pub only_child : not_only_child m x ≡ false → (λ y. Child ss y p) ≐ ⟨ x ⟩
  only_child alone y = (
    λ c. elim (ℕ_discrete y x) [
      | yes e ↦ e
      | no d ↦ never (not_only_child m x)
          (member_any (λ s. eqb s.parent p && not (eqb s.start x)) (rest ss) c.1
          ((and_iff _ _).1 (eq-eqb c.0.parent p c.3, (not_iff _).1 (ne_eqb c.0.start x (λ e. d (sym c.2 ∙ e))))))
          alone
    ],
    λ e. rw e is_child,
  )

  -- 8
  pub not_only : {m' : Model} {r : MMReport} → m' ≡ m → not_only_child m x ≡ true → 8 ≡ number r → GlobalNotOnlyChild (global_of m) (global_of m') x r
  not_only e h q =
      let s = any_member (λ s. eqb s.parent p && not (eqb s.start x)) (rest ss) h in
      let f = simp reflect at s.2 in
      record {
        stays = global_stays sound e;
        not_root = not_root;
        there = there;
        others = λ b l c. let k = child_link m sound ((c x).1 refl) in f.1 ((c s.0.start).0 (s.0, s.1, refl, f.0 ∙ k.0));
        told = number_names q;
      }

  -- 2
  pub not_empty_lem : {m' : Model} {r : MMReport} (n : ℕ) → m' ≡ m → (used_in ss x ≡ 0 → ⊥) → 2 ≡ number r → GlobalBSResizeError (global_of m) (global_of m') x n r
  not_empty_lem n e h q =
      let s = store_stays _ (store_invariant m sound x there) in
      record {
        stays = global_stays sound e;
        not_root = not_root;
        there = there;
        after = backing_of ss x;
        new_addresses = record { start = x; length = n };
        old_addresses = whole (store_of ss x);
        long = refl;
        resizes =
            inr (inl (
              record {
                stays = block_stays s;
                some = λ u. (u (used_part (store_of ss x)).start).0 (omega arith);
                told = number_names q;
              },
              s,
            ));
        failed = λ z. omega (arith, q, ap number z);
      }

  -- 1: the store ends where its parent's free part begins, and n is more than both together
  module _ (alone : not_only_child m x ≡ false) (last : x + total_in ss x ≡ p + store_overhead + used_in ss p) where
    pub no_room : {m' : Model} {r : MMReport} (n : ℕ) → m' ≡ m → total_in ss x + free (store_of ss p) < n → 1 ≡ number r
        → GlobalBSResizeChildError (global_of m) (global_of m') x n x r
    no_room n e h q =
        let s = store_stays _ (store_invariant m sound p parent_there_lem) in
        let a = named ss x in
        let b = named ss p in
        let f = (by_name m sound).fits p parent_there_lem in
        record {
          stays = global_stays sound e;
          not_root = not_root;
          there = there;
          parent_id = p;
          parent_there = parent_there_lem;
          only = only_child alone;
          old_addresses = whole (store_of ss x);
          new_addresses = whole (store_of ss x);
          after = backing_of ss p;
          old = λ y. (λ i. i, λ i. i);
          resizes =
              inr (inr (inl (
                record {
                  stays = block_stays s;
                  room = total_in ss x + free (store_of ss p);
                  counted = run_counts (record { start = x; length = total_in ss x + free (store_of ss p) }) (λ y. (
                    λ u. ⊎_elim (λ i. omega arith) (λ i. omega arith) u,
                    λ i. elim (dec_lt y (x + total_in ss x)) [
                      | yes l ↦ inr (omega arith)
                      | no l ↦ inl (omega arith)
                    ],
                  ));
                  more = h;
                  told = number_names q;
                },
                s,
              )));
          failed = λ z. omega (arith, q, ap number z);
        }
