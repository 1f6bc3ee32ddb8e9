-- On a sound model the way down from the root is document 01's row of call 7: it ends at the deepest store whose total holds the address, and the steps
-- are that store's depth. Assumes nothing.
use Rattle.std.specs.Prelude.{true, false, ◌≡◌, ℕ, ◌+◌, ◌<◌, eqb, if◌then◌else◌}
use mathlib.Core.List.Memᴰ.{cases_cons}
use mathlib.Core.List.Memᴰ.{head as here}
use mathlib.Core.List.Memᴰ.{not-nil as nowhere}
use mathlib.Core.List.Memᴰ.{tail as there}
use mathlib.Core.List.{List, [], ◌∷◌}
use Rattle.std.proofs.Math.Logic.{inl, inr, ⊎_elim}
use Rattle.std.proofs.Math.Path.{refl, ap, subst}
use Rattle.std.proofs.Common.{sym, ◌∙◌, ap₂, arith}
use Rattle.std.proofs.Math.Decide.{ℕ_discrete}
use borrow.Author.Tests.{eq-eqb, eqb-true, le-ltb, le-leb}
use Rattle.lists.specs.Lists.{◌∈◌, rest}
use Rattle.lists.specs.Keyed.{Rising}
use Rattle.lists.specs.Tests.{tested, never, and_iff}
use Rattle.lists.specs.KeyedLaws.{member_has, member_at}
use Rattle.meaning.specs.Model.{Store, Model, Bytes, ◌holds◌, whole, store_name, no_such_store, store_of, root_of}
use Rattle.meaning.specs.Nesting.{Nested, parent_in, depth, store_holding}
use Rattle.meaning.specs.Facts.{◌Holds◌, Sound}
use Rattle.meaning.specs.Reports.{first_report}
use Rattle.meaning.specs.Calls.{find, found, checks, change, row, step}
use Rattle.meaning.proofs.Laws.Agree.{holds_iff, sound_agrees}
use Rattle.meaning.proofs.Laws.Nested.{links_top, named, link_child, root_listed, root_own_parent}
use Rattle.meaning.proofs.Laws.Step.{sound_row}
use Rattle.meaning.proofs.Laws.Find.{find_right}
use Rattle.laws.specs.ByName.{Listed, ByName, by_name, root_start, other_line}
use Rattle.laws.specs.Nesting.{nested_below, parent_of_nested}
use Rattle.laws.specs.Geometry.{holders_nested}
use Rattle.laws.specs.Depth.{child_depth, find_deepest}
use Rattle.finding.specs.Descent.{told, inside, outside, leads, descend, descent}

-- the way down asks the root's line first, as document 01 does
descent_root : (ss : List Store) (a : ℕ) → descent ss a ≡ (if whole (store_of ss (root_of ss)) holds a then descend (rest ss) (root_of ss) 0 a else outside)
unfolding descent ◌holds◌
descent_root [] a = rw (le-ltb a 0 (omega arith), le-leb 0 a (omega arith))
descent_root (r ∷ l) a = rw (eq-eqb r.start r.start refl)

module _ (m : Model) (sound : Sound m) where
  abbrev ss : List Store
  ss = m.stores

  abbrev by : ByName m.store_area ss
  by = by_name m sound

  -- The way down has come to s, k steps below the root, and the lines l follow: s holds the address, and every line that holds it from a higher start on is
  -- one of those that follow.
  record Come (a s k : ℕ) (l : List Store) : Type 0 where
    at : Listed ss s
    covers : whole (store_of ss s) Holds a
    deep : depth ss s ≡ k
    above : (x : Store) → x ∈ l → (x ∈ ss) × (s < x.start)
    ahead : (x : ℕ) → Listed ss x → whole (store_of ss x) Holds a → s < x → store_of ss x ∈ l

  module _ (a : ℕ) where
    -- a parent holds the address where its child does
    parent_covers : (x : ℕ) → Listed ss x → m.store_area.start < x → whole (store_of ss x) Holds a → whole (store_of ss (parent_in ss x)) Holds a
    parent_covers x h l c =
        let g = by.others x h l in
        let f = by.fits (parent_in ss x) g.parent in
        let p = named ss x in
        let q = named ss (parent_in ss x) in
        omega arith

    module _ (s k : ℕ) (x : Store) (l : List Store) (rises : Rising store_name (x ∷ l)) (c : Come a s k (x ∷ l)) where
      -- the next line, by its name
      next : store_of ss x.start ≡ x
      next = member_at store_name no_such_store ss sound.rule3.rises (c.above x (here refl)).0

      next_listed : Listed ss x.start
      next_listed = member_has store_name ss (c.above x (here refl)).0

      -- no store that holds the address lies between s and it
      between : (p : ℕ) → Listed ss p → whole (store_of ss p) Holds a → s < p → p < x.start → ⊥
      between p h j u v =
          let q = named ss p in
          ⊎_elim (λ e. let y = ap (λ t. t.start) e in omega arith) (λ i. let y = rises.0 (store_of ss p) i in omega arith) (cases_cons (c.ahead p h j u))

      -- where it holds the address it is nested in s, and so is its parent, which holds the address too, unless that is s
      is_child : whole x Holds a → x.parent ≡ s
      is_child h =
          let up = (c.above x (here refl)).1 in
          let low = by.lowest s c.at in
          let holder : whole (store_of ss x.start) Holds a = rw next h in
          let p = parent_in ss x.start in
          let g = by.others x.start next_listed (omega arith) in
          let top : Nested ss p s → ⊥ = λ u.
          between p g.parent (parent_covers x.start next_listed (omega arith) holder) (nested_below m sound u) (omega (arith, g.low)) in
          ⊎_elim (λ n. let b = nested_below m sound n in absurd (omega arith))
          (λ n. sym (ap (λ t. t.parent) next) ∙ ⊎_elim (λ e. e) (λ u. absurd (top u)) (parent_of_nested m sound n))
          (holders_nested m sound s x.start a c.at next_listed (omega arith) c.covers holder)

      -- it leads down
      come_down : leads s a x ≡ true → Come a x.start (k + 1) l
      unfolding leads
      come_down e =
          let b = (and_iff (eqb x.parent s) _).0 e in
          let up = (c.above x (here refl)).1 in
          let link : parent_in ss x.start ≡ s = ap (λ t. t.parent) next ∙ eqb-true x.parent s b.0 in
          record {
            at = next_listed;
            covers = rw next ((holds_iff (whole x) a).0 b.1);
            deep = child_depth m sound (link_child m sound link up) ∙ ap (λ d. d + 1) c.deep;
            above = λ y i. ((c.above y (there i)).0, rises.0 y i);
            ahead = λ y h j u.
                ⊎_elim (λ e. let z = ap (λ t. t.start) e in let q = named ss y in absurd (omega arith)) (λ i. i) (cases_cons (c.ahead y h j (omega arith)));
          }

      -- it does not
      come_past : leads s a x ≡ false → Come a s k l
      unfolding leads
      come_past e =
          record {
            at = c.at;
            covers = c.covers;
            deep = c.deep;
            above = λ y i. c.above y (there i);
            ahead = λ y h j u. ⊎_elim
                (λ q.
                let z : whole x Holds a = subst (λ t. whole t Holds a) q j in
                never (leads s a x) ((and_iff (eqb x.parent s) _).1 (eq-eqb x.parent s (is_child z), (holds_iff (whole x) a).1 z)) e)
                (λ i. i)
                (cases_cons (c.ahead y h j u));
          }

    -- the way down ends at a store that holds the address, and no line of a higher start does
    ends : (l : List Store) → Rising store_name l → (s k : ℕ) → Come a s k l → (t : ℕ) × (n : ℕ) × (descend l s k a ≡ inside t n) × Come a t n []
    unfolding descend
    ends [] rises s k c = (s, k, refl, c)
    ends (x ∷ l) rises s k c = elim (tested (leads s a x)) [
      | inl e ↦ rw e (ends l rises.1 x.start (k + 1) (come_down s k x l rises c e))
      | inr e ↦ rw e (ends l rises.1 s k (come_past s k x l rises c e))
    ]

    module _ (top : whole (store_of ss (root_of ss)) holds a ≡ true) where
      behind : ((x : Store) → x ∈ rest ss → sound.rule2.root.start < x.start) × Rising store_name (rest ss)
      behind = subst (Rising store_name) sound.rule2.first sound.rule3.rises

      come_root : Come a (root_of ss) 0 (rest ss)
      unfolding depth
      come_root =
          let e = root_start m sound in
          record {
            at = root_listed m sound;
            covers = (holds_iff (whole (store_of ss (root_of ss))) a).0 top;
            deep = links_top (parent_in ss) (root_of ss) (omega (arith, root_own_parent m sound));
            above = λ x i. (rw sound.rule2.first (there i), omega (arith, behind.0 x i, sound.rule2.start));
            ahead = λ x h j u. other_line m sound x h (omega arith);
          }

      module _ (bs : Bytes) where
        by_row : step m bs (find a) ≡ found (store_holding ss a) m bs
        unfolding row checks change first_report
        by_row = sound_row m bs (find a) ((sound_agrees m).1 sound) ∙ rw top

        -- no store of a higher start holds the address: the answer is no other one
        same : (t n : ℕ) → Come a t n [] → t ≡ store_holding ss a
        same t n c = elim (ℕ_discrete t (store_holding ss a)) [
          | yes e ↦ e
          | no d ↦
              let ok = ap (λ o. o.report) by_row in
              let r = find_right m bs a ok in
              let x = r.store in
              let line = member_at store_name no_such_store ss sound.rule3.rises r.listed in
              let deeper = nested_below m sound (find_deepest m bs a ok t c.at c.covers (λ e. d (e ∙ ap (λ o. o.value) by_row))) in
              absurd (nowhere (c.ahead x.start (member_has store_name ss r.listed) (rw line r.covers) (omega (arith, r.named))))
        ]

        right : descend (rest ss) (root_of ss) 0 a ≡ inside (store_holding ss a) (depth ss (store_holding ss a))
        right =
            let f = ends (rest ss) behind.1 (root_of ss) 0 come_root in
            let e = same f.0 f.1 f.3 in
            f.2 ∙ ap₂ inside e (sym f.3.deep ∙ ap (depth ss) e)

-- The way down is document 01's row of call 7.
pub descent_right : (m : Model) → Sound m → (bs : Bytes) (a : ℕ) → descent m.stores a ≡ told (row m bs (find a))
unfolding row checks change first_report
descent_right m sound bs a = elim (tested (whole (store_of m.stores (root_of m.stores)) holds a)) [
  | inl e ↦ descent_root m.stores a ∙ rw e (right m sound a e bs)
  | inr e ↦ descent_root m.stores a ∙ rw e
]
