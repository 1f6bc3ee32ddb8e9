-- What document 01 takes away by report 13 at call 11. Where a store does not end where its parent's free part begins, 000's schema can change it to two
-- sizes at most, its own and that of the free part, unless nothing is free. Assumes nothing.
use Rattle.std.specs.Prelude.{true, ◌⊎◌, ◌≡◌, refl, ℕ, ◌<◌, ◌≤◌, ◌-◌}
use Rattle.std.proofs.Common.{inl, inr, ⊎_elim, ◌∙◌, sym, ap, arith}
use Rattle.std.proofs.Math.Decide.{dec_lt}
use Rattle.std.proofs.lemmas.Bool.{eqb-false}
use Rattle.lists.specs.Tests.{not_iff}
use Rattle.names.specs.Overhead.{store_taken}
use Rattle.meaning.specs.Model.{Run, Model, end, whole, free_part, free, store_of}
use Rattle.meaning.specs.Nesting.{Child, child, parent_in}
use Rattle.meaning.specs.Facts.{Sound}
use Rattle.meaning.specs.Reports.{parent_store, not_last}
use Rattle.meaning.proofs.Laws.Nested.{child_link}
use Rattle.laws.specs.ByName.{total_in, by_name}
use Rattle.laws.specs.Nesting.{inner_listed}
use Rattle.laws.specs.Geometry.{nested_inside}
use Rattle.schemas.specs.Memory.{◌≐◌, ◌⊆◌, ◌∪◌, ◌∖◌, cells, run_counts, counts_one}
use Rattle.schemas.specs.Reports.{MMokay, number}
use Rattle.schemas.specs.Stores.{Backing, BSResize, BSResizeChild, RBSResize, RBSResizeChild}
use Rattle.schemas.specs.Global.{Global, GlobalResizeBS}
use Rattle.schemas.specs.Reading.{global_of}

-- ---- runs with a gap between them

module _ (old room new left : Run) (gap : end old < room.start) (some : 0 < room.length) (held : 0 < old.length) (asked : 0 < new.length)
    (taken : cells new ⊆ (cells room ∪ cells old)) (rest : cells left ≐ ((cells room ∪ cells old) ∖ cells new)) where
  -- neither holds the first address of the gap
  outside : (cells room ∪ cells old) (end old) → ⊥
  outside u = ⊎_elim (λ h. omega arith) (λ h. omega arith) u

  -- so what is left lies on one side of it
  one_side : (a b : ℕ) → cells left a → cells left b → a ≤ end old → end old ≤ b → ⊥
  one_side a b h k l r = outside ((rest (end old)).0 (omega arith)).0

  -- an address of either is taken or left
  stays : (a : ℕ) → (cells room ∪ cells old) a → (cells new a → ⊥) → cells left a
  stays a u n = (rest a).1 (u, n)

  takes_old : cells old new.start → new.length ≡ old.length
  takes_old h =
      let within : end new ≤ end old = elim (dec_lt (end old) (end new)) [
        | yes l ↦ absurd (outside (taken (end old) (omega arith)))
        | no l ↦ omega arith
      ] in
      let high : cells left room.start = stays room.start (inl (omega arith)) (λ k. omega arith) in
      let low : new.start ≤ old.start = elim (dec_lt old.start new.start) [
        | yes l ↦ absurd (one_side old.start room.start (stays old.start (inr (omega arith)) (λ k. omega arith)) high (omega arith) (omega arith))
        | no l ↦ omega arith
      ] in
      let all : end old ≤ end new = elim (dec_lt (end new) (end old)) [
        | yes l ↦ absurd (one_side (end new) room.start (stays (end new) (inr (omega arith)) (λ k. omega arith)) high (omega arith) (omega arith))
        | no l ↦ omega arith
      ] in
      omega arith

  takes_room : cells room new.start → new.length ≡ room.length
  takes_room h =
      let within : end new ≤ end room = elim (dec_lt (end room) (end new)) [
        | yes l ↦ absurd (⊎_elim (λ k. omega arith) (λ k. omega arith) (taken (end room) (omega arith)))
        | no l ↦ omega arith
      ] in
      let low : cells left old.start = stays old.start (inr (omega arith)) (λ k. omega arith) in
      let from : new.start ≤ room.start = elim (dec_lt room.start new.start) [
        | yes l ↦ absurd (one_side old.start room.start low (stays room.start (inl (omega arith)) (λ k. omega arith)) (omega arith) (omega arith))
        | no l ↦ omega arith
      ] in
      let all : end room ≤ end new = elim (dec_lt (end new) (end room)) [
        | yes l ↦ absurd (one_side old.start (end new) low (stays (end new) (inl (omega arith)) (λ k. omega arith)) (omega arith) (omega arith))
        | no l ↦ omega arith
      ] in
      omega arith

  two_sizes : (new.length ≡ old.length) ⊎ (new.length ≡ room.length)
  two_sizes = ⊎_elim (λ h. inr (takes_room h)) (λ h. inl (takes_old h)) (taken new.start (omega arith))

-- ---- GlobalResizeBS

-- Success leaves the first half of a robust operation
resized_child : {b b' : Backing} {new old : Run} → RBSResize b b' new old MMokay → BSResize b b' new old
resized_child r = ⊎_elim (λ x. x.0)
    (λ x. ⊎_elim
    (λ y. absurd (omega (arith, ap number y.0.told)))
    (λ y. ⊎_elim (λ z. absurd (omega (arith, ap number z.told))) (λ z. absurd (omega (arith, ap number z.told))) y)
    x)
    r

resized_parent : {b b' : Backing} {n x id : ℕ} {old new : Run} → RBSResizeChild b b' n old new x id MMokay → BSResizeChild b b' n old new x id
resized_parent r = ⊎_elim (λ x. x.0)
    (λ x. ⊎_elim
    (λ y. absurd (omega (arith, ap number y.0.told)))
    (λ y. ⊎_elim (λ z. absurd (omega (arith, ap number z.0.told))) (λ z. absurd (omega (arith, ap number z.told))) y)
    x)
    r

module _ (m : Model) (sound : Sound m) (x n : ℕ) (apart : not_last m x ≡ true) {g' : Global} {id : ℕ} (c : GlobalResizeBS (global_of m) g' x (store_taken n) id) where
  is_child : Child m.stores x c.parent_id
  is_child = (c.only x).1 refl

  -- 000's old addresses are the store's
  old_size : c.old_addresses.length ≡ total_in m.stores x
  old_size = counts_one (run_counts c.old_addresses (λ a. (λ h. h, λ h. h))) (run_counts (whole (store_of m.stores x)) (resized_child c.resizes).memory.old)

  -- the store's parent is 000's
  parent_is : parent_in m.stores x ≡ c.parent_id
  parent_is = (child_link m sound is_child).0

  -- the store ends before that parent's free part
  before_room : end (whole (store_of m.stores x)) < (free_part (store_of m.stores c.parent_id)).start
  before_room =
      let lies = nested_inside m sound (child is_child) in
      let d = eqb-false (end (whole (store_of m.stores x))) (free_part (parent_store m x)).start ((not_iff _).0 apart) in
      let p = ap (λ k. (free_part (store_of m.stores k)).start) parent_is in
      omega arith

  some_old : 0 < total_in m.stores x
  some_old = let f = (by_name m sound).fits x (inner_listed m sound (child is_child)) in omega arith

  -- and so do the old addresses
  old_before_room : end c.old_addresses < (free_part (store_of m.stores c.parent_id)).start
  old_before_room =
      let e = old_size in
      let f = some_old in
      let b = before_room in
      let last = ((resized_child c.resizes).memory.old (end c.old_addresses - 1)).0 (omega arith) in
      omega arith

  sizes : 0 < free (store_of m.stores c.parent_id) → (store_taken n ≡ total_in m.stores x) ⊎ (store_taken n ≡ free (store_of m.stores c.parent_id))
  sizes some =
      let t = (resized_parent c.within).memory in
      let e = old_size in
      let f = some_old in
      let long = t.long in
      ⊎_elim (λ k. inl (sym long ∙ k ∙ e)) (λ k. inr (sym long ∙ k))
      (two_sizes c.old_addresses (free_part (store_of m.stores c.parent_id)) c.new_addresses c.parent.block.free old_before_room some (omega arith) (omega arith)
      t.new t.free)

  pub resize_apart : (free (parent_store m x) ≡ 0) ⊎ ((store_taken n ≡ total_in m.stores x) ⊎ (store_taken n ≡ free (parent_store m x)))
  resize_apart =
      let p = ap (λ k. free (store_of m.stores k)) parent_is in
      elim (dec_lt 0 (free (store_of m.stores c.parent_id))) [
        | yes l ↦ inr (⊎_elim (λ k. inl k) (λ k. inr (k ∙ sym p)) (sizes l))
        | no l ↦ inl (omega arith)
      ]
