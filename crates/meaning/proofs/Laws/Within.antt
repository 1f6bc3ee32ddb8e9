-- Where the lines of a sound model lie: every listed store within the store area, every context a listed store. Assumes nothing.
use Rattle.std.specs.Prelude.{true, List, ◌≡◌, refl, ℕ, zero, suc, ◌+◌, ◌≤◌}
use mathlib.Core.List.Memᴰ.{head as here}
use Rattle.std.proofs.Common.{⊎_elim, sym, ◌∙◌, ap, arith}
use Rattle.lists.specs.Lists.{◌∈◌, rest}
use Rattle.lists.specs.Keyed.{has}
use Rattle.lists.specs.KeyedLaws.{has_iff, at_member, member_at}
use Rattle.names.specs.Overhead.{store_overhead}
use Rattle.meaning.specs.Model.{Store, Model, whole, store_name, thread_name, listed, no_such_store, no_such_thread, store_of, context_in, root_of}
use Rattle.meaning.specs.Nesting.{parent_in}
use Rattle.meaning.specs.Facts.{◌Inside◌, Sound}
use Rattle.meaning.proofs.Laws.Nested.{named, root_or_other}

module _ (m : Model) (sound : Sound m) where
  abbrev ss : List Store
  ss = m.stores

  -- the root is the area; another store lies in its parent, which lies in the area
  root_within : {x : ℕ} → x ≡ root_of ss → whole (store_of ss x) Inside m.store_area
  root_within {x} e =
      let r = sound.rule2 in
      let found : store_of ss x ≡ r.root = ap (store_of ss) (e ∙ ap root_of r.first) ∙ member_at store_name no_such_store ss sound.rule3.rises (rw r.first (here refl)) in
      let a = ap (λ s. s.start) found in
      let b = ap (λ s. s.total) found in
      omega (arith, r.start, r.total)

  in_parent_lem : (x : ℕ) → store_of ss x ∈ rest ss → whole (store_of ss (parent_in ss x)) Inside m.store_area → whole (store_of ss x) Inside m.store_area
  in_parent_lem x i up =
      let p = store_of ss (parent_in ss x) in
      let there : p ∈ ss = at_member store_name no_such_store ss (parent_in ss x) ((has_iff store_name ss (parent_in ss x)).1 (sound.rule3.others (store_of ss x) i).listed) in
      let lies = sound.rule4.inside p (store_of ss x) there i (sym (named ss (parent_in ss x))) in
      let f = sound.rule4.fits p there in
      omega arith

  within : (n x : ℕ) → x ≤ n → listed ss x ≡ true → whole (store_of ss x) Inside m.store_area
  within zero x k h =
      ⊎_elim (λ r. root_within r.0) (λ i. let l = (sound.rule3.others (store_of ss x) i).lower in absurd (omega (arith, named ss x))) (root_or_other m sound h)
  within (suc n) x k h = ⊎_elim (λ r. root_within r.0)
      (λ i.
      let hangs = sound.rule3.others (store_of ss x) i in
      in_parent_lem x i (within n (parent_in ss x) (omega (arith, hangs.lower, named ss x)) ((has_iff store_name ss (parent_in ss x)).1 hangs.listed)))
      (root_or_other m sound h)

  -- a listed store's total lies in the store area
  pub store_within : (x : ℕ) → listed ss x ≡ true → whole (store_of ss x) Inside m.store_area
  store_within x h = within x x (omega arith) h

  -- a listed store's used fits
  pub store_fits : (x : ℕ) → listed ss x ≡ true → (store_of ss x).used + store_overhead ≤ (store_of ss x).total
  store_fits x h = sound.rule4.fits (store_of ss x) (at_member store_name no_such_store ss x h)

  -- the context of a listed thread is a listed store
  pub context_listed : (t : ℕ) → has thread_name m.threads t ≡ true → listed ss (context_in m.threads t) ≡ true
  context_listed t h = (has_iff store_name ss _).1 (sound.rule5.placed _ (at_member thread_name no_such_thread m.threads t h))
