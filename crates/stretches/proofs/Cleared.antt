-- The stores that a clear leaves: on any list those that are not nested in the store are listed as before, and among them nested in means what it meant.
-- Assumes nothing.
use Rattle.std.specs.Prelude.{true, false, List, [], ◌≡◌, refl, ℕ}
use mathlib.Core.List.Memᴰ.{not-nil as nowhere}
use Rattle.std.proofs.Common.{inl, inr, sym, ◌∙◌, ap, arith}
use Rattle.lists.specs.Tests.{tested, never, false_of, same_test}
use Rattle.lists.specs.KeyedLaws.{at_none}
use Rattle.meaning.specs.Model.{Store, Model, store_name, listed, no_such_store, root_of}
use Rattle.meaning.specs.Nesting.{Child, Nested, child, in_child, nested, parent_in}
use Rattle.meaning.specs.Facts.{Sound}
use Rattle.meaning.specs.Changes.{cleared, with_stores, with_threads}
use Rattle.meaning.proofs.Laws.Nested.{child_link, link_child, nested_agrees}
use Rattle.laws.specs.ByName.{Listed, root_start}
use Rattle.laws.specs.Frames.{sound_with_threads}
use Rattle.laws.specs.Nesting.{nested_transitive, never_in_itself, not_nested}
use Rattle.laws.specs.StoreChanges.{after_clear}
use Rattle.laws.specs.StoreCalls.{clear_sound}

-- ---- of any list

module _ (c : ℕ) (ss : List Store) where
  -- a store that is not nested in c is listed as before
  pub stays_listed : (x : ℕ) → nested ss x c ≡ false → listed (cleared c ss) x ≡ listed ss x
  stays_listed x out = let g = (after_clear c ss).names x in same_test _ _ (λ h. (g.0 h).0) (λ h. g.1 (h, out))

  gone_hung : (x : ℕ) → nested ss x c ≡ true → parent_in (cleared c ss) x ≡ x
  gone_hung x gone = ap (λ s. s.parent) (at_none store_name no_such_store (cleared c ss) x (false_of _ (λ h. never _ gone (((after_clear c ss).names x).0 h).1)))

-- ---- of a sound model

module _ (m : Model) (sound : Sound m) (c : ℕ) (there : Listed m.stores c) where
  abbrev ss : List Store
  ss = m.stores

  -- the stores that are left, with no thread in them
  abbrev left : Model
  left = with_stores (with_threads m []) (cleared c ss)

  left_sound : Sound left
  left_sound = clear_sound (with_threads m []) (sound_with_threads m sound [] (record { rises = tt; placed = λ t i. absurd (nowhere i) })) c there refl

  child_back : {x s : ℕ} → Child (cleared c ss) x s → Child ss x s
  child_back {x} {s} h =
      let k = child_link left left_sound h in
      elim (tested (nested ss x c)) [
        | inl e ↦ let g = gone_hung c ss x e in absurd (omega arith)
        | inr e ↦ link_child m sound (sym ((after_clear c ss).parents x e) ∙ k.0) k.1
      ]

  nested_back : {x s : ℕ} → Nested (cleared c ss) x s → Nested ss x s
  nested_back (child h) = child (child_back h)
  nested_back (in_child h n) = in_child (child_back h) (nested_back n)

  child_on : {x s : ℕ} → Child ss x s → nested ss x c ≡ false → Child (cleared c ss) x s
  child_on {x} h out = let k = child_link m sound h in link_child left left_sound ((after_clear c ss).parents x out ∙ k.0) k.1

  nested_on : {x s : ℕ} → Nested ss x s → nested ss x c ≡ false → Nested (cleared c ss) x s
  nested_on (child h) out = child (child_on h out)
  nested_on {x} (in_child {y = y} h n) out =
      in_child
      (child_on h (not_nested m sound (λ o. never _ ((nested_agrees m sound x c).1 (nested_transitive ss n o)) out)))
      (nested_on n out)

  -- of a store that is left, nested in means what it meant
  pub nested_cleared : (x s : ℕ) → nested ss x c ≡ false → nested (cleared c ss) x s ≡ nested ss x s
  nested_cleared x s out =
      same_test _ _ (λ e. (nested_agrees m sound x s).1 (nested_back ((nested_agrees left left_sound x s).0 e)))
      (λ e. (nested_agrees left left_sound x s).1 (nested_on ((nested_agrees m sound x s).0 e) out))

  -- no store is nested in itself
  pub not_in_itself : nested ss c c ≡ false
  not_in_itself = not_nested m sound (never_in_itself m sound)

  pub root_left : root_of (cleared c ss) ≡ root_of ss
  root_left = root_start left left_sound ∙ sym (root_start m sound)
