-- The four changes of a list of stores, said by name: what stays of every listed store and what becomes of it; and that the list functions which the calls use are
-- such changes. Assumes nothing.
use Rattle.std.specs.Prelude.{Bool, false, not, List, ◌↔◌, ◌⊎◌, ◌≡◌, refl, ℕ}
use Rattle.std.proofs.Common.{sym, ◌∙◌, ap, eq-eqb, ne_eqb}
use Rattle.lists.specs.Lists.{keep}
use Rattle.lists.specs.Keyed.{insert}
use Rattle.lists.specs.Tests.{and_iff, not_iff}
use Rattle.lists.specs.KeyedChanges.{has_insert_iff, at_insert_new, at_insert_old, has_map, at_map, at_map_same, at_map_field, has_keep, at_keep}
use Rattle.meaning.specs.Model.{Store, store_name, listed, no_such_store, store_of}
use Rattle.meaning.specs.Nesting.{nested, parent_in}
use Rattle.meaning.specs.Changes.{line_with_used, with_used, with_total, cleared}
use Rattle.meaning.proofs.Laws.Nested.{named}
use Rattle.laws.specs.ByName.{Listed, total_in, used_in}

-- ---- another used

-- the used of c is u, and nothing else changes
pub record UsedSet (c u : ℕ) (ss after : List Store) : Type 0 where
  pub names : (k : ℕ) → listed after k ≡ listed ss k
  pub parents : (k : ℕ) → Listed ss k → parent_in after k ≡ parent_in ss k
  pub totals : (k : ℕ) → Listed ss k → total_in after k ≡ total_in ss k
  pub here : Listed ss c → used_in after c ≡ u
  pub elsewhere : (k : ℕ) → Listed ss k → (k ≡ c → ⊥) → used_in after k ≡ used_in ss k

pub used_set : (c u : ℕ) (ss : List Store) → UsedSet c u ss (with_used c u ss)
used_set c u ss =
    record {
      names = λ k. has_map store_name _ (λ s. refl) ss k;
      parents = λ k h. ap (λ s. s.parent) (at_map store_name _ (λ s. refl) no_such_store ss k h);
      totals = λ k h. ap (λ s. s.total) (at_map store_name _ (λ s. refl) no_such_store ss k h);
      here = λ h. ap (λ s. s.used) (at_map store_name _ (λ s. refl) no_such_store ss c h) ∙ rw (eq-eqb (store_of ss c).start c (named ss c));
      elsewhere = λ k h d. ap (λ s. s.used) (at_map store_name _ (λ s. refl) no_such_store ss k h)
          ∙ rw (ne_eqb (store_of ss k).start c (λ e. d (sym (named ss k) ∙ e)));
    }

-- ---- another total, with another used of another store

-- the total of x is n and the used of c is u, and nothing else changes
pub record Resized (x n c u : ℕ) (ss after : List Store) : Type 0 where
  pub names : (k : ℕ) → listed after k ≡ listed ss k
  pub parents : (k : ℕ) → Listed ss k → parent_in after k ≡ parent_in ss k
  pub total : Listed ss x → total_in after x ≡ n
  pub totals : (k : ℕ) → Listed ss k → (k ≡ x → ⊥) → total_in after k ≡ total_in ss k
  pub here : Listed ss c → used_in after c ≡ u
  pub elsewhere : (k : ℕ) → Listed ss k → (k ≡ c → ⊥) → used_in after k ≡ used_in ss k

pub resized : (x n c u : ℕ) (ss : List Store) → Resized x n c u ss (with_used c u (with_total x n ss))
resized x n c u ss =
    let mid = with_total x n ss in
    let s = used_set c u mid in
    let same : (k : ℕ) → listed mid k ≡ listed ss k = λ k. has_map store_name _ (λ s. refl) ss k in
    record {
      names = λ k. s.names k ∙ same k;
      parents = λ k h. s.parents k (same k ∙ h) ∙ ap (λ s. s.parent) (at_map store_name _ (λ s. refl) no_such_store ss k h);
      total = λ h. s.totals x (same x ∙ h) ∙ ap (λ s. s.total) (at_map store_name _ (λ s. refl) no_such_store ss x h)
          ∙ rw (eq-eqb (store_of ss x).start x (named ss x));
      totals = λ k h d. s.totals k (same k ∙ h) ∙ ap (λ s. s.total) (at_map store_name _ (λ s. refl) no_such_store ss k h)
          ∙ rw (ne_eqb (store_of ss k).start x (λ e. d (sym (named ss k) ∙ e)));
      here = λ h. s.here (same c ∙ h);
      elsewhere = λ k h d. s.elsewhere k (same k ∙ h) d ∙ ap (λ s. s.used) (at_map store_name _ (λ s. refl) no_such_store ss k h);
    }

-- ---- a clear

-- the stores that are not nested in c, as they are
abbrev pub not_in : ℕ → List Store → List Store
not_in c ss = keep (λ s. not (nested ss s.start c)) ss

-- the stores that are nested in c go, the used of c is 0, and nothing else changes
pub record Cleared (c : ℕ) (ss after : List Store) : Type 0 where
  pub names : (k : ℕ) → Listed after k ↔ (Listed ss k × (nested ss k c ≡ false))
  pub parents : (k : ℕ) → nested ss k c ≡ false → parent_in after k ≡ parent_in ss k
  pub totals : (k : ℕ) → nested ss k c ≡ false → total_in after k ≡ total_in ss k
  pub here : Listed ss c → nested ss c c ≡ false → used_in after c ≡ 0
  pub elsewhere : (k : ℕ) → nested ss k c ≡ false → (k ≡ c → ⊥) → store_of after k ≡ store_of ss k

pub after_clear : (c : ℕ) (ss : List Store) → Cleared c ss (cleared c ss)
after_clear c ss =
    let left = not_in c ss in
    let stays : ℕ → Bool = λ k. not (nested ss k c) in
    let u = used_set c 0 left in
    let has = has_keep store_name stays ss in
    let there : (k : ℕ) → Listed ss k → nested ss k c ≡ false → Listed left k = λ k h out. has k ∙ (and_iff (stays k) (listed ss k)).1 ((not_iff _).1 out, h) in
    let line : (k : ℕ) → nested ss k c ≡ false → store_of left k ≡ store_of ss k = λ k out. at_keep store_name stays no_such_store ss k ((not_iff _).1 out) in
    record {
      names = λ k. (
        λ h. let b = (and_iff (stays k) (listed ss k)).0 (sym (has k) ∙ sym (u.names k) ∙ h) in (b.1, (not_iff _).0 b.0),
        λ h. u.names k ∙ there k h.0 h.1,
      );
      parents = λ k out. at_map_field store_name (line_with_used c 0) (λ s. refl) (λ s. s.parent) (λ s. refl) no_such_store left k ∙ ap (λ s. s.parent) (line k out);
      totals = λ k out. at_map_field store_name (line_with_used c 0) (λ s. refl) (λ s. s.total) (λ s. refl) no_such_store left k ∙ ap (λ s. s.total) (line k out);
      here = λ h out. u.here (there c h out);
      elsewhere = λ k out d. at_map_same store_name (line_with_used c 0) (λ s. refl) no_such_store left k (λ s e. rw (ne_eqb s.start c (λ q. d (sym e ∙ q)))) ∙ line k out;
    }

-- ---- one store more

-- the stores listed before stay as they are, and the new one is listed
pub record Added (new : Store) (ss after : List Store) : Type 0 where
  pub names : (k : ℕ) → Listed after k ↔ (Listed ss k ⊎ (k ≡ new.start))
  pub here : store_of after new.start ≡ new
  pub elsewhere : (k : ℕ) → (new.start ≡ k → ⊥) → store_of after k ≡ store_of ss k

pub added : (new : Store) (ss : List Store) → listed ss new.start ≡ false → Added new ss (insert store_name new ss)
added new ss h =
    record { names = has_insert_iff store_name new ss; here = at_insert_new store_name no_such_store new ss h; elsewhere = at_insert_old store_name no_such_store new ss }
