-- How keeping some elements and changing each go together, and keeping goes with the first elements of a list: equal lists. Assumes nothing.
use Rattle.std.specs.Prelude.{Bool, true, false, List, [], ◌∷◌, ◌++◌, map, ◌≡◌, refl, ℕ, ◌+◌, ◌<◌, length, take, get_or}
use mathlib.Core.List.Memᴰ.{head as here}
use mathlib.Core.List.Memᴰ.{tail as there}
use Rattle.std.proofs.Common.{append-nil, inl, inr, ap, add-one, take-suc}
use Rattle.lists.specs.Lists.{◌∈◌, keep, rest}
use Rattle.lists.specs.Tests.{tested}

module _ {A : Type 0} where
  -- changes that agree on the elements
  pub map_agree : (f g : A → A) (l : List A) → ((x : A) → x ∈ l → f x ≡ g x) → map f l ≡ map g l
  map_agree f g [] h = refl
  map_agree f g (x ∷ l) h = rw (h x (here refl), map_agree f g l (λ y m. h y (there m)))

  -- a change that leaves each element as it is
  pub map_none : (f : A → A) (l : List A) → ((x : A) → x ∈ l → f x ≡ x) → map f l ≡ l
  map_none f [] h = refl
  map_none f (x ∷ l) h = rw (h x (here refl), map_none f l (λ y m. h y (there m)))

  -- two changes that may be made in either order
  pub map_swap : (f g : A → A) → ((x : A) → f (g x) ≡ g (f x)) → (l : List A) → map f (map g l) ≡ map g (map f l)
  map_swap f g h [] = refl
  map_swap f g h (x ∷ l) = rw (h x, map_swap f g h l)

  -- tests that agree on the elements
  pub keep_agree : (p q : A → Bool) (l : List A) → ((x : A) → x ∈ l → p x ≡ q x) → keep p l ≡ keep q l
  keep_agree p q [] h = refl
  keep_agree p q (x ∷ l) h = rw (h x (here refl), keep_agree p q l (λ y m. h y (there m)))

  -- a test that each element passes
  pub keep_all : (p : A → Bool) (l : List A) → ((x : A) → x ∈ l → p x ≡ true) → keep p l ≡ l
  keep_all p [] h = refl
  keep_all p (x ∷ l) h = rw (h x (here refl), keep_all p l (λ y m. h y (there m)))

  pub keep_swap : (p q : A → Bool) (l : List A) → keep p (keep q l) ≡ keep q (keep p l)
  keep_swap p q [] = refl
  keep_swap p q (x ∷ l) = elim (tested (p x)) [
    | inl e ↦ elim (tested (q x)) [
      | inl f ↦ rw (e, f, e, keep_swap p q l)
      | inr f ↦ rw (e, f, keep_swap p q l)
    ]
    | inr e ↦ elim (tested (q x)) [
      | inl f ↦ rw (e, f, e, keep_swap p q l)
      | inr f ↦ rw (e, f, keep_swap p q l)
    ]
  ]

  -- after a weaker test a stronger one keeps what it keeps alone
  pub keep_stronger : (p q : A → Bool) → ((x : A) → p x ≡ true → q x ≡ true) → (l : List A) → keep p (keep q l) ≡ keep p l
  keep_stronger p q w [] = refl
  keep_stronger p q w (x ∷ l) = elim (tested (p x)) [
    | inl e ↦ rw (w x e, e, keep_stronger p q w l)
    | inr e ↦ elim (tested (q x)) [
      | inl f ↦ rw (e, f, e, keep_stronger p q w l)
      | inr f ↦ rw (e, f, keep_stronger p q w l)
    ]
  ]

  -- a change that the test does not see
  pub keep_map : (p : A → Bool) (f : A → A) → ((x : A) → p (f x) ≡ p x) → (l : List A) → keep p (map f l) ≡ map f (keep p l)
  keep_map p f s [] = refl
  keep_map p f s (x ∷ l) = elim (tested (p x)) [
    | inl e ↦ rw (s x, e, keep_map p f s l)
    | inr e ↦ rw (s x, e, keep_map p f s l)
  ]

  pub rest_map : (f : A → A) (l : List A) → rest (map f l) ≡ map f (rest l)
  rest_map f [] = refl
  rest_map f (x ∷ l) = refl

  keep_append : (p : A → Bool) (s t : List A) → keep p (s ++ t) ≡ keep p s ++ keep p t
  keep_append p [] t = refl
  keep_append p (x ∷ s) t = elim (tested (p x)) [
    | inl e ↦ rw e (ap (λ l. x ∷ l) (keep_append p s t))
    | inr e ↦ rw e (keep_append p s t)
  ]

  -- of one element more, kept or left out
  pub keep_in : (p : A → Bool) (l : List A) (i : ℕ) (d : A) → i < length l → p (get_or l i d) ≡ true → keep p (take (i + 1) l) ≡ keep p (take i l) ++ (get_or l i d ∷ [])
  keep_in p l i d h e = rw (add-one, take-suc l i d, keep_append p (take i l) (get_or l i d ∷ []), e)

  pub keep_out : (p : A → Bool) (l : List A) (i : ℕ) (d : A) → i < length l → p (get_or l i d) ≡ false → keep p (take (i + 1) l) ≡ keep p (take i l)
  keep_out p l i d h e = rw (add-one, take-suc l i d, keep_append p (take i l) (get_or l i d ∷ []), e) (append-nil (keep p (take i l)))
