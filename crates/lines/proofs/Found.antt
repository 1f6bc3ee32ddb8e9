-- A line that is found, or an error where none is. Assumes nothing.
use Rattle.std.specs.Prelude.{Bool, true, false, ◌||◌, List, [], ◌∷◌, ◌≡◌, refl, ℕ, eqb, Option, None, Some, Result, Ok, Err, ok_or, option_map, if◌then◌else◌}
use Rattle.std.specs.List.{find}
use Rattle.std.proofs.Common.{◌∙◌, ap}
use Rattle.lists.specs.Keyed.{has, at}

module _ {A B E : Type 0} (view : A → B) (back : B → A) (same : (a : A) → a ≡ back (view a)) (name : B → ℕ) (none : ℕ → B) (k : ℕ) (e : E) where
  abbrev back_or : Option B → Result A E
  back_or None = Err e
  back_or (Some b) = Ok (back b)

  read_or : (o : Option A) → ok_or o e ≡ back_or (option_map view o)
  read_or None = refl
  read_or (Some a) = ap (λ x. Ok x) (same a)

  one_more : (b h : Bool) (s t : B) (o : Option B) → back_or o ≡ (if h then Ok (back t) else Err e)
      → back_or (if b then Some s else o) ≡ (if b || h then Ok (back (if b then s else t)) else Err e)
  one_more true h s t o f = refl
  one_more false h s t o f = f

  listed_or : (bs : List B) → back_or (find (λ b. eqb (name b) k) bs) ≡ (if has name bs k then Ok (back (at name none bs k)) else Err e)
  listed_or [] = refl
  listed_or (b ∷ bs) = one_more (eqb (name b) k) (has name bs k) b (at name none bs k) _ (listed_or bs)

  pub found_or : (bs : List B) (o : Option A) → option_map view o ≡ find (λ b. eqb (name b) k) bs → ok_or o e ≡ (if has name bs k then Ok (back (at name none bs k)) else Err e)
  found_or bs o f = read_or o ∙ ap back_or f ∙ listed_or bs
