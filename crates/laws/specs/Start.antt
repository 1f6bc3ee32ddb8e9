-- An accepted call 0 makes a sound model of any model. Assumes nothing.
use Rattle.std.specs.Prelude.{true, ◌≡◌, refl}
use mathlib.Core.List.Memᴰ.{eq_of_singleton as only}
use mathlib.Core.List.Memᴰ.{not-nil as nowhere}
use Rattle.std.proofs.Common.{arith}
use Rattle.meaning.specs.Model.{Run, Model}
use Rattle.meaning.specs.Rules.{areas_sound}
use Rattle.meaning.specs.Facts.{Rule1, Sound}
use Rattle.meaning.specs.Changes.{started}
use Rattle.meaning.proofs.Laws.Agree.{rule1_agrees}

pub start_sound : (m : Model) (a b : Run) → areas_sound a b ≡ true → Sound (started m a b)
start_sound m a b h =
    let r1 : Rule1 (started m a b) = (rule1_agrees (started m a b)).0 h in
    let long = r1.stores_least in
    record {
      rule1 = r1;
      rule2 = record { root = _; first = refl; start = refl; total = refl; itself = refl };
      rule3 = record { rises = ((λ y i. absurd (nowhere i)), tt); others = λ s i. absurd (nowhere i) };
      rule4 = record { fits = λ s i. rw (only i) (omega arith); inside = λ p c i j. absurd (nowhere j); apart = tt };
      rule5 = record { rises = tt; placed = λ t i. absurd (nowhere i) };
      rule6 =
          record {
            rises = tt;
            least = λ k i. absurd (nowhere i);
            inside = λ k i. absurd (nowhere i);
            taken = λ k i. absurd (nowhere i);
            apart = tt;
          };
      rule7 = record { inside = omega arith; makes = omega arith; empty = omega arith };
    }
