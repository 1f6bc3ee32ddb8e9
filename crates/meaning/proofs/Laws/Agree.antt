-- Each test of Rules.antt decides its proposition of Facts.antt. Assumes nothing.
use Rattle.std.specs.Prelude.{true, false, ◌↔◌, ◌≡◌, refl, ℕ, max}
use mathlib.Core.List.{List, [], ◌∷◌, nil≢cons, head-eq_of_cons-eq}
use Rattle.std.proofs.Math.Logic.Iff
use Rattle.std.proofs.Common.{sym, ◌∙◌, arith}
use Rattle.std.proofs.Math.Decide.{ℕ_discrete}
use Rattle.lists.specs.Lists.{all_two, AllTwo}
use Rattle.lists.specs.Tests.{never, reflect}
use Rattle.lists.specs.ListLaws.{all_iff, all_two_iff}
use Rattle.lists.specs.KeyedLaws.{has_iff, rising_iff}
use Rattle.meaning.specs.Model.{Run, Store, Stack, Model, ◌holds◌, ◌inside◌, ◌apart_from◌, whole, stack_run}
use Rattle.meaning.specs.Rules.{areas_sound, root_sound, stores_hang, siblings_apart, stores_fit, threads_placed, stacks_fit, run_sound, rule1, rule2, rule3, rule4, rule5, rule6, rule7, sound}
use Rattle.meaning.specs.Facts.{◌Holds◌, ◌Inside◌, ◌ApartFrom◌, Rule1, Rule2, Rule3, Rule4, Rule5, Rule6, Rule7, Sound}

pub holds_iff : (r : Run) (a : ℕ) → ((r holds a) ≡ true) ↔ r Holds a
unfolding ◌holds◌
holds_iff r a = simp reflect Iff.rfl

pub inside_iff : (r s : Run) → ((r inside s) ≡ true) ↔ r Inside s
unfolding ◌inside◌
inside_iff r s = simp reflect Iff.rfl

-- the address that two runs share, if they do, is the later of their starts
pub apart_iff : (r s : Run) → ((r apart_from s) ≡ true) ↔ r ApartFrom s
unfolding ◌apart_from◌
apart_iff r s = (
  λ h a i j. let f = simp reflect at h in let z = f (omega arith) in omega arith,
  λ h. simp reflect (λ e. elim (ℕ_discrete s.length 0) [
    | yes q ↦ q
    | no q ↦ absurd (h (max r.start s.start) (omega arith) (omega arith))
  ]),
)

-- what the tests of the rules ask
pub ruleset asks = (holds_iff, inside_iff, apart_iff, all_iff, has_iff, rising_iff, reflect)

pub rule1_agrees : (m : Model) → (rule1 m ≡ true) ↔ Rule1 m
unfolding areas_sound
rule1_agrees m = (
  λ h. let f = simp asks at h in
      record { stores_least = f.0.0.0.0.0; stores_most = f.0.0.0.0.1; stacks_most = f.0.0.0.1; stores_end = f.0.0.1; stacks_end = f.0.1; apart = f.1 },
  λ r. simp asks (((((r.stores_least, r.stores_most), r.stacks_most), r.stores_end), r.stacks_end), r.apart),
)

pub rule2_agrees : (m : Model) → (rule2 m ≡ true) ↔ Rule2 m
unfolding root_sound
rule2_agrees m = first_is m.stores refl
  where
    first_is : (ss : List Store) → m.stores ≡ ss → (root_sound m.store_area ss ≡ true) ↔ Rule2 m
    first_is [] e = (λ h. never false h refl, λ r. absurd (nil≢cons (sym e ∙ r.first)))
    first_is (s ∷ ss) e = (
      λ h. let f = simp asks at h in record { root = s; first = rw e; start = f.0.0; total = f.0.1; itself = f.1 },
      λ r. let q : r.root ≡ s = head-eq_of_cons-eq (sym r.first ∙ e) in simp asks ((rw q at r.start, rw q at r.total), rw q at r.itself),
    )

pub rule3_agrees : (m : Model) → (rule3 m ≡ true) ↔ Rule3 m
unfolding stores_hang
rule3_agrees m = (
  λ h. let f = simp asks at h in
      record { rises = f.0; others = λ s i. let g = f.1 s i in record { listed = g.0.0; lower = g.0.1; least = g.1 } },
  λ r. simp asks (r.rises, λ s i. let g = r.others s i in ((g.listed, g.lower), g.least)),
)

siblings_iff : (c d : Store) → (siblings_apart c d ≡ true) ↔ (c.parent ≡ d.parent → whole c ApartFrom whole d)
siblings_iff c d = simp asks Iff.rfl

siblings_all : (ss : List Store) → (all_two siblings_apart ss ≡ true) ↔ AllTwo (λ c d. c.parent ≡ d.parent → whole c ApartFrom whole d) ss
siblings_all ss = all_two_iff siblings_apart _ siblings_iff ss

pub rule4_agrees : (m : Model) → (rule4 m ≡ true) ↔ Rule4 m
unfolding stores_fit
rule4_agrees m = (
  λ h. let f = simp (asks, siblings_all) at h in
      record { fits = f.0.0; inside = λ p c i j. f.0.1 p i c j; apart = f.1 },
  λ r. simp (asks, siblings_all) ((r.fits, λ p i c j. r.inside p c i j), r.apart),
)

pub rule5_agrees : (m : Model) → (rule5 m ≡ true) ↔ Rule5 m
unfolding threads_placed
rule5_agrees m = (
  λ h. let f = simp asks at h in record { rises = f.0; placed = f.1 },
  λ r. simp asks (r.rises, r.placed),
)

stacks_iff : (ks : List Stack) → (all_two (λ k l. stack_run k apart_from stack_run l) ks ≡ true) ↔ AllTwo (λ k l. stack_run k ApartFrom stack_run l) ks
stacks_iff ks = all_two_iff _ _ (λ k l. apart_iff (stack_run k) (stack_run l)) ks

pub rule6_agrees : (m : Model) → (rule6 m ≡ true) ↔ Rule6 m
unfolding stacks_fit
rule6_agrees m = (
  λ h. let f = simp (asks, stacks_iff) at h in
      record {
        rises = f.0.0;
        least = λ k i. (f.0.1 k i).0.0;
        inside = λ k i. (f.0.1 k i).0.1;
        taken = λ k i. (f.0.1 k i).1;
        apart = f.1;
      },
  λ r. simp (asks, stacks_iff) ((r.rises, λ k i. ((r.least k i, r.inside k i), r.taken k i)), r.apart),
)

pub rule7_agrees : (m : Model) → (rule7 m ≡ true) ↔ Rule7 m
unfolding run_sound
rule7_agrees m = (
  λ h. let f = simp asks at h in record { inside = f.0.0; makes = f.0.1; empty = f.1 },
  λ r. simp asks ((r.inside, r.makes), r.empty),
)

pub sound_agrees : (m : Model) → (sound m ≡ true) ↔ Sound m
unfolding sound
sound_agrees m = (
  λ h. let f = simp (reflect, rule1_agrees, rule2_agrees, rule3_agrees, rule4_agrees, rule5_agrees, rule6_agrees, rule7_agrees) at h in
      record { rule1 = f.0.0.0.0.0.0; rule2 = f.0.0.0.0.0.1; rule3 = f.0.0.0.0.1; rule4 = f.0.0.0.1; rule5 = f.0.0.1; rule6 = f.0.1; rule7 = f.1 },
  λ r. simp (reflect, rule1_agrees, rule2_agrees, rule3_agrees, rule4_agrees, rule5_agrees, rule6_agrees, rule7_agrees)
      ((((((r.rule1, r.rule2), r.rule3), r.rule4), r.rule5), r.rule6), r.rule7),
)
