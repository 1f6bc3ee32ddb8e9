-- What the code asks of stacks one by one, and rule 6 in one pass from the front: each stack starts where the one before it ended, or later. The pass is
-- proved to decide the rule on every list, so no reader has to believe it. Assumes nothing.
use Rattle.std.specs.Prelude.{Bool, true, ◌&&◌, ◌≡◌, ℕ, ◌<◌, ◌≤◌, leb}
use mathlib.Core.List.Memᴰ.{cases_cons}
use mathlib.Core.List.Memᴰ.{head as here}
use mathlib.Core.List.Memᴰ.{not-nil as nowhere}
use mathlib.Core.List.Memᴰ.{tail as there}
use mathlib.Core.List.{List, [], ◌∷◌}
use Rattle.std.proofs.Math.Logic.{⊎_elim}
use Rattle.std.proofs.Math.Path.{refl, ap}
use Rattle.std.proofs.Math.Decide.{dec_le}
use native.Mathlib.Omega.{arith}
use borrow.Author.Tests.{leb-true, le-leb}
use Rattle.lists.specs.Lists.{◌∈◌, all, AllTwo}
use Rattle.lists.specs.Keyed.{rising, Rising}
use Rattle.lists.specs.Tests.{and_iff, same_test, reflect}
use Rattle.lists.specs.ListLaws.{all_iff, all_two_iff}
use Rattle.lists.specs.KeyedLaws.{rising_iff}
use Rattle.lines.specs.Carried.{chained}
use Rattle.names.specs.Overhead.{stack_overhead}
use Rattle.meaning.specs.Model.{Run, Stack, end, ◌apart_from◌, stack_run, stack_name}
use Rattle.meaning.specs.Rules.{stack_fits, stacks_fit}

-- where a stack ends
abbrev pub stack_end : Stack → ℕ
stack_end k = end (stack_run k)

-- the bytes that a stack takes
abbrev pub stack_bytes : Stack → ℕ
stack_bytes k = k.total

-- a stack that starts at e or later, and is as rule 6 asks of one stack
abbrev pub fits_from : Run → Run → ℕ → Stack → Bool
fits_from area run e k = leb e k.start && stack_fits area run k

-- the pass: each from where the one before it ended
unfoldable pub in_order : Run → Run → List Stack → Bool
in_order area run ks = chained (fits_from area run) stack_end 0 ks

-- ---- two stacks

-- a stack that fits is not empty
least : (area run : Run) (k : Stack) → stack_fits area run k ≡ true → stack_overhead ≤ k.total
least area run k h = let b = (and_iff (leb stack_overhead k.total) _).0 ((and_iff _ (stack_run k apart_from run)).0 h).0 in leb-true stack_overhead k.total b.0

-- where one ends before another begins they share no address
ends_apart : (k l : Stack) → stack_end k ≤ l.start → (stack_run k apart_from stack_run l) ≡ true
unfolding ◌apart_from◌
ends_apart k l h = rw (le-leb (stack_end k) l.start h)

-- where they share no address and neither is empty, the lower one ends before the higher one begins
apart_ends : (k l : Stack) → k.start < l.start → stack_overhead ≤ k.total → stack_overhead ≤ l.total → (stack_run k apart_from stack_run l) ≡ true → stack_end k ≤ l.start
unfolding ◌apart_from◌
apart_ends k l b s t h = elim (dec_le (stack_end k) l.start) [
  | yes q ↦ q
  | no q ↦ let f = simp reflect at h in let z = f (omega arith) in absurd (omega arith)
]

-- ---- the pass and the rule

module _ (area run : Run) where
  Apart : Stack → Stack → Type 0
  Apart k l = (stack_run k apart_from stack_run l) ≡ true

  -- rule 6 of the stacks that are left, none of which starts before e
  record Left (e : ℕ) (ks : List Stack) : Type 0 where
    rises : Rising stack_name ks
    fits : (k : Stack) → k ∈ ks → stack_fits area run k ≡ true
    apart : AllTwo Apart ks
    low : (k : Stack) → k ∈ ks → e ≤ k.start

  pass_rule : (e : ℕ) (ks : List Stack) → chained (fits_from area run) stack_end e ks ≡ true → Left e ks
  unfolding chained Apart
  pass_rule e [] h = record { rises = tt; fits = λ k m. absurd (nowhere m); apart = tt; low = λ k m. absurd (nowhere m) }
  pass_rule e (x ∷ ks) h =
      let b = (and_iff (fits_from area run e x) _).0 h in
      let a = (and_iff (leb e x.start) (stack_fits area run x)).0 b.0 in
      let r = pass_rule (stack_end x) ks b.1 in
      let s = least area run x a.1 in
      let o = leb-true e x.start a.0 in
      record {
        rises = ((λ l m. let g = r.low l m in omega arith), r.rises);
        fits = λ k m. ⊎_elim (λ q. rw q a.1) (λ t. r.fits k t) (cases_cons m);
        apart = ((λ l m. ends_apart x l (r.low l m)), r.apart);
        low = λ k m. ⊎_elim (λ q. let g = ap stack_name q in omega arith) (λ t. let g = r.low k t in omega arith) (cases_cons m);
      }

  rule_pass : (e : ℕ) (ks : List Stack) → Left e ks → chained (fits_from area run) stack_end e ks ≡ true
  unfolding chained Apart
  rule_pass e [] r = refl
  rule_pass e (x ∷ ks) r =
      let f = r.fits x (here refl) in
      (and_iff (fits_from area run e x) _).1 (
        (and_iff (leb e x.start) (stack_fits area run x)).1 (le-leb e x.start (r.low x (here refl)), f),
        rule_pass (stack_end x) ks (record {
          rises = r.rises.1;
          fits = λ k m. r.fits k (there m);
          apart = r.apart.1;
          low = λ l m. apart_ends x l (r.rises.0 l m) (least area run x f) (least area run l (r.fits l (there m))) (r.apart.0 l m);
        }),
      )

  -- the pass decides rule 6, on every list
  pub in_order_rule : (ks : List Stack) → in_order area run ks ≡ stacks_fit area run ks
  unfolding in_order stacks_fit Apart
  in_order_rule ks =
      let two = all_two_iff (λ k l. stack_run k apart_from stack_run l) Apart (λ k l. (λ h. h, λ h. h)) ks in
      let each = all_iff (stack_fits area run) ks in
      same_test _ _
      (λ h.
      let r = pass_rule 0 ks h in
      (and_iff (rising stack_name ks && all (stack_fits area run) ks) _).1 (
        (and_iff (rising stack_name ks) _).1 ((rising_iff stack_name ks).1 r.rises, each.1 r.fits),
        two.1 r.apart,
      ))
      (λ h.
      let b = (and_iff (rising stack_name ks && all (stack_fits area run) ks) _).0 h in
      let d = (and_iff (rising stack_name ks) _).0 b.0 in
      rule_pass 0 ks (record { rises = (rising_iff stack_name ks).0 d.0; fits = each.0 d.1; apart = two.0 b.1; low = λ k m. omega arith }))
