-- The part of a lent area that the run question gives, by the areas alone. Assumes nothing.
use Rattle.std.specs.Prelude.{true, false, ◌≡◌, ℕ, ◌-◌, ◌≤◌, eqb, length, if◌then◌else◌}
use Rattle.std.proofs.Common.{arith}
use Rattle.std.proofs.Math.Path.{refl}
use borrow.Author.Tests.{ne_eqb}
use Rattle.lists.specs.Tests.{reflect}
use Rattle.names.specs.declared.lines.Area.{Area}
use Rattle.meaning.specs.Model.{Bytes, ◌holds◌}
use Rattle.meaning.specs.Reading.{run_of}
use Rattle.meaning.specs.Reports.{first_report}
use Rattle.meaning.specs.RunQuestion.{Part, of_stores, of_stacks, area_checks, part_of, empty_part}
use Rattle.meaning.proofs.Laws.Agree.{holds_iff}
use Rattle.meaning.proofs.Laws.Step.{given_none}

-- the part that the run question gives where the table is sound
unfoldable pub part : Area → Area → Bytes → Bytes → ℕ → ℕ → Part
part store_area stack_area stores stacks a n =
    if eqb (first_report (area_checks (run_of store_area) (run_of stack_area) stores stacks a n)) 0 then part_of (run_of store_area) (run_of stack_area) a n else empty_part

module _ (first second : Area) (stores stacks : Bytes) (a n : ℕ) where
  abbrev report : ℕ
  report = first_report (area_checks (run_of first) (run_of second) stores stacks a n)

  pub part_refused : (r : ℕ) → r ≡ report → (r ≡ 0 → ⊥) → part first second stores stacks a n ≡ empty_part
  unfolding part
  part_refused r e h = rw (← e, ne_eqb r 0 h)

  module _ (given : report ≡ 0) where
    pub part_first : (run_of first holds a) ≡ true → part first second stores stacks a n ≡ record { area = of_stores; offset = a - first.start; length = n }
    unfolding part part_of
    part_first h = rw (given, h)

    pub part_second : (run_of first holds a) ≡ false → part first second stores stacks a n ≡ record { area = of_stacks; offset = a - second.start; length = n }
    unfolding part part_of
    part_second h = rw (given, h)

    -- the address is in the area that the part is of, and the area is lent whole
    pub in_first : (run_of first holds a) ≡ true → (first.start ≤ a) × (a - first.start ≤ length stores)
    unfolding area_checks
    in_first h =
        let f = simp reflect at (given_none _ refl given) in
        let g = (holds_iff (run_of first) a).0 h in
        (g.0, omega (arith, g.1, f.0.0))

    pub in_second : (run_of first holds a) ≡ false → (second.start ≤ a) × (a - second.start ≤ length stacks)
    unfolding area_checks
    in_second h =
        let f = simp reflect at (given_none _ refl given) in
        let g = (holds_iff (run_of second) a).0 (f.1.0 (rw h)).0 in
        (g.0, omega (arith, g.1, f.0.1))
