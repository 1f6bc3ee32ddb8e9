-- The run question: document 01, "One more question is lent both areas: given an address and a length, it returns that run itself as a part of the area it
-- is in." Assumes nothing.
use Rattle.std.specs.Prelude.{Bool, not, ◌&&◌, ◌||◌, List, [], ◌∷◌, ℕ, ◌+◌, ◌-◌, leb, eqb, take, drop, if◌then◌else◌}
use Rattle.meaning.specs.Model.{Run, Model, Bytes, end, ◌holds◌}
use Rattle.meaning.specs.Rules.{sound}
use Rattle.meaning.specs.Reports.{Check, ◌when◌, first_report, not_the_length}

-- the two lent areas
pub data Lent : Type 0 where
  of_stores of_stacks : Lent

-- a part of a lent area: which one, from which offset on, and how long
pub record Part : Type 0 where
  pub area : Lent
  pub offset : ℕ
  pub length : ℕ

-- "The run must be wholly in the area that holds its first address; a run of length 0 still needs its address in an area."
abbrev pub wholly_in : Run → ℕ → ℕ → Bool
wholly_in area a n = (area holds a) && leb (a + n) (end area)

-- "Order 16, 15, 9.": what is asked of the areas, once the table is sound
unfoldable pub area_checks : Run → Run → Bytes → Bytes → ℕ → ℕ → List Check
area_checks store_area stack_area stores stacks a n =
    15 when (not_the_length store_area stores || not_the_length stack_area stacks)
    ∷ 9 when not (wholly_in store_area a n || wholly_in stack_area a n) ∷ []

-- "the report comes from a second question with the same arguments"
unfoldable pub run_report : Model → Bytes → Bytes → ℕ → ℕ → ℕ
run_report m stores stacks a n = first_report (16 when not (sound m) ∷ area_checks m.store_area m.stack_area stores stacks a n)

-- the run, as a part of the area that holds its first address
unfoldable pub part_of : Run → Run → ℕ → ℕ → Part
part_of store_area stack_area a n =
    if store_area holds a then record { area = of_stores; offset = a - store_area.start; length = n }
    else record { area = of_stacks; offset = a - stack_area.start; length = n }

-- an empty part; document 01 leaves open where, and it stands at the start of the store area
abbrev pub empty_part : Part
empty_part = record { area = of_stores; offset = 0; length = 0 }

-- "it returns that run itself as a part of the area it is in"; "A refusal returns an empty part"
unfoldable pub run_part : Model → Bytes → Bytes → ℕ → ℕ → Part
run_part m stores stacks a n = if eqb (run_report m stores stacks a n) 0 then part_of m.store_area m.stack_area a n else empty_part

-- of two things, the one of that area
abbrev pub lent_of : {A : Type 0} → Lent → A → A → A
lent_of of_stores x y = x
lent_of of_stacks x y = y

-- the bytes of a part
abbrev pub part_bytes : Part → Bytes → Bytes → Bytes
part_bytes p stores stacks = take p.length (drop p.offset (lent_of p.area stores stacks))
