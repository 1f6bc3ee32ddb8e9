-- The list of stacks: how its lines read, how a list is written, and when it is clean. Assumes nothing.
use Rattle.std.specs.Prelude.{Bool, true, ◌&&◌, List, ◌≡◌, refl, ℕ, leb, eqb, length}
use Rattle.std.proofs.Common.{leb-true, eqb-true}
use Rattle.lists.specs.Tests.{and_iff}
use Rattle.lines.specs.Shape.{Shape, live, pad, blank, live_pad, written_back}
use Rattle.meaning.specs.Model.{Stack}
use Rattle.names.specs.declared.lines.Stack.{Stack as Line}
use Rattle.stacks.specs.declared.Stacks.{Stacks}

-- a line of the table as a stack of the model
abbrev pub view : Line → Stack
view k = record { start = k.id.0; total = k.total }

-- a stack of the model as a line
abbrev pub back : Stack → Line
back k = record { id = record { 0 = k.start }; total = k.total }

-- the line of zeros
abbrev pub zeros : Line
zeros = record { id = record { 0 = 0 }; total = 0 }

-- the line holds zeros
abbrev pub is_zeros : Line → Bool
is_zeros k = eqb k.id.0 0 && eqb k.total 0

pub zeros_only : (k : Line) → is_zeros k ≡ true → k ≡ zeros
zeros_only k h =
    let b = (and_iff (eqb k.id.0 0) (eqb k.total 0)).0 h in
    λ i. record { id = record { 0 = eqb-true k.id.0 0 b.0 i }; total = eqb-true k.total 0 b.1 i }

-- all of this as the shape of a list of 32 lines
abbrev pub stack_line : Shape Line Stack
stack_line = record { view = view; back = back; back_view = λ k. refl; view_back = λ k. refl; zeros = zeros; is_zeros = is_zeros; is_zeros_true = zeros_only; limit = 32 }

-- the stacks that are listed
unfoldable pub reading : Stacks → List Stack
reading s = live stack_line s.count s.lines

-- a list of stacks, with zeros past it
unfoldable pub written : List Stack → Stacks
written ks = record { count = length ks; lines = pad stack_line ks }

-- rule 8: the count is at most 32, and lines past it hold zeros
unfoldable pub clean : Stacks → Bool
clean s = leb s.count 32 && blank stack_line s.count s.lines

-- a count and lines are a written list where they are that list's
pub made : (n : ℕ) (ls : List Line) (ks : List Stack) → n ≡ length ks → ls ≡ pad stack_line ks → ◌≡◌ {A = Stacks} (record { count = n; lines = ls }) (written ks)
unfolding written
made n ls ks e q = rw (e, q)

-- what is written reads as what it was
pub reading_written : (ks : List Stack) → reading (written ks) ≡ ks
unfolding reading written
reading_written ks = live_pad stack_line ks

-- a clean list is what it reads as, written
pub written_reading : (s : Stacks) → length s.lines ≡ 32 → clean s ≡ true → written (reading s) ≡ s
unfolding reading written clean
written_reading s e h =
    let b = (and_iff (leb s.count 32) _).0 h in
    let w = written_back stack_line s.count s.lines e (leb-true s.count 32 b.0) b.1 in
    λ i. record { count = w.0 i; lines = w.1 i }

-- ---- the definitions, as every list of lines has them

pub reading_is : (s : Stacks) → reading s ≡ live stack_line s.count s.lines
unfolding reading
reading_is s = refl

pub clean_is : (s : Stacks) → clean s ≡ (leb s.count 32 && blank stack_line s.count s.lines)
unfolding clean
clean_is s = refl
