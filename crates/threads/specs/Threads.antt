-- The list of threads: how its lines read, how a list is written, and when it is clean. Assumes nothing.
use Rattle.std.specs.Prelude.{Bool, true, ◌&&◌, List, ◌≡◌, refl, ℕ, leb, eqb, length}
use Rattle.std.proofs.Common.{leb-true, eqb-true}
use Rattle.lists.specs.Tests.{and_iff}
use Rattle.lines.specs.Shape.{Shape, live, pad, blank, live_pad, written_back}
use Rattle.meaning.specs.Model.{Thread}
use Rattle.names.specs.declared.lines.Thread.{Thread as Line}
use Rattle.threads.specs.declared.Threads.{Threads}

-- a line of the table as a thread of the model
abbrev pub view : Line → Thread
view t = record { identifier = t.id.0; context = t.context.0 }

-- a thread of the model as a line
abbrev pub back : Thread → Line
back t = record { id = record { 0 = t.identifier }; context = record { 0 = t.context } }

-- the line of zeros
abbrev pub zeros : Line
zeros = record { id = record { 0 = 0 }; context = record { 0 = 0 } }

-- the line holds zeros
abbrev pub is_zeros : Line → Bool
is_zeros t = eqb t.id.0 0 && eqb t.context.0 0

pub zeros_only : (t : Line) → is_zeros t ≡ true → t ≡ zeros
zeros_only t h =
    let b = (and_iff (eqb t.id.0 0) (eqb t.context.0 0)).0 h in
    λ i. record { id = record { 0 = eqb-true t.id.0 0 b.0 i }; context = record { 0 = eqb-true t.context.0 0 b.1 i } }

-- all of this as the shape of a list of 32 lines
abbrev pub thread_line : Shape Line Thread
thread_line = record { view = view; back = back; back_view = λ t. refl; view_back = λ t. refl; zeros = zeros; is_zeros = is_zeros; is_zeros_true = zeros_only; limit = 32 }

-- the threads that are listed
unfoldable pub reading : Threads → List Thread
reading s = live thread_line s.count s.lines

-- a list of threads, with zeros past it
unfoldable pub written : List Thread → Threads
written ts = record { count = length ts; lines = pad thread_line ts }

-- rule 8: the count is at most 32, and lines past it hold zeros
unfoldable pub clean : Threads → Bool
clean s = leb s.count 32 && blank thread_line s.count s.lines

-- a count and lines are a written list where they are that list's
pub made : (n : ℕ) (ls : List Line) (ts : List Thread) → n ≡ length ts → ls ≡ pad thread_line ts → ◌≡◌ {A = Threads} (record { count = n; lines = ls }) (written ts)
unfolding written
made n ls ts e q = rw (e, q)

-- what is written reads as what it was
pub reading_written : (ts : List Thread) → reading (written ts) ≡ ts
unfolding reading written
reading_written ts = live_pad thread_line ts

-- a clean list is what it reads as, written
pub written_reading : (s : Threads) → length s.lines ≡ 32 → clean s ≡ true → written (reading s) ≡ s
unfolding reading written clean
written_reading s e h =
    let b = (and_iff (leb s.count 32) _).0 h in
    let w = written_back thread_line s.count s.lines e (leb-true s.count 32 b.0) b.1 in
    λ i. record { count = w.0 i; lines = w.1 i }

-- ---- the definitions, as every list of lines has them

pub reading_is : (s : Threads) → reading s ≡ live thread_line s.count s.lines
unfolding reading
reading_is s = refl

pub clean_is : (s : Threads) → clean s ≡ (leb s.count 32 && blank thread_line s.count s.lines)
unfolding clean
clean_is s = refl
