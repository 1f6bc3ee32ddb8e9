-- The fifteen cases of document 01, "Fifteen cases on the edges", as one statement over a list of them, proved by computation; and a second list: the
-- document's example list, the slips that it expects, and edges that the fifteen leave out. Assumes nothing.
use Rattle.std.specs.Prelude.{◌≡◌, refl, List, [], ◌∷◌, map, ℕ, replicate}
use Rattle.std.proofs.Math.Option
use Rattle.std.proofs.Math.Option.{Option, none, some}
use Rattle.meaning.specs.Model.{Model, Bytes, ◌holds◌, ◌inside◌, ◌apart_from◌}
use Rattle.meaning.specs.Nesting.{nested, depth, store_holding}
use Rattle.meaning.specs.Rules.{areas_sound, root_sound, stores_hang, stores_fit, threads_placed, stacks_fit, run_sound, sound}
use Rattle.meaning.specs.Reports.{first_report}
use Rattle.meaning.specs.CallList.{Line, ◌answers◌, ◌refused_with◌, ◌finds◌below◌, after, told}
use Rattle.meaning.specs.Parts.{stores_alone}
use Rattle.meaning.specs.Calls.{Call, start, root, context_of, set_context, total_of, used_of, free_of, find, allocate, make_store, clear, resize, make_stack, destroy_stack, add_thread, remove_thread, checks, change, all_checks, step}

-- ---- what a case is

-- calls one after the other from T0, with what is told of each, and the table after them where the case says it
pub record Case : Type 0 where
  pub lines : List Line
  pub table : Option Model

-- a case that says no more than what is told
abbrev pub says : List Line → Case
says ls = record { lines = ls; table = none }

infix 60 ◌leaving◌
-- a case that also says the table after it
abbrev pub ◌leaving◌ : List Line → Model → Case
ls leaving m = record { lines = ls; table = some m }

-- ---- how it comes out

-- a table of zeros
unfoldable pub zeros : Model
zeros = stores_alone [] []

-- the lent store area
unfoldable pub lent : Bytes
lent = replicate 256 77

abbrev pub start_at : ℕ → ℕ → ℕ → ℕ → Call
start_at a n b k = start (record { start = a; length = n }) (record { start = b; length = k })

-- "T0 is the table after the first two calls."
unfoldable pub t0 : Model
t0 = after zeros lent (start_at 4096 256 8192 64 ∷ add_thread 1 4096 ∷ [])

-- the case as it comes out: "Each case starts at T0."
unfoldable pub played : Case → Case
played c =
    let cs = map (λ l. l.call) c.lines in
    record { lines = told t0 lent cs; table = Option.map (λ _. after t0 lent cs) c.table }

-- ---- the fifteen

-- cases 1 to 15, in document 01's order
unfoldable pub fifteen : List Case
fifteen =
    says (allocate 1 236 answers 4116 ∷ free_of 4096 answers 0 ∷ [])
    ∷ says (allocate 1 237 refused_with 1 ∷ [])
    ∷ says (make_store 1 224 answers 4112 ∷ free_of 4096 answers 0 ∷ [])
    ∷ says (make_store 1 225 refused_with 1 ∷ [])
    ∷ says (allocate 1 4294967295 refused_with 1 ∷ [])
    ∷ says (allocate 2 1 refused_with 12 ∷ [])
    ∷ says (resize 4096 0 refused_with 7 ∷ [])
    ∷ says (make_store 1 0 answers 4112 ∷ find 4112 finds 4112 below 1 ∷ [])
    ∷ says (find 4351 finds 4096 below 0 ∷ find 4352 refused_with 9 ∷ [])
    ∷ says (make_store 1 10 answers 4112 ∷ make_store 1 10 answers 4138 ∷ resize 4138 5 refused_with 8 ∷ [])
    ∷ says (make_store 1 10 answers 4112 ∷ allocate 1 0 answers 4142 ∷ resize 4112 10 refused_with 13 ∷ [])
    ∷ (clear 1 answers 0 ∷ [] leaving t0)
    ∷ says (make_store 1 40 answers 4112 ∷ add_thread 2 4112 answers 0 ∷ clear 1 refused_with 6 ∷ [])
    ∷ says (make_stack 8 answers 8192 ∷ make_stack 8 answers 8208 ∷ make_stack 8 answers 8224 ∷ destroy_stack 8208 refused_with 13 ∷ destroy_stack 8224 answers 0 ∷ [])
    ∷ says (start_at 4096 15 8192 64 refused_with 4 ∷ start_at 4096 16 8192 64 answers 4096 ∷ [])
    ∷ []

pub fifteen_cases : map played fifteen ≡ fifteen
unfolding fifteen played told after t0 zeros lent step all_checks checks change first_report sound areas_sound root_sound stores_hang stores_fit threads_placed stacks_fit run_sound nested depth store_holding ◌holds◌ ◌inside◌ ◌apart_from◌
fifteen_cases = refl

-- ---- slips and ends

unfoldable pub further : List Case
further =
    -- the example list of "The bench program"
    says (start_at 4096 256 8192 64 answers 4096 ∷ add_thread 1 4096 answers 0 ∷ allocate 1 20 answers 4116 ∷ make_store 1 100 answers 4136
    ∷ used_of 4096 answers 140 ∷ set_context 1 4136 answers 0 ∷ allocate 1 96 answers 4156 ∷ allocate 1 0 refused_with 1 ∷ find 4251 finds 4136 below 1
    ∷ resize 4136 50 refused_with 2 ∷ clear 1 answers 0 ∷ resize 4136 200 answers 4136 ∷ free_of 4096 answers 0 ∷ make_stack 24 answers 8192
    ∷ make_stack 24 answers 8224 ∷ destroy_stack 8192 answers 0 ∷ make_stack 25 refused_with 1 ∷ destroy_stack 8224 answers 0 ∷ [])
    -- a clear takes grandchildren too
    ∷ (make_store 1 100 answers 4112 ∷ add_thread 2 4112 answers 0 ∷ make_store 2 20 answers 4128 ∷ find 4130 finds 4128 below 2 ∷ clear 1 refused_with 6
    ∷ remove_thread 2 answers 0 ∷ clear 1 answers 0 ∷ total_of 4128 refused_with 5 ∷ [] leaving t0)
    -- with an empty free run any stack may go, and the run has two ends
    ∷ says (make_stack 8 answers 8192 ∷ make_stack 8 answers 8208 ∷ make_stack 8 answers 8224 ∷ make_stack 8 answers 8240 ∷ destroy_stack 8208 answers 0
    ∷ destroy_stack 8240 refused_with 13 ∷ destroy_stack 8192 answers 0 ∷ destroy_stack 8224 answers 0 ∷ make_stack 40 answers 8192 ∷ [])
    -- a stack that takes the last free byte leaves the empty run at the area's end, or the table would be unsound
    ∷ says (make_stack 8 answers 8192 ∷ make_stack 40 answers 8208 ∷ destroy_stack 8192 answers 0 ∷ make_stack 8 answers 8192 ∷ root answers 4096 ∷ [])
    -- a resize counts the old total, to the byte
    ∷ says (make_store 1 100 answers 4112 ∷ resize 4112 225 refused_with 1 ∷ resize 4112 224 answers 4112 ∷ free_of 4096 answers 0 ∷ resize 4112 0 answers 4112
    ∷ free_of 4096 answers 224 ∷ [])
    -- a stack takes the free run to the byte
    ∷ says (make_stack 57 refused_with 1 ∷ make_stack 56 answers 8192 ∷ [])
    -- the first address of the root's total, and of the stack area behind the store area
    ∷ says (find 4095 refused_with 9 ∷ find 4096 finds 4096 below 0 ∷ start_at 4096 256 4351 64 refused_with 15 ∷ start_at 4096 256 4352 64 answers 4096 ∷ [])
    -- names that are not listed
    ∷ says (context_of 2 refused_with 12 ∷ set_context 2 4097 refused_with 12 ∷ set_context 1 4097 refused_with 5 ∷ destroy_stack 8192 refused_with 10 ∷ add_thread 2 4097 refused_with 5 ∷ remove_thread 2 answers 0 ∷ [])
    ∷ []

pub further_cases : map played further ≡ further
unfolding further played told after t0 zeros lent step all_checks checks change first_report sound areas_sound root_sound stores_hang stores_fit threads_placed stacks_fit run_sound nested depth store_holding ◌holds◌ ◌inside◌ ◌apart_from◌
further_cases = refl
