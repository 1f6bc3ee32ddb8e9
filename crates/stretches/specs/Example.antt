-- A stretch on the model: the assumptions of `Stretch` can be met, by computation. S is the store 4112. Work is done in S, in the store 4136 that is made in S, and beside S;
-- threads are placed in both; there are stacks, questions and refused calls; then S is cleared. Assumes nothing.
use Rattle.std.specs.Prelude.{◌≡◌, refl, List, [], ◌∷◌, ◌++◌, map}
use Rattle.meaning.specs.Model.{Model, ◌holds◌, ◌inside◌, ◌apart_from◌}
use Rattle.meaning.specs.Nesting.{nested, depth, store_holding}
use Rattle.meaning.specs.Rules.{areas_sound, root_sound, stores_hang, stores_fit, threads_placed, stacks_fit, run_sound, sound}
use Rattle.meaning.specs.Reports.{first_report}
use Rattle.meaning.specs.Calls.{Call, set_context, used_of, find, allocate, make_store, clear, resize, make_stack, destroy_stack, add_thread, remove_thread, checks, change, all_checks, step}
use Rattle.meaning.specs.CallList.{Line, ◌answers◌, ◌refused_with◌, ◌finds◌below◌, after, told, bytes_after}
use Rattle.meaning.specs.Parts.{no_run}
use Rattle.meaning.specs.Cases.{zeros, lent, start_at}
use Rattle.meaning.proofs.Laws.Agree.{sound_agrees}
use Rattle.stretches.specs.Stretch.{work_inside, moved, stayed, starts_or_resizes, lasts, Stretch}

-- A model of zeros with lines for five stores, which no table of this version has: so a short list of calls fills it by work inside S, and the store that is then
-- refused beside S would be made without that work.
unfoldable pub five : Model
five =
    record {
      store_area = no_run;
      stack_area = no_run;
      stores = [];
      threads = [];
      stacks = [];
      free_run = no_run;
      limits = record { stores = 5; threads = 32; stacks = 32 };
    }

-- the root 4096 with thread 1 in it, and the empty store 4112
unfoldable pub begun : Model → Model
begun none = after none lent (start_at 4096 256 8192 64 ∷ add_thread 1 4096 ∷ make_store 1 100 ∷ [])

-- the calls before the last, with what is told of each
unfoldable pub before : List Line
before =
    add_thread 2 4112 answers 0
    ∷ allocate 2 4 answers 4132
    ∷ make_store 2 30 answers 4136
    ∷ add_thread 3 4136 answers 0
    ∷ allocate 1 10 answers 4232
    ∷ make_store 1 8 answers 4242
    ∷ resize 4136 40 answers 4136
    ∷ allocate 3 4 answers 4156
    ∷ make_stack 8 answers 8192
    ∷ clear 2 refused_with 6
    ∷ clear 1 refused_with 6
    ∷ used_of 4112 answers 64
    ∷ find 4140 finds 4136 below 2
    ∷ allocate 1 200 refused_with 1
    ∷ resize 4112 0 refused_with 8
    ∷ set_context 1 4136 answers 0
    ∷ make_store 1 1 answers 4160
    ∷ set_context 1 4096 answers 0
    ∷ make_store 1 0 refused_with 14
    ∷ clear 3 answers 0
    ∷ remove_thread 3 answers 0
    ∷ destroy_stack 8192 answers 0
    ∷ make_stack 8 answers 8192
    ∷ allocate 1 2 answers 4270
    ∷ []

abbrev calls_of : List Line → List Call
calls_of ls = map (λ l. l.call) ls

pub what_is_told : told (begun five) lent (calls_of before) ≡ before
unfolding begun before told after five lent step all_checks checks change first_report sound areas_sound root_sound stores_hang stores_fit threads_placed stacks_fit run_sound nested depth store_holding ◌holds◌ ◌inside◌ ◌apart_from◌
what_is_told = refl

-- all the calls: they end in a clear by thread 2, whose context is S
abbrev pub all_calls : List Call
all_calls = calls_of before ++ (clear 2 ∷ [])

pub is_a_stretch : Stretch 4112 (begun five) lent all_calls
unfolding begun before bytes_after starts_or_resizes lasts after five lent step all_checks checks change first_report sound areas_sound root_sound stores_hang stores_fit threads_placed stacks_fit run_sound nested depth store_holding ◌holds◌ ◌inside◌ ◌apart_from◌
is_a_stretch =
    record {
      sound = (sound_agrees (begun five)).0 refl;
      there = refl;
      empty = refl;
      before = calls_of before;
      thread = 2;
      ending = refl;
      context = refl;
      accepted = refl;
      meanwhile = refl;
    }

-- and from a table of zeros
pub is_a_stretch_of_a_table : Stretch 4112 (begun zeros) lent all_calls
unfolding begun before bytes_after starts_or_resizes lasts after zeros lent step all_checks checks change first_report sound areas_sound root_sound stores_hang stores_fit threads_placed stacks_fit run_sound nested depth store_holding ◌holds◌ ◌inside◌ ◌apart_from◌
is_a_stretch_of_a_table =
    record {
      sound = (sound_agrees (begun zeros)).0 refl;
      there = refl;
      empty = refl;
      before = calls_of before;
      thread = 2;
      ending = refl;
      context = refl;
      accepted = refl;
      meanwhile = refl;
    }

-- what stays, with the answers: threads 3 and 1 are placed in 4112 where they were placed in 4136
pub what_stays : stayed 4112 (begun five) lent all_calls
    ≡ (add_thread 2 4112 answers 0
    ∷ add_thread 3 4112 answers 0
    ∷ allocate 1 10 answers 4232
    ∷ make_store 1 8 answers 4242
    ∷ make_stack 8 answers 8192
    ∷ set_context 1 4112 answers 0
    ∷ set_context 1 4096 answers 0
    ∷ remove_thread 3 answers 0
    ∷ destroy_stack 8192 answers 0
    ∷ make_stack 8 answers 8192
    ∷ allocate 1 2 answers 4270
    ∷ [])
unfolding begun before stayed work_inside moved after five lent step all_checks checks change first_report sound areas_sound root_sound stores_hang stores_fit threads_placed stacks_fit run_sound nested depth store_holding ◌holds◌ ◌inside◌ ◌apart_from◌
what_stays = refl
