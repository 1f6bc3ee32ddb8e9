-- What an accepted call leaves, written as a table, has no broken rule. Document 01, "The table": "An accepted change of a sound table gives a sound table,
-- and an accepted start gives one from anything." Assumes nothing.
use Rattle.std.specs.Prelude.{true, ◌≡◌, refl}
use Rattle.std.proofs.Common.{◌∙◌, ap, arith}
use Rattle.lists.specs.Tests.{and_iff}
use Rattle.lines.specs.Shape.{live_length, pad_length}
use Rattle.meaning.specs.Model.{Model, Bytes, table_limits}
use Rattle.meaning.specs.Facts.{Sound}
use Rattle.meaning.specs.Rules.{sound}
use Rattle.meaning.specs.Calls.{Call, step}
use Rattle.meaning.proofs.Laws.Agree.{sound_agrees}
use Rattle.laws.specs.Fixed.{limits_stay}
use Rattle.laws.specs.Fits.{Fits, fits_stay}
use Rattle.laws.specs.SoundStaysSound.{accepted_gives_sound}
use Rattle.stores.specs.Stores
use Rattle.threads.specs.Threads
use Rattle.stacks.specs.Stacks
use Rattle.table.specs.declared.Table.{Table}
use Rattle.table.specs.Table.{reading, written, rule8, broken_rule, sound_table, Sized}
use Rattle.table.specs.Laws.{reading_written, broken_none}
use Rattle.sound_tables.specs.Clean.{stores_clean_lem, threads_clean_lem, stacks_clean_lem}

-- a sound model within the limits of a table is a sound table, written
pub written_sound : (m : Model) → m.limits ≡ table_limits → Fits m → Sound m → sound_table (written m) ≡ true
unfolding sound_table rule8 written
written_sound m e f s =
    (and_iff _ _).1 (
      ap sound (reading_written m e) ∙ (sound_agrees m).1 s,
      (and_iff _ _).1 (
        (and_iff _ _).1 (stores_clean_lem m.stores (omega (arith, f.stores, ap (λ l. l.stores) e)), threads_clean_lem m.threads (omega (arith, f.threads, ap (λ l. l.threads) e))),
        stacks_clean_lem m.stacks (omega (arith, f.stacks, ap (λ l. l.stacks) e)),
      ),
    )

pub table_limits_lem : (t : Table) → (reading t).limits ≡ table_limits
unfolding reading
table_limits_lem t = refl

-- what a table means is within its limits
reading_fits : (t : Table) → Sized t → Fits (reading t)
unfolding reading Stores.reading Threads.reading Stacks.reading
reading_fits t n =
    record {
      root = omega arith;
      stores = omega (arith, live_length Stores.store_line t.stores.count t.stores.lines, n.stores);
      threads = omega (arith, live_length Threads.thread_line t.threads.count t.threads.lines, n.threads);
      stacks = omega (arith, live_length Stacks.stack_line t.stacks.count t.stacks.lines, n.stacks);
    }

-- What an accepted call leaves has no broken rule, whatever the table was before.
pub accepted_table_sound : (t : Table) → Sized t → (bs : Bytes) (c : Call) → (step (reading t) bs c).report ≡ 0
    → broken_rule (written (step (reading t) bs c).model) ≡ 0
accepted_table_sound t n bs c h =
    (broken_none _).1
    (written_sound (step (reading t) bs c).model (limits_stay (reading t) bs c ∙ table_limits_lem t) (fits_stay (reading t) bs c (reading_fits t n)) (accepted_gives_sound (reading t) bs c h))

-- What any call leaves, accepted or refused, has arrays as long as they are declared.
pub table_sized_after : (t : Table) → Sized t → (bs : Bytes) (c : Call) → Sized (written (step (reading t) bs c).model)
unfolding written Stores.written Threads.written Stacks.written
table_sized_after t n bs c =
    let m = (step (reading t) bs c).model in
    let f = fits_stay (reading t) bs c (reading_fits t n) in
    let e = limits_stay (reading t) bs c ∙ table_limits_lem t in
    record {
      stores = pad_length Stores.store_line m.stores (omega (arith, f.stores, ap (λ l. l.stores) e));
      threads = pad_length Threads.thread_line m.threads (omega (arith, f.threads, ap (λ l. l.threads) e));
      stacks = pad_length Stacks.stack_line m.stacks (omega (arith, f.stacks, ap (λ l. l.stacks) e));
    }
