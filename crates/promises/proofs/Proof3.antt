-- Demand 3 holds of all that the methods hand back, since it holds of the meaning (TakesBack.antt) and the methods follow that (Meant.antt). Assumes nothing.
use mathlib.Core.List.Memᴰ.{head as here}
use mathlib.Core.List.Memᴰ.{not-nil as nowhere}
use mathlib.Core.List.Memᴰ.{tail as there}
use Rattle.std.specs.Prelude.{List, [], ◌∷◌, ◌++◌, map, ◌≡◌, ℕ}
use Rattle.std.proofs.Common.{sym, ◌∙◌, ap, subst}
use Rattle.lists.specs.Lists.{◌∈◌}
use Rattle.meaning.specs.Model.{Bytes, whole, store_of}
use Rattle.meaning.specs.Calls.{Call, clear}
use Rattle.stretches.specs.Stretch.{Stretch, the_rest}
use Rattle.stretches.proofs.TakesBack.{clear_takes_back}
use Rattle.table.specs.declared.Table.{Table}
use Rattle.table.specs.Table.{reading, written, Sized}
use Rattle.promises.specs.Handed.{Given, Handed, Made, none, first, last_table, last_bytes}
use Rattle.promises.specs.Demand3.{line_of, lines_of, rest_of, StretchOf, TakenBackOf}
use Rattle.promises.specs.Meant.{Good}
use Rattle.promises.proofs.Meant.{good_sound, good_written, meant_call, last_good, last_model, last_bytes_lem, lines_told, kept_stayed, lasts_same}

-- what is handed back stands among the lines
in_lines : {t : Table} {bs : Bytes} {cs : List Call} {hs : List Given} → Made t bs cs hs → (h : Given) → h ∈ hs → (c : Call) × (line_of c h ∈ lines_of cs hs)
unfolding lines_of
in_lines none h i = absurd (nowhere i)
in_lines (first {c = c} p more) h (here e) = (c, here (ap (line_of c) e))
in_lines (first p more) h (there i) = let r = in_lines more h i in (r.0, there r.1)

-- the last call was made where those before it ended
last_handed : {t : Table} {bs : Bytes} {cs : List Call} {gs : List Given} (c : Call) (g : Given) → Made t bs cs gs → Made t bs (cs ++ (c ∷ [])) (gs ++ (g ∷ []))
    → Handed (last_table t gs) (last_bytes bs gs) c g
unfolding last_table last_bytes
last_handed c g none (first h none) = h
last_handed c g (first p more) (first q rest) = last_handed c g more rest

module _ (S : ℕ) (t : Table) (sized : Sized t) (bs : Bytes) (cs : List Call) (gs : List Given) (s : StretchOf S t bs cs gs) where
  good : Good t
  good = record { sized = sized; sound = s.sound }

  -- the calls are a stretch of the meaning
  meant : Stretch S (reading t) bs cs
  meant =
      let before = last_good s.made_before good in
      let here-model = last_model s.made_before good in
      let here-bytes = last_bytes_lem s.made_before good in
      let closing : Made t bs (s.before ++ (clear s.thread ∷ [])) (s.earlier ++ (s.last ∷ [])) =
      subst (λ x. Made t bs x (s.earlier ++ (s.last ∷ []))) s.ending (subst (λ x. Made t bs cs x) s.answers s.made) in
      let last = meant_call _ _ (clear s.thread) s.last before (last_handed _ _ s.made_before closing) in
      record {
        sound = good_sound t good;
        there = s.there;
        empty = s.empty;
        before = s.before;
        thread = s.thread;
        ending = s.ending;
        context = rw (← here-model) s.context;
        accepted = rw (← here-model, ← here-bytes, ← last.report) s.accepted;
        meanwhile = sym (lasts_same S s.made good) ∙ s.meanwhile;
      }

  rest_same : rest_of S t cs gs ≡ the_rest S (reading t) bs cs
  rest_same = ap (map (λ l. l.call)) (kept_stayed S s.made good)

  -- "The rest, run from the same start, is all accepted with the same answers, and ends with the same table and the same bytes outside S."
  pub demand3 : (hs : List Given) → Made t bs (rest_of S t cs gs) hs → TakenBackOf S t bs cs gs hs
  demand3 hs made =
      let back = clear_takes_back S (reading t) bs cs meant in
      let kept = kept_stayed S s.made good in
      let run : Made t bs (the_rest S (reading t) bs cs) hs = subst (λ x. Made t bs x hs) rest_same made in
      let lines = lines_told run good in
      record {
        accepted = λ h i. let x = in_lines run h i in back.accepted _ (subst (λ l. line_of x.0 h ∈ l) lines x.1);
        answers = rw (rest_same) (lines ∙ back.answers ∙ sym kept);
        table = sym (good_written _ (last_good made good)) ∙ ap written (last_model run good ∙ back.table ∙ sym (last_model s.made good)) ∙ good_written _ (last_good s.made good);
        bytes = rw (last_bytes_lem run good, last_bytes_lem s.made good) back.bytes;
        place = ap (λ m. whole (store_of m.stores S)) (last_model s.made good) ∙ back.place;
      }
