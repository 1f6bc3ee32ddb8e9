-- A change of one kind of line leaves the rules of the others as they are. Assumes nothing.
use Rattle.std.specs.Prelude.{List}
use Rattle.lists.specs.Keyed.{Has}
use Rattle.lists.specs.Lists.{◌∈◌}
use Rattle.meaning.specs.Model.{Run, Store, Thread, Stack, Model, store_name}
use Rattle.meaning.specs.Facts.{Rule2, Rule3, Rule4, Rule5, Rule6, Rule7, Sound}
use Rattle.meaning.proofs.Laws.Agree.{rule1_agrees, rule2_agrees, rule3_agrees, rule4_agrees, rule6_agrees, rule5_agrees, rule7_agrees}
use Rattle.meaning.specs.Changes.{with_stores, with_threads, with_stacks}

module _ (m : Model) (sound : Sound m) where
  -- other stores: rules 2 to 4 are theirs, and of 5 that contexts are listed
  pub sound_with_stores : (ss : List Store) → Rule2 (with_stores m ss) → Rule3 (with_stores m ss) → Rule4 (with_stores m ss)
      → ((t : Thread) → t ∈ m.threads → Has store_name ss t.context) → Sound (with_stores m ss)
  sound_with_stores ss r2 r3 r4 placed =
      record {
        rule1 = (rule1_agrees (with_stores m ss)).0 ((rule1_agrees m).1 sound.rule1);
        rule2 = r2;
        rule3 = r3;
        rule4 = r4;
        rule5 = record { rises = sound.rule5.rises; placed = placed };
        rule6 = (rule6_agrees (with_stores m ss)).0 ((rule6_agrees m).1 sound.rule6);
        rule7 = (rule7_agrees (with_stores m ss)).0 ((rule7_agrees m).1 sound.rule7);
      }

  -- other threads: rule 5 is theirs
  pub sound_with_threads : (ts : List Thread) → Rule5 (with_threads m ts) → Sound (with_threads m ts)
  sound_with_threads ts r5 =
      record {
        rule1 = (rule1_agrees (with_threads m ts)).0 ((rule1_agrees m).1 sound.rule1);
        rule2 = (rule2_agrees (with_threads m ts)).0 ((rule2_agrees m).1 sound.rule2);
        rule3 = (rule3_agrees (with_threads m ts)).0 ((rule3_agrees m).1 sound.rule3);
        rule4 = (rule4_agrees (with_threads m ts)).0 ((rule4_agrees m).1 sound.rule4);
        rule5 = r5;
        rule6 = (rule6_agrees (with_threads m ts)).0 ((rule6_agrees m).1 sound.rule6);
        rule7 = (rule7_agrees (with_threads m ts)).0 ((rule7_agrees m).1 sound.rule7);
      }

  -- other stacks and free run: rules 6 and 7 are theirs
  pub sound_with_stacks : (ks : List Stack) (r : Run) → Rule6 (with_stacks m ks r) → Rule7 (with_stacks m ks r) → Sound (with_stacks m ks r)
  sound_with_stacks ks r r6 r7 =
      record {
        rule1 = (rule1_agrees (with_stacks m ks r)).0 ((rule1_agrees m).1 sound.rule1);
        rule2 = (rule2_agrees (with_stacks m ks r)).0 ((rule2_agrees m).1 sound.rule2);
        rule3 = (rule3_agrees (with_stacks m ks r)).0 ((rule3_agrees m).1 sound.rule3);
        rule4 = (rule4_agrees (with_stacks m ks r)).0 ((rule4_agrees m).1 sound.rule4);
        rule5 = (rule5_agrees (with_stacks m ks r)).0 ((rule5_agrees m).1 sound.rule5);
        rule6 = r6;
        rule7 = r7;
      }
