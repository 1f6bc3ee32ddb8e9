-- The rules of a sound table, 1 to 7, on a model. Document 01, "The table"; rule 8 is about counts and lines past them, so it is the table's.
-- Each rule is a test that computes; Facts.antt says each once more as a proposition, and Laws/Agree.antt of proofs proves that they agree. Assumes nothing.
use Rattle.std.specs.Prelude.{Bool, false, not, ◌&&◌, ◌||◌, List, [], ◌∷◌, ℕ, ◌+◌, leb, ltb, eqb}
use Rattle.lists.specs.Lists.{all, all_two, sum, rest}
use Rattle.lists.specs.Keyed.{rising}
use Rattle.names.specs.Overhead.{store_overhead, stack_overhead}
use Rattle.meaning.specs.Model.{Run, Store, Thread, Stack, Model, end, ◌inside◌, ◌apart_from◌, whole, used_part, stack_run, store_name, thread_name, stack_name, listed}

-- rule 1: the most bytes of an area
abbrev pub longest_area : ℕ
longest_area = 16_777_216

-- rule 1: the highest end of an area
abbrev pub last_end : ℕ
last_end = 2_147_483_648

-- 1. Store area: length 16 to 16,777,216. Stack area: length 0 to 16,777,216. For each, start plus length is at most 2,147,483,648. They share no address.
unfoldable pub areas_sound : Run → Run → Bool
areas_sound stores stacks =
    leb store_overhead stores.length && leb stores.length longest_area && leb stacks.length longest_area
    && leb (end stores) last_end && leb (end stacks) last_end && (stores apart_from stacks)

abbrev pub rule1 : Model → Bool
rule1 m = areas_sound m.store_area m.stack_area

-- 2. The first store is the root: start and total are those of the store area, its parent is itself. (That it is nobody's child and nested in nothing
-- is in `Child` of Nesting.antt: children are among the other stores.)
unfoldable pub root_sound : Run → List Store → Bool
root_sound area [] = false
root_sound area (r ∷ ss) = eqb r.start area.start && eqb r.total area.length && eqb r.parent r.start

abbrev pub rule2 : Model → Bool
rule2 m = root_sound m.store_area m.stores

-- 3. Stores are listed by strictly rising start. Each other store has a listed parent with a lower start, and a total of at least 16.
abbrev pub hangs : List Store → Store → Bool
hangs ss s = listed ss s.parent && ltb s.parent s.start && leb store_overhead s.total

unfoldable pub stores_hang : List Store → Bool
stores_hang ss = rising store_name ss && all (hangs ss) (rest ss)

abbrev pub rule3 : Model → Bool
rule3 m = stores_hang m.stores

-- 4. A store's used is at most total − 16. (Its used part and its free part are in Model.antt.) Every child's total lies in its parent's used part, and
-- two children of one parent share no address.
abbrev pub fits : Store → Bool
fits s = leb (s.used + store_overhead) s.total

abbrev pub child_inside : Store → Store → Bool
child_inside p c = not (eqb c.parent p.start) || (whole c inside used_part p)

abbrev pub siblings_apart : Store → Store → Bool
siblings_apart c d = not (eqb c.parent d.parent) || (whole c apart_from whole d)

unfoldable pub stores_fit : List Store → Bool
stores_fit ss = all fits ss && all (λ p. all (child_inside p) (rest ss)) ss && all_two siblings_apart (rest ss)

abbrev pub rule4 : Model → Bool
rule4 m = stores_fit m.stores

-- 5. Threads are listed by strictly rising identifier, each with a listed store as context.
unfoldable pub threads_placed : List Store → List Thread → Bool
threads_placed ss ts = rising thread_name ts && all (λ t. listed ss t.context) ts

abbrev pub rule5 : Model → Bool
rule5 m = threads_placed m.stores m.threads

-- 6. Stacks are listed by strictly rising start, each with a total of at least 8, inside the stack area, sharing no address with one another or with the
-- free run.
abbrev pub stack_fits : Run → Run → Stack → Bool
stack_fits area run k = leb stack_overhead k.total && (stack_run k inside area) && (stack_run k apart_from run)

unfoldable pub stacks_fit : Run → Run → List Stack → Bool
stacks_fit area run ks = rising stack_name ks && all (stack_fits area run) ks && all_two (λ k l. stack_run k apart_from stack_run l) ks

abbrev pub rule6 : Model → Bool
rule6 m = stacks_fit m.stack_area m.free_run m.stacks

-- 7. The free run is one run in the stack area. Stack totals plus its length make the area's length. An empty run is written at the area's end.
unfoldable pub run_sound : Run → Run → List Stack → Bool
run_sound area run ks =
    (run inside area) && eqb (sum (λ k. k.total) ks + run.length) area.length && (not (eqb run.length 0) || eqb run.start (end area))

abbrev pub rule7 : Model → Bool
rule7 m = run_sound m.stack_area m.free_run m.stacks

-- all seven hold
unfoldable pub sound : Model → Bool
sound m = rule1 m && rule2 m && rule3 m && rule4 m && rule5 m && rule6 m && rule7 m
