-- What the changes of the calls do to lists, runs and bytes: the words of document 01's last column, "accepted: value and change". Assumes nothing.
use Rattle.std.specs.Prelude.{not, List, [], ◌∷◌, map, ℕ, zero, suc, ◌+◌, ◌-◌, min, eqb, if◌then◌else◌}
use Rattle.lists.specs.Lists.{keep}
use Rattle.lists.specs.Keyed.{has, insert}
use Rattle.meaning.specs.Model.{Run, Store, Thread, Stack, Model, Bytes, end, thread_name}
use Rattle.meaning.specs.Nesting.{nested}

-- ---- stores

-- another used, or another total, for the store c
abbrev pub line_with_used : ℕ → ℕ → Store → Store
line_with_used c u s = record { start = s.start; total = s.total; used = if eqb s.start c then u else s.used; parent = s.parent }

abbrev pub with_used : ℕ → ℕ → List Store → List Store
with_used c u ss = map (line_with_used c u) ss

abbrev pub line_with_total : ℕ → ℕ → Store → Store
line_with_total c n s = record { start = s.start; total = if eqb s.start c then n else s.total; used = s.used; parent = s.parent }

abbrev pub with_total : ℕ → ℕ → List Store → List Store
with_total c n ss = map (line_with_total c n) ss

-- "all stores nested in the context go, its used becomes 0"
abbrev pub cleared : ℕ → List Store → List Store
cleared c ss = with_used c 0 (keep (λ s. not (nested ss s.start c)) ss)

-- ---- threads

-- "only that context changes"
abbrev pub line_with_context : ℕ → ℕ → Thread → Thread
line_with_context t c x = record { identifier = x.identifier; context = if eqb x.identifier t then c else x.context }

abbrev pub with_context : ℕ → ℕ → List Thread → List Thread
with_context t c ts = map (line_with_context t c) ts

-- a new thread with its context; "a listed thread gets the new context"
abbrev pub placed : ℕ → ℕ → List Thread → List Thread
placed t c ts = if has thread_name ts t then with_context t c ts else insert thread_name (record { identifier = t; context = c }) ts

-- ---- the free run

-- without n bytes at its low end; "An empty run is written at the area's end"
abbrev pub shortened : Run → Run → ℕ → Run
shortened area r n = record { start = if eqb n r.length then end area else r.start + n; length = r.length - n }

-- with the bytes of a stack that touches it; an empty run becomes the stack's bytes
abbrev pub joined : Run → Run → Run
joined r k = if eqb r.length 0 then k else record { start = min r.start k.start; length = r.length + k.length }

-- ---- bytes

-- n of the bytes become 0, from offset o on
abbrev pub zeroed : ℕ → ℕ → Bytes → Bytes
zeroed o n [] = []
zeroed zero zero (b ∷ bs) = b ∷ bs
zeroed zero (suc n) (b ∷ bs) = 0 ∷ zeroed zero n bs
zeroed (suc o) n (b ∷ bs) = b ∷ zeroed o n bs

-- ---- the model

-- one store with used 0, no threads, no stacks, all stack area free
abbrev pub started : Model → Run → Run → Model
started m a b =
    record {
      store_area = a;
      stack_area = b;
      stores = record { start = a.start; total = a.length; used = 0; parent = a.start } ∷ [];
      threads = [];
      stacks = [];
      free_run = b;
      limits = m.limits;
    }

-- other stores, other threads, other stacks and free run
abbrev pub with_stores : Model → List Store → Model
with_stores m ss = record { store_area = m.store_area; stack_area = m.stack_area; stores = ss; threads = m.threads; stacks = m.stacks; free_run = m.free_run; limits = m.limits }

abbrev pub with_threads : Model → List Thread → Model
with_threads m ts = record { store_area = m.store_area; stack_area = m.stack_area; stores = m.stores; threads = ts; stacks = m.stacks; free_run = m.free_run; limits = m.limits }

abbrev pub with_stacks : Model → List Stack → Run → Model
with_stacks m ks r = record { store_area = m.store_area; stack_area = m.stack_area; stores = m.stores; threads = m.threads; stacks = ks; free_run = r; limits = m.limits }
