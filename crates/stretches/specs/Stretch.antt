-- Demand 3, its words as definitions: which calls are a stretch that a clear of the store S takes back, what is left of them, and what that rest has to do.
-- S is a store's identifier throughout. TakesBack.antt of proofs proves it, Example.antt shows a stretch. Assumes nothing.
use Rattle.std.specs.Prelude.{Bool, true, false, not, ◌&&◌, ◌||◌, List, [], ◌∷◌, ◌++◌, map, ◌≡◌, ℕ, ◌+◌, leb, eqb, length, get_or, if◌then◌else◌}
use Rattle.lists.specs.Lists.{◌∈◌}
use Rattle.meaning.specs.Model.{Run, Store, Model, Bytes, whole, listed, store_of, context_in}
use Rattle.meaning.specs.Nesting.{nested}
use Rattle.meaning.specs.Facts.{◌Holds◌, Sound}
use Rattle.meaning.specs.Calls.{Call, start, root, context_of, set_context, total_of, used_of, free_of, find, allocate, make_store, clear, resize, make_stack, destroy_stack, add_thread, remove_thread, code, step}
use Rattle.meaning.specs.CallList.{Line, after, bytes_after, told}

-- ---- what is dropped, and what is moved

-- "the questions": calls 1, 2, 4, 5, 6 and 7
abbrev pub question : Call → Bool
question c = eqb (code c) 1 || eqb (code c) 2 || (leb 4 (code c) && leb (code c) 7)

-- "the refused calls" are those with another report than 0
abbrev pub is_accepted : Model → Bytes → Call → Bool
is_accepted m bs c = eqb (step m bs c).report 0

-- the store is S or nested in S at that moment
abbrev pub within : ℕ → Model → ℕ → Bool
within S m s = eqb s S || nested m.stores s S

-- "the work done inside S": allocate, make store and clear by a thread whose context is S or nested in S at that moment, and resize of a store then
-- nested in S
unfoldable pub work_inside : ℕ → Model → Call → Bool
work_inside S m (start a b) = false
work_inside S m root = false
work_inside S m (context_of t) = false
work_inside S m (set_context t s) = false
work_inside S m (total_of s) = false
work_inside S m (used_of s) = false
work_inside S m (free_of s) = false
work_inside S m (find a) = false
work_inside S m (allocate t n) = within S m (context_in m.threads t)
work_inside S m (make_store t n) = within S m (context_in m.threads t)
work_inside S m (clear t) = within S m (context_in m.threads t)
work_inside S m (resize s n) = nested m.stores s S
work_inside S m (make_stack n) = false
work_inside S m (destroy_stack k) = false
work_inside S m (add_thread t s) = false
work_inside S m (remove_thread t) = false

-- "Drop the questions, the refused calls and the work done inside S": a call stays if it is none of these; document 01
-- says that it is kept
abbrev pub stays : ℕ → Model → Bytes → Call → Bool
stays S m bs c = not (question c) && is_accepted m bs c && not (work_inside S m c)

-- S for a store nested in S at that moment, and any other store itself
abbrev pub instead : ℕ → List Store → ℕ → ℕ
instead S ss s = if nested ss s S then S else s

-- "where a thread was placed in a store nested in S, place it in S": calls 3 and 14
unfoldable pub moved : ℕ → Model → Call → Call
moved S m (start a b) = start a b
moved S m root = root
moved S m (context_of t) = context_of t
moved S m (set_context t s) = set_context t (instead S m.stores s)
moved S m (total_of s) = total_of s
moved S m (used_of s) = used_of s
moved S m (free_of s) = free_of s
moved S m (find a) = find a
moved S m (allocate t n) = allocate t n
moved S m (make_store t n) = make_store t n
moved S m (clear t) = clear t
moved S m (resize s n) = resize s n
moved S m (make_stack n) = make_stack n
moved S m (destroy_stack k) = destroy_stack k
moved S m (add_thread t s) = add_thread t (instead S m.stores s)
moved S m (remove_thread t) = remove_thread t

-- The calls that stay, moved, each with the answer that it gave among all the calls.
unfoldable pub stayed : ℕ → Model → Bytes → List Call → List Line
stayed S m bs [] = []
stayed S m bs (c ∷ cs) =
    let o = step m bs c in
    let later = stayed S o.model o.bytes cs in
    let line : Line = record { call = moved S m c; report = o.report; value = o.value; steps = o.steps } in
    if stays S m bs c then line ∷ later else later

-- "The rest": those calls
abbrev pub the_rest : ℕ → Model → Bytes → List Call → List Call
the_rest S m bs cs = map (λ l. l.call) (stayed S m bs cs)

-- ---- what is assumed

-- the call is a start, or a resize of S
unfoldable pub starts_or_resizes : ℕ → Call → Bool
starts_or_resizes S (start a b) = true
starts_or_resizes S root = false
starts_or_resizes S (context_of t) = false
starts_or_resizes S (set_context t s) = false
starts_or_resizes S (total_of s) = false
starts_or_resizes S (used_of s) = false
starts_or_resizes S (free_of s) = false
starts_or_resizes S (find a) = false
starts_or_resizes S (allocate t n) = false
starts_or_resizes S (make_store t n) = false
starts_or_resizes S (clear t) = false
starts_or_resizes S (resize s n) = eqb s S
starts_or_resizes S (make_stack n) = false
starts_or_resizes S (destroy_stack k) = false
starts_or_resizes S (add_thread t s) = false
starts_or_resizes S (remove_thread t) = false

-- "with no accepted start among them, S neither removed nor resized meanwhile": no accepted call is a start or a resize of S, and S is listed after each call
unfoldable pub lasts : ℕ → Model → Bytes → List Call → Bool
lasts S m bs [] = true
lasts S m bs (c ∷ cs) =
    let o = step m bs c in
    let later = lasts S o.model o.bytes cs in
    not (is_accepted m bs c && starts_or_resizes S c) && listed o.model.stores S && later

-- The calls cs, from the model m and the store area's bytes bs on, are a stretch of the store S.
pub record Stretch (S : ℕ) (m : Model) (bs : Bytes) (cs : List Call) : Type 0 where
  -- "Start from a sound table with an empty store S."
  pub sound : Sound m
  pub there : listed m.stores S ≡ true
  pub empty : (store_of m.stores S).used ≡ 0
  -- "Take any calls ending in an accepted clear of S": calls before it, and a clear by a thread whose context then is S
  pub before : List Call
  pub thread : ℕ
  pub ending : cs ≡ before ++ (clear thread ∷ [])
  pub context : context_in (after m bs before).threads thread ≡ S
  pub accepted : is_accepted (after m bs before) (bytes_after m bs before) (clear thread) ≡ true
  -- "with no accepted start among them, S neither removed nor resized meanwhile"
  pub meanwhile : lasts S m bs cs ≡ true

-- ---- what is promised

-- The bytes of an area are the same but for a run in it: as many, and each whose address the run does not hold.
pub record SameOutside (area run : Run) (bs after : Bytes) : Type 0 where
  pub long : length after ≡ length bs
  pub same : (i : ℕ) → (run Holds (area.start + i) → ⊥) → get_or after i 0 ≡ get_or bs i 0

-- "The rest, run from the same start,
pub record TakenBack (S : ℕ) (m : Model) (bs : Bytes) (cs : List Call) : Type 0 where
  -- is all accepted
  pub accepted : (l : Line) → l ∈ told m bs (the_rest S m bs cs) → l.report ≡ 0
  -- with the same answers,
  pub answers : told m bs (the_rest S m bs cs) ≡ stayed S m bs cs
  -- and ends with the same table
  pub table : after m bs (the_rest S m bs cs) ≡ after m bs cs
  -- and the same bytes outside S."
  pub bytes : SameOutside m.store_area (whole (store_of m.stores S)) (bytes_after m bs cs) (bytes_after m bs (the_rest S m bs cs))
  -- outside S is the same at the end as at the start: S's total is where it was
  pub place : whole (store_of (after m bs cs).stores S) ≡ whole (store_of m.stores S)
