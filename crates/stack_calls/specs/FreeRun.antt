-- The free run that calls 12 and 13 leave: by its length it tells whether it was cut, and a joined run fits where its length does. Assumes nothing.
use Rattle.std.specs.Prelude.{Bool, true, false, ◌≡◌, refl, ℕ, ◌+◌, ◌-◌, ◌<◌, ◌≤◌, min, eqb, if◌then◌else◌}
use Rattle.std.proofs.Common.{◌∙◌, ap, arith, lt-ltb, eqb-true}
use Rattle.lists.specs.Tests.{false_of}
use Rattle.names.specs.declared.lines.Area.{Area}
use Rattle.meaning.specs.Model.{Run}
use Rattle.meaning.specs.Changes.{shortened, joined}
use Rattle.meaning.specs.Reading.{run_of, area_of, fits32}
use Rattle.stack_calls.specs.StackCalls.{run_fits}

-- the free run without t bytes, where its start fits; else as it was: what `areas::shortened` gives
abbrev pub cut : Area → Area → ℕ → Area
cut area free t = if fits32 (shortened (run_of area) (run_of free) t).start then area_of (shortened (run_of area) (run_of free) t) else free

abbrev pub length_of : Area → ℕ
length_of a = a.length

-- a run that keeps its length was not cut: its start would not fit
pub not_cut : (area free left : Area) (t : ℕ) → 0 < t → t ≤ free.length → left ≡ cut area free t → left.length ≡ free.length → fits32 (shortened (run_of area) (run_of free) t).start ≡ false
not_cut area free left t some room e same =
    false_of (fits32 (shortened (run_of area) (run_of free) t).start)
    (λ fits.
    let shorter : length_of (cut area free t) ≡ free.length - t = rw fits in
    let h = ap length_of e ∙ shorter in
    omega arith)

-- and one of another length was
pub was_cut : (area free left : Area) (t : ℕ) → left ≡ cut area free t → (left.length ≡ free.length → ⊥) → fits32 (shortened (run_of area) (run_of free) t).start ≡ true
was_cut area free left t e other =
    go (fits32 (shortened (run_of area) (run_of free) t).start) refl
  where
    go : (b : Bool) → fits32 (shortened (run_of area) (run_of free) t).start ≡ b → b ≡ true
    go true q = refl
    go false q =
        let same : length_of (cut area free t) ≡ free.length = rw q in
        let h = other (ap length_of e ∙ same) in
        absurd h

-- a joined run fits where its length does
pub joined_fits : (free : Area) (k : Run) → free.start < 4294967296 → k.start < 4294967296 → run_fits (joined (run_of free) k) ≡ fits32 (free.length + k.length)
joined_fits free k lo hi =
    go (eqb free.length 0) refl
  where
    go : (b : Bool) → eqb free.length 0 ≡ b → run_fits (joined (run_of free) k) ≡ fits32 (free.length + k.length)
    go true q =
        let none = eqb-true free.length 0 q in
        let alone : free.length + k.length ≡ k.length = omega arith in
        rw (q, alone, lt-ltb k.start 4294967296 hi)
    go false q = rw (q, lt-ltb (min free.start k.start) 4294967296 (omega arith))
