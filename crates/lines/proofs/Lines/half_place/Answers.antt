-- `Lines::half_place` meets its contract: a search by halves. Assumes nothing.
use Rattle.std.proofs.Common.{arith, sym, ◌∙◌, ◌≡◌, ap, ℕ, length, List, ◌<◌, ◌+◌, ◌-◌, ◌/◌}
use Rattle.std.proofs.lemmas.List.{get_or_read_under}
use Rattle.std.specs.Prelude.{get_or, refl}
use Rattle.lines.specs.Shape.{Shape, live_whole}
use Rattle.lines.specs.Halves.{key_at, halves_start, halves_hit, halves_low, halves_high, halves_end}
use Rattle.lines.proofs.Lines.half_place.Goals as goal

-- the key of the line that is read at i
read : {A B : Type 0} → (σ : Shape A B) (key : B → ℕ) (ls : List A) (i : ℕ) (a : A) (k : ℕ) → i < length ls → a ≡ get_or ls i a → k ≡ key (σ.view a) → key_at σ key ls i ≡ k
read σ key ls i a k h e f = sym (f ∙ ap (λ b. key (σ.view b)) (get_or_read_under ls i _ a σ.zeros e h refl))

pub loop-low-init : goal.loop-low-init
loop-low-init g c =
    let v = g.Self.Lines in
    (omega arith, halves_start v.shape v.name _ c.listed-listed.result.now (omega arith) _)

pub returns-then-found-key : goal.returns-then-found-key
returns-then-found-key g c =
    let v = g.Self.Lines in
    let l = c.loop-low in
    let ls = c.listed-listed.result.now in
    let inside : l.low + (l.high - l.low) / 2 < length ls = omega (arith, c.loop-low-test.true, l.invariant.0) in
    let key = read v.shape v.name ls _ _ _ inside c.index-listed-middle.is c.key-found.ensures in
    let h = halves_hit v.shape v.name (length ls) ls (omega arith) c.number-key.result _ inside (key ∙ c.if-found-key.true) in
    rw (← c.listed-listed.ensures.reads, ← c.number-key.ensures, ← live_whole v.shape ls) h

pub loop-low-preserved-then-found-key-2 : goal.loop-low-preserved-then-found-key-2
loop-low-preserved-then-found-key-2 g c =
    let v = g.Self.Lines in
    let l = c.loop-low in
    let ls = c.listed-listed.result.now in
    let inside : l.low + (l.high - l.low) / 2 < length ls = omega (arith, c.loop-low-test.true, l.invariant.0) in
    let key = read v.shape v.name ls _ _ _ inside c.index-listed-middle.is c.key-found.ensures in
    (l.invariant.0, halves_low v.shape v.name (length ls) ls (omega arith) c.number-key.result l.low l.high _ inside (omega (arith, key, c.if-found-key-2.true)) l.invariant.1)

pub loop-low-preserved : goal.loop-low-preserved
loop-low-preserved g c =
    let v = g.Self.Lines in
    let l = c.loop-low in
    let ls = c.listed-listed.result.now in
    let inside : l.low + (l.high - l.low) / 2 < length ls = omega (arith, c.loop-low-test.true, l.invariant.0) in
    let key = read v.shape v.name ls _ _ _ inside c.index-listed-middle.is c.key-found.ensures in
    (omega (arith, inside), halves_high v.shape v.name (length ls) ls (omega arith) c.number-key.result l.low l.high _ inside (omega (arith, key, c.if-found-key.false, c.if-found-key-2.false)) l.invariant.1)

pub returns : goal.returns
returns g c =
    let v = g.Self.Lines in
    let l = c.loop-low in
    let ls = c.listed-listed.result.now in
    let h = halves_end v.shape v.name (length ls) ls (omega arith) c.number-key.result l.low l.high (omega (arith, c.loop-low-test.false)) l.invariant.1 in
    rw (← c.listed-listed.ensures.reads, ← c.number-key.ensures, ← live_whole v.shape ls) h
