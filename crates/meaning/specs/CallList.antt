-- A list of calls, made one after the other. Assumes nothing.
use Rattle.std.specs.Prelude.{List, [], ◌∷◌, ℕ}
use Rattle.meaning.specs.Model.{Model, Bytes}
use Rattle.meaning.specs.Calls.{Call, step}

-- a call, and what is told of it
pub record Line : Type 0 where
  pub call : Call
  pub report : ℕ
  pub value : ℕ
  pub steps : ℕ

infix 70 ◌answers◌ ◌refused_with◌ ◌finds◌below◌
-- accepted, with this value
abbrev pub ◌answers◌ : Call → ℕ → Line
c answers v = record { call = c; report = 0; value = v; steps = 0 }

-- refused, with this report
abbrev pub ◌refused_with◌ : Call → ℕ → Line
c refused_with r = record { call = c; report = r; value = 0; steps = 0 }

-- accepted, with this store, which is n steps below the root
abbrev pub ◌finds◌below◌ : Call → ℕ → ℕ → Line
c finds s below n = record { call = c; report = 0; value = s; steps = n }

-- the model after some calls
unfoldable pub after : Model → Bytes → List Call → Model
after m bs [] = m
after m bs (c ∷ cs) =
    let o = step m bs c in
    after o.model o.bytes cs

-- the bytes after some calls
unfoldable pub bytes_after : Model → Bytes → List Call → Bytes
bytes_after m bs [] = bs
bytes_after m bs (c ∷ cs) =
    let o = step m bs c in
    bytes_after o.model o.bytes cs

-- the same calls with what is told of each when they are made
unfoldable pub told : Model → Bytes → List Call → List Line
told m bs [] = []
told m bs (c ∷ cs) =
    let o = step m bs c in
    record { call = c; report = o.report; value = o.value; steps = o.steps } ∷ told o.model o.bytes cs
