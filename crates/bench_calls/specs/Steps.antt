-- What the code hands back of what stands at a place, and what call 8 is lent. Assumes nothing.
use Rattle.std.specs.Prelude.{Some, None, ◌≡◌, ◌++◌, ℕ, ◌≤◌, min, leb, length, take, drop}
use Rattle.std.proofs.Common.{sym, ◌∙◌, ap, inl, inr, arith, drop_of_length-le, take_all, leb-true, leb-false}
use Rattle.lists.specs.Tests.{tested}
use Rattle.texts.specs.BufferLaws.{part_length}
use Rattle.meaning.specs.Model.{Bytes}
use Rattle.meaning.specs.Calls.{code, allocate}
use Rattle.call_list.specs.Records.{Entry, call, stop}
use Rattle.table.specs.declared.Table.{Table}
use Rattle.table.specs.Calls.{Seen, called, answer}
use Rattle.bench_calls.specs.declared.Stepped.{Stepped}
use Rattle.bench_calls.specs.Bench.{AfterCall, bench_called}

-- an answer of the manager as the bench's, with the call's code in front
abbrev pub stepped_to : ℕ → Seen → Stepped
stepped_to k a = record { table = a.table; printout = Some (record { code = k; report = a.report; value = a.value }) }

-- the report, the value and the table after a call
abbrev pub seen_of : AfterCall → Seen
seen_of o = record { table = o.table; report = o.report; value = o.value }

-- what stands at a place: a call is made, with its code in front, and at anything else the program stops
abbrev pub stepped : Table → Bytes → Entry → Stepped
stepped t buffer (call c) = stepped_to (code c) (seen_of (bench_called t buffer c))
stepped t buffer stop = record { table = t; printout = None }

-- the store buffer after it
abbrev pub stores_after : Table → Bytes → Entry → Bytes
stores_after t buffer (call c) = (bench_called t buffer c).stores
stores_after t buffer stop = buffer

-- ---- what call 8 is lent

module _ (l n : ℕ) (buffer : Bytes) (e : n ≡ min l (length buffer)) where
  pub lent_length : n ≡ length (take n buffer)
  lent_length = part_length n buffer (omega (arith, e))

  -- no further than the buffer's end
  lent_bytes : (take n buffer ≡ take l buffer) × (drop n buffer ≡ drop l buffer)
  lent_bytes = elim (tested (leb l (length buffer))) [
    | inl h ↦ let q : n ≡ l = omega (arith, e, leb-true l (length buffer) h) in (ap (λ k. take k buffer) q, ap (λ k. drop k buffer) q)
    | inr h ↦
        let q : n ≡ length buffer = omega (arith, e, leb-false l (length buffer) h) in
        let b : length buffer ≤ l = omega (arith, leb-false l (length buffer) h) in
        (take_all n buffer (omega arith) ∙ sym (take_all l buffer b), drop_of_length-le buffer {i = n} (omega arith) ∙ sym (drop_of_length-le buffer {i = l} b))
  ]

-- what comes back stands in front of the rest
pub lent_back : (t : Table) (buffer : Bytes) (x k n : ℕ) → n ≡ min t.areas.stores.length (length buffer) → (a : Seen) (part : Bytes)
    → a ≡ answer (called t (take n buffer) (allocate x k)) → part ≡ (called t (take n buffer) (allocate x k)).bytes
    → (a ≡ seen_of (bench_called t buffer (allocate x k))) × (part ++ drop n buffer ≡ (bench_called t buffer (allocate x k)).stores)
unfolding bench_called
lent_back t buffer x k n e a part f g =
    let q = lent_bytes _ n buffer e in
    (f ∙ ap (λ b. answer (called t b (allocate x k))) q.0, rw (g, q.0, q.1))
