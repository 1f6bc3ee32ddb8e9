-- What has been read is in the buffer.
use Rattle.std.proofs.Common.{◌≤◌, length}
use Rattle.records.proofs.read_text.Given as goal

abbrev pub invariant-loop : goal.invariant-loop
invariant-loop l = l.filled ≤ length l.text
