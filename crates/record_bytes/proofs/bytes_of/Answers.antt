-- `record_bytes::bytes_of` meets its contract. Assumes nothing.
use Rattle.std.proofs.Common.{refl, ◌∙◌, arith}
use Rattle.texts.specs.Buffer.{overwritten}
use Rattle.record_bytes.specs.Laws.{numbers_more, numbers_whole}
use Rattle.record_bytes.proofs.bytes_of.Goals as goal

pub loop-i-init : goal.loop-i-init
unfolding overwritten
loop-i-init c = refl

pub loop-i-preserved : goal.loop-i-preserved
loop-i-preserved c = rw c.loop-i.invariant (numbers_more _ _ _ _ _ (omega arith) (omega arith) (omega arith) (c.copy_from_slice.ensures.after ∙ c.to_le_bytes.ensures))

pub returns : goal.returns
returns c = rw c.loop-i.invariant (numbers_whole _ _ _ (omega arith) c.loop-i-test.false)
