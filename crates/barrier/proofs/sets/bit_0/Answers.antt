-- `bit_0` meets its contract.
use Rattle.barrier.proofs.Bits.{mask_one, bit-first}
use Rattle.barrier.proofs.sets.bit_0.Goals as goal

pub returns : goal.returns
returns c = rw (mask_one c.args.byte) (bit-first c.args.byte)
