-- `mark` meets its contract.
use mathlib.Core.Path.{refl}
use Prim.Native.Nat.{◌%◌}
use native.Mathlib.Omega.{arith}
use Rattle.reader.specs.Code.Marks.{is_marked, marked}
use Rattle.reader.proofs.marks.Bits.{one_bit}
use Rattle.reader.proofs.marks.mark.Goals as goal

pub returns : goal.returns
unfolding is_marked marked
returns c = (refl, rw (one_bit (c.args.q % 64) (omega arith)))
