-- `bit_of` meets its contract.
use native.Mathlib.Omega.{arith}
use Rattle.reader.proofs.marks.Triangle.{triangle-is, square}
use Rattle.reader.proofs.marks.bit_of.Goals as goal

pub returns : goal.returns
returns c = (omega (arith, triangle-is c.args.r), omega (arith, square c.args.r c.requires.1))
