-- `put_number` meets its contract.
use mathlib.Core.Path.{ap}
use native.Mathlib.Omega.{arith}
use lib.ListN.{length}
use Rattle.writer.proofs.puts.Spelling.{digits-natural, digits_put}
use Rattle.writer.proofs.puts.put_number.Goals as goal

pub put_digits-requires : goal.put_digits-requires
put_digits-requires c =
    let same = digits-natural c.args.v (omega arith) in
    (omega arith, omega (arith, ap length same, c.width.ensures), omega (arith, c.width.ensures, c.requires))

pub returns : goal.returns
returns c = digits_put c.args.v c.args.at (omega arith) (omega (arith, c.width.ensures)) c.put_digits.ensures.digits c.put_digits.ensures.before
