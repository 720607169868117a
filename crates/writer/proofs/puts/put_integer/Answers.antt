-- `put_integer` meets its contract: a sign, and the digits after it or over it.
use mathlib.Core.Path.{◌≡◌}
use native.Mathlib.Omega.{arith}
use lib.IntN.{nat_abs}
use mir.Facts.{to_z-of_z}
use Rattle.market.specs.Text.{integer}
use Rattle.writer.specs.Code.Puts.{Put}
use Rattle.market.proofs.Decimal.{decimal-some}
use Rattle.writer.proofs.puts.Signs.{length-integer, put_value}
use Rattle.writer.proofs.puts.put_integer.Goals as goal

pub bounds-text-at : goal.bounds-text-at
bounds-text-at c = omega (arith, c.requires, length-integer c.args.v, decimal-some 9 (nat_abs c.args.v))

pub returns : goal.returns
returns c =
    let size : c.unsigned_abs.result ≡ nat_abs c.args.v = simp (to_z-of_z c.ranges.v) at c.unsigned_abs.ensures.value in
    let whole : Put (integer c.args.v) c.args.at c.put_number.result c.args.text.now c.put_number.new.text = put_value c.args.v c.requires (simp (to_z-of_z c.ranges.v, size) at c.put_number.ensures) in
    whole
