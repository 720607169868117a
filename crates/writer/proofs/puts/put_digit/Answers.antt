-- `put_digit` meets its contract.
use mathlib.Core.Path.{sym, ap}
use native.Mathlib.Omega.{arith}
use lib.ListN.{length}
use Rattle.writer.proofs.puts.Putting.{put_none, put_as}
use Rattle.writer.proofs.puts.Indices.{digit_none, digit_some}
use Rattle.writer.proofs.puts.put_digit.Goals as goal

pub returns-then-v-power : goal.returns-then-v-power
returns-then-v-power c = let a = c.args in put_as (sym (digit_none a.power a.v c.if-v-power.true)) (put_none a.text.now a.at)

pub put_byte-requires : goal.put_byte-requires
put_byte-requires c = omega (arith, c.requires.1, ap length (digit_some c.args.power c.args.v c.if-v-power.false))

pub returns : goal.returns
returns c =
    let a = c.args in
    put_as (sym (digit_some a.power a.v c.if-v-power.false)) c.put_byte.ensures
