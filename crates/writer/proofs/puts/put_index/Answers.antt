-- `put_index` meets its contract: four digits, of which the first three may be missing.
use mathlib.Core.Path.{sym}
use Prim.Native.Nat.{◌≤◌, ◌<◌}
use native.Mathlib.Omega.{arith}
use lib.ListN.{length}
use Rattle.writer.proofs.puts.Indices.{index_digits, index_length}
use Rattle.writer.proofs.puts.Putting.{put_then, put_as}
use Rattle.writer.proofs.puts.put_index.Goals as goal

pub put_digit-hundreds-requires : goal.put_digit-hundreds-requires
put_digit-hundreds-requires c =
    let low : c.args.v < 10000 = omega (arith, c.requires.0) in
    omega (arith, c.requires.1, index_length c.args.v low)

pub put_digit-tens-requires : goal.put_digit-tens-requires
put_digit-tens-requires c =
    let low : c.args.v < 10000 = omega (arith, c.requires.0) in
    omega (arith, c.requires.1, index_length c.args.v low, c.put_digit-hundreds.ensures.next, c.put_digit-hundreds.ensures.long)

pub put_digit-ones-requires : goal.put_digit-ones-requires
put_digit-ones-requires c =
    let low : c.args.v < 10000 = omega (arith, c.requires.0) in
    omega (arith, c.requires.1, index_length c.args.v low, c.put_digit-hundreds.ensures.next, c.put_digit-hundreds.ensures.long, c.put_digit-tens.ensures.next, c.put_digit-tens.ensures.long)

pub put_byte-requires : goal.put_byte-requires
put_byte-requires c =
    let low : c.args.v < 10000 = omega (arith, c.requires.0) in
    omega (arith, c.requires.1, index_length c.args.v low, c.put_digit-hundreds.ensures.next, c.put_digit-hundreds.ensures.long, c.put_digit-tens.ensures.next, c.put_digit-tens.ensures.long, c.put_digit-ones.ensures.next, c.put_digit-ones.ensures.long)

pub returns : goal.returns
returns c =
    let low : c.args.v < 10000 = omega (arith, c.requires.0) in
    let room : c.args.at ≤ length c.args.text.now = omega (arith, c.requires.1) in
    put_as (sym (index_digits c.args.v low)) (put_then room (put_then room (put_then room c.put_digit-hundreds.ensures c.put_digit-tens.ensures) c.put_digit-ones.ensures) c.put_byte.ensures)
