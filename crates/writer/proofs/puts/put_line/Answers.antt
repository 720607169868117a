-- `put_line` meets its contract: three fields, two spaces and the line feed.
use mathlib.Core.List.{append_assoc}
use Prim.Native.Nat.{◌≤◌}
use native.Mathlib.Omega.{arith}
use lib.ListN.{length}
use mir.Facts.{to_z-of_z}
use Rattle.writer.proofs.puts.Putting.{put_then, put_as}
use Rattle.writer.proofs.puts.put_line.Goals as goal

pub returns : goal.returns
returns c =
    let i = simp (to_z-of_z c.ranges.v) at c.put_integer-value.ensures in
    let room : c.args.at ≤ length c.args.text.now = omega (arith, c.requires.2) in
    put_as (simp append_assoc) (put_then room (put_then room (put_then room (put_then room (put_then room c.put_index-row.ensures c.put_byte-space.ensures) c.put_index-column.ensures) c.put_byte-gap.ensures) i) c.put_byte.ensures)
