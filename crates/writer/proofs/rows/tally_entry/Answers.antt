-- `tally_entry` meets its contract.
use mir.Facts.{to_z-of_z}
use Rattle.writer.proofs.rows.Tallies.{tallied_none, tallied_one}
use Rattle.writer.proofs.rows.tally_entry.Goals as goal

pub returns-then-c-j : goal.returns-then-c-j
returns-then-c-j c = let a = c.args in tallied_none a.j a.c a.v c.if-c-j.true

pub returns : goal.returns
returns c = tallied_one c.args.j c.args.c c.args.v c.if-c-j.false (simp (to_z-of_z c.ranges.v) at c.line_width.ensures)
