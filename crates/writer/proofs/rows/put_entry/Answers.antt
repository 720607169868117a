-- `put_entry` meets its contract.
use mathlib.Core.Path.{sym, ap}
use mathlib.Core.List.{List}
use native.Mathlib.Omega.{arith}
use lib.ListN.{length}
use mir.Facts.{to_z-of_z}
use Rattle.market.specs.Parse.{Triplet}
use Rattle.writer.specs.Code.Puts.{lines_of}
use Rattle.writer.proofs.puts.Putting.{put_none, put_as}
use Rattle.writer.proofs.rows.Entries.{before_diagonal, line-from_diagonal}
use Rattle.writer.proofs.rows.put_entry.Goals as goal

pub returns-then-c-j : goal.returns-then-c-j
returns-then-c-j c = let a = c.args in put_as (ap (λ (es : List Triplet). lines_of es) (sym (before_diagonal a.j a.c a.v c.if-c-j.true))) (put_none a.text.now a.at)

pub put_line-requires : goal.put_line-requires
put_line-requires c =
    simp (to_z-of_z c.ranges.v) (omega (arith, c.requires.2, ap length (line-from_diagonal c.args.j c.args.c c.args.v c.if-c-j.false)))

pub returns : goal.returns
returns c =
    put_as (sym (line-from_diagonal c.args.j c.args.c c.args.v c.if-c-j.false)) (simp (to_z-of_z c.ranges.v) at c.put_line.ensures)
