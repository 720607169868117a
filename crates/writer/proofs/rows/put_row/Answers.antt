use borrow.Author.Rules.{sfits_of}
use mathlib.Core.Path.{ap, ◌∙◌}
use mathlib.Core.List.{List}
use Prim.Native.Nat.{◌+◌}
use lib.IntN.{pos}
use lib.ListN.{get_or, drop}
use mir.Syntax.{w32}
use mir.Val.{SFits}
use mir.Facts.{to_z-of_z}
use Rattle.market.specs.Parse.{Triplet}
use Rattle.writer.specs.Code.Puts.{from_diagonal, if_lower, lines_of}
use Rattle.writer.proofs.puts.Putting.{Next, putting_room, putting_more, putting_end}
use Rattle.writer.proofs.rows.Entries.{lines-append, diagonal_next, diagonal_end}
use Rattle.writer.proofs.rows.put_row.Goals as goal

pub put_entry-p-requires : goal.put_entry-p-requires
put_entry-p-requires c =
    let in-range : SFits w32 (get_or c.args.values.now c.loop-k.k (pos 0)) = sfits_of c.put_entry-arg-in-loop-k-1.given in
    let next : let a = c.args in Next (lines_of (from_diagonal a.j (drop c.loop-k.k a.columns.now) (drop c.loop-k.k a.values.now))) (lines_of (if_lower a.j (get_or a.columns.now c.loop-k.k 0) (get_or a.values.now c.loop-k.k (pos 0)))) (lines_of (from_diagonal a.j (drop (c.loop-k.k + 1) a.columns.now) (drop (c.loop-k.k + 1) a.values.now))) = record {
      is = ap (λ (es : List Triplet). lines_of es) (diagonal_next c.args.j c.args.columns.now c.args.values.now c.loop-k.k c.loop-k-test.true c.requires.0.beside)
          ∙ lines-append (if_lower c.args.j (get_or c.args.columns.now c.loop-k.k 0) (get_or c.args.values.now c.loop-k.k (pos 0))) (from_diagonal c.args.j (drop (c.loop-k.k + 1) c.args.columns.now) (drop (c.loop-k.k + 1) c.args.values.now));
    } in
    (c.requires.0.low, c.requires.0.columns c.loop-k.k c.loop-k-test.true, simp (to_z-of_z in-range) (putting_room c.loop-k.invariant next))

pub loop-k-preserved : goal.loop-k-preserved
loop-k-preserved c =
    let in-range : SFits w32 (get_or c.args.values.now c.loop-k.k (pos 0)) = sfits_of c.put_entry-arg-in-loop-k-1.given in
    let next : let a = c.args in Next (lines_of (from_diagonal a.j (drop c.loop-k.k a.columns.now) (drop c.loop-k.k a.values.now))) (lines_of (if_lower a.j (get_or a.columns.now c.loop-k.k 0) (get_or a.values.now c.loop-k.k (pos 0)))) (lines_of (from_diagonal a.j (drop (c.loop-k.k + 1) a.columns.now) (drop (c.loop-k.k + 1) a.values.now))) = record {
      is = ap (λ (es : List Triplet). lines_of es) (diagonal_next c.args.j c.args.columns.now c.args.values.now c.loop-k.k c.loop-k-test.true c.requires.0.beside)
          ∙ lines-append (if_lower c.args.j (get_or c.args.columns.now c.loop-k.k 0) (get_or c.args.values.now c.loop-k.k (pos 0))) (from_diagonal c.args.j (drop (c.loop-k.k + 1) c.args.columns.now) (drop (c.loop-k.k + 1) c.args.values.now));
    } in
    putting_more c.loop-k.invariant next (simp (to_z-of_z in-range) at c.put_entry-p.ensures)

pub returns : goal.returns
returns c =
    let a = c.args in
    putting_end c.loop-k.invariant (ap (λ (es : List Triplet). lines_of es) (diagonal_end a.j a.columns.now a.values.now c.loop-k.k c.loop-k-test.false))
