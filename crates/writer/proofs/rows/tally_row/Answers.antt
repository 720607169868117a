use borrow.Author.Rules.{sfits_of}
use Prim.Native.Nat.{◌≤◌, ◌+◌, ◌*◌}
use native.Mathlib.Omega.{arith}
use lib.IntN.{pos}
use lib.ListN.{get_or, drop}
use mir.Syntax.{w32}
use mir.Val.{SFits}
use mir.Facts.{to_z-of_z}
use Rattle.writer.specs.Code.Puts.{from_diagonal}
use Rattle.writer.proofs.rows.Entries.{diagonal_next, diagonal_end, diagonal_few}
use Rattle.writer.proofs.rows.Tallies.{Tallying, tallying_more, tallying_small, tallying_end}
use Rattle.writer.proofs.rows.tally_row.Goals as goal

pub overflow_add-entries : goal.overflow_add-entries
overflow_add-entries c =
    let in-range : SFits w32 (get_or c.args.values.now c.loop-k.k (pos 0)) = sfits_of c.tally_entry-arg-1.given in
    let counted : let a = c.args in Tallying (from_diagonal a.j a.columns.now a.values.now) (from_diagonal a.j (drop (c.loop-k.k + 1) a.columns.now) (drop (c.loop-k.k + 1) a.values.now)) (c.loop-k.entries + c.tally_entry-t.result.entries) (c.loop-k.bytes + c.tally_entry-t.result.bytes) = tallying_more c.loop-k.invariant (diagonal_next c.args.j c.args.columns.now c.args.values.now c.loop-k.k c.loop-k-test.true c.requires.beside)
    (simp (to_z-of_z in-range) at c.tally_entry-t.ensures) in
    let small : (c.loop-k.entries + c.tally_entry-t.result.entries ≤ 4096) × (c.loop-k.bytes + c.tally_entry-t.result.bytes ≤ 34 * 4096) = let t = tallying_small counted in
    let few = diagonal_few c.args.j c.args.columns.now c.args.values.now in
    (omega (arith, c.requires.few), omega (arith, c.requires.few)) in
    let t = small in omega arith

pub overflow_add-bytes : goal.overflow_add-bytes
overflow_add-bytes c =
    let in-range : SFits w32 (get_or c.args.values.now c.loop-k.k (pos 0)) = sfits_of c.tally_entry-arg-1.given in
    let counted : let a = c.args in Tallying (from_diagonal a.j a.columns.now a.values.now) (from_diagonal a.j (drop (c.loop-k.k + 1) a.columns.now) (drop (c.loop-k.k + 1) a.values.now)) (c.loop-k.entries + c.tally_entry-t.result.entries) (c.loop-k.bytes + c.tally_entry-t.result.bytes) = tallying_more c.loop-k.invariant (diagonal_next c.args.j c.args.columns.now c.args.values.now c.loop-k.k c.loop-k-test.true c.requires.beside)
    (simp (to_z-of_z in-range) at c.tally_entry-t.ensures) in
    let small : (c.loop-k.entries + c.tally_entry-t.result.entries ≤ 4096) × (c.loop-k.bytes + c.tally_entry-t.result.bytes ≤ 34 * 4096) = let t = tallying_small counted in
    let few = diagonal_few c.args.j c.args.columns.now c.args.values.now in
    (omega (arith, c.requires.few), omega (arith, c.requires.few)) in
    let t = small in omega arith

pub loop-k-preserved : goal.loop-k-preserved
loop-k-preserved c =
    let in-range : SFits w32 (get_or c.args.values.now c.loop-k.k (pos 0)) = sfits_of c.tally_entry-arg-1.given in
    let counted : let a = c.args in Tallying (from_diagonal a.j a.columns.now a.values.now) (from_diagonal a.j (drop (c.loop-k.k + 1) a.columns.now) (drop (c.loop-k.k + 1) a.values.now)) (c.loop-k.entries + c.tally_entry-t.result.entries) (c.loop-k.bytes + c.tally_entry-t.result.bytes) = tallying_more c.loop-k.invariant (diagonal_next c.args.j c.args.columns.now c.args.values.now c.loop-k.k c.loop-k-test.true c.requires.beside)
    (simp (to_z-of_z in-range) at c.tally_entry-t.ensures) in
    counted

pub returns : goal.returns
returns c =
    let a = c.args in
    tallying_end c.loop-k.invariant (diagonal_end a.j a.columns.now a.values.now c.loop-k.k c.loop-k-test.false)
