use borrow.Author.Rules.{rules}
use mathlib.Core.Path.{refl}
use lib.IntN.{pos}
use lib.ListN.{get_or}
use mir.Syntax.{w32}
use mir.Val.{SFits}
use mir.Facts.{to_z-of_z}
use Rattle.joined.proofs.Marked.{held_none, held_next}
use Rattle.joined.proofs.tables.Tables.hold.Goals as goal

pub loop-k-init : goal.loop-k-init
loop-k-init c = let r = c.args.row.now in (held_none c.args.turn r.places.now r.columns.now r.values.now c.requires, refl, refl)

pub loop-k-preserved : goal.loop-k-preserved
loop-k-preserved c =
    let m = c.loop-k-test.true in
    let r = c.args.row.now in
    let t = c.loop-k.self in
    let f : SFits w32 (get_or r.values.now c.loop-k.k (pos 0)) = search rules in
    (simp (to_z-of_z f) (held_next c.args.turn r.places.now r.columns.now r.values.now t.marks_long t.held_long r.shape c.loop-k.k m c.loop-k.invariant.0), c.loop-k.invariant.1, c.loop-k.invariant.2)
