use borrow.Author.Rules.{rules}
use mathlib.Core.Path.{◌≡◌, sym}
use mathlib.Core.Bool.{Bool, not, ◌&&◌}
use native.Mathlib.Omega.{arith}
use Prim.Native.Nat.{ℕ}
use lib.Dec.{leb}
use lib.IntN.{ℤ, pos}
use lib.ListN.{length, get_or}
use mir.Syntax.{w32}
use mir.Val.{SFits}
use mir.Facts.{to_z-of_z}
use Rattle.joined.specs.Code.Rows.{marked}
use Rattle.joined.proofs.Emitting.{added_none, added_same}
use Rattle.joined.proofs.Cells.{cells-none}
use Rattle.joined.proofs.Turns.{turn-next, turn_stop}
use Rattle.joined.proofs.row.put_second.Goals as goal

pub loop-k-init : goal.loop-k-init
loop-k-init c =
    let row = c.args.row.now in
    let column : ℕ → ℕ = λ k. get_or row.places.now (get_or row.columns.now k 0) 0 in
    let value : ℕ → ℤ = λ k. get_or row.values.now k (pos 0) in
    let passes : ℕ → Bool = λ j. leb j c.args.i && not (marked c.args.tables.now.turn c.args.tables.now.seen j) in
    added_same (sym (cells-none c.args.i passes column value)) (added_none _)

pub returns-in_err-put_new : goal.returns-in_err-put_new
returns-in_err-put_new c =
    let row = c.args.row.now in
    let column : ℕ → ℕ = λ k. get_or row.places.now (get_or row.columns.now k 0) 0 in
    let value : ℕ → ℤ = λ k. get_or row.values.now k (pos 0) in
    let passes : ℕ → Bool = λ j. leb j c.args.i && not (marked c.args.tables.now.turn c.args.tables.now.seen j) in
    let value-fits : SFits w32 (get_or row.values.now c.loop-k.k (pos 0)) = search rules in
    rw c.from_residual.ensures
    (turn_stop c.args.i passes column value c.loop-k.k c.loop-k.invariant (to_z-of_z value-fits) c.in_err-put_new.ensures (length row.columns.now) (omega (arith, c.loop-k-test.true)))

pub loop-k-preserved : goal.loop-k-preserved
loop-k-preserved c =
    let row = c.args.row.now in
    let column : ℕ → ℕ = λ k. get_or row.places.now (get_or row.columns.now k 0) 0 in
    let value : ℕ → ℤ = λ k. get_or row.values.now k (pos 0) in
    let passes : ℕ → Bool = λ j. leb j c.args.i && not (marked c.args.tables.now.turn c.args.tables.now.seen j) in
    let value-fits : SFits w32 (get_or row.values.now c.loop-k.k (pos 0)) = search rules in
    turn-next c.args.i passes column value c.loop-k.k c.loop-k.invariant (to_z-of_z value-fits) c.in_ok-put_new.ensures

pub returns : goal.returns
returns c =
    let e : c.loop-k.k ≡ length c.args.row.now.columns.now = omega arith in
    rw (← e) c.loop-k.invariant
