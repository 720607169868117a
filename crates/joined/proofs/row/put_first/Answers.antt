use borrow.Author.Rules.{rules}
use mathlib.Core.Path.{◌≡◌, sym, ap, ◌∙◌}
use native.Mathlib.Omega.{arith}
use Prim.Native.Nat.{ℕ}
use lib.Dec.{leb}
use lib.IntN.{ℤ, pos, ◌+ℤ◌}
use lib.ListN.{length, get_or}
use mir.Syntax.{w32, w64}
use mir.Val.{SFits}
use mir.Facts.{to_z-of_z}
use Rattle.joined.specs.Code.Rows.{held_at}
use Rattle.joined.proofs.Emitting.{added_none, added_same}
use Rattle.joined.proofs.Cells.{cells-none}
use Rattle.joined.proofs.Turns.{turn-next, turn_stop}
use Rattle.joined.proofs.row.put_first.Goals as goal

pub loop-k-init : goal.loop-k-init
loop-k-init c =
    let row = c.args.row.now in
    let t = c.args.tables.now in
    let column : ℕ → ℕ = λ k. get_or row.columns.now k 0 in
    let value : ℕ → ℤ = λ k. get_or row.values.now k (pos 0) +ℤ held_at t.turn t.marks t.held (column k) in
    added_same (sym (cells-none c.args.i (λ j. leb j c.args.i) column value)) (added_none _)

pub returns-in_err-put_low : goal.returns-in_err-put_low
returns-in_err-put_low c =
    let row = c.args.row.now in
    let t = c.args.tables.now in
    let column : ℕ → ℕ = λ k. get_or row.columns.now k 0 in
    let value : ℕ → ℤ = λ k. get_or row.values.now k (pos 0) +ℤ held_at t.turn t.marks t.held (column k) in
    let sum_is : c.plus-v.result ≡ value c.loop-k.k =
    let f : SFits w32 (get_or row.values.now c.loop-k.k (pos 0)) = search rules in
    let g : SFits w32 c.held_at.result = record { sfits = c.held_at.type_inv } in
    (simp (to_z-of_z f, to_z-of_z g) at c.plus-v.ensures) ∙ ap (λ (z : ℤ). get_or row.values.now c.loop-k.k (pos 0) +ℤ z) c.held_at.ensures in
    let sum_fits : SFits w64 c.plus-v.result = record { sfits = c.plus-v.type_inv } in
    rw c.from_residual.ensures
    (turn_stop c.args.i (λ j. leb j c.args.i) column value c.loop-k.k c.loop-k.invariant (to_z-of_z sum_fits ∙ sum_is) c.in_err-put_low.ensures (length row.columns.now) (omega (arith, c.loop-k-test.true)))

pub loop-k-preserved : goal.loop-k-preserved
loop-k-preserved c =
    let row = c.args.row.now in
    let t = c.args.tables.now in
    let column : ℕ → ℕ = λ k. get_or row.columns.now k 0 in
    let value : ℕ → ℤ = λ k. get_or row.values.now k (pos 0) +ℤ held_at t.turn t.marks t.held (column k) in
    let sum_is : c.plus-v.result ≡ value c.loop-k.k =
    let f : SFits w32 (get_or row.values.now c.loop-k.k (pos 0)) = search rules in
    let g : SFits w32 c.held_at.result = record { sfits = c.held_at.type_inv } in
    (simp (to_z-of_z f, to_z-of_z g) at c.plus-v.ensures) ∙ ap (λ (z : ℤ). get_or row.values.now c.loop-k.k (pos 0) +ℤ z) c.held_at.ensures in
    let sum_fits : SFits w64 c.plus-v.result = record { sfits = c.plus-v.type_inv } in
    turn-next c.args.i (λ j. leb j c.args.i) column value c.loop-k.k c.loop-k.invariant (to_z-of_z sum_fits ∙ sum_is) c.in_ok-put_low.ensures

pub returns : goal.returns
returns c =
    let e : c.loop-k.k ≡ length c.args.row.now.columns.now = omega arith in
    rw (← e) c.loop-k.invariant
