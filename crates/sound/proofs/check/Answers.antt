-- `check`: the matrix, then the plan.
use mathlib.Core.Path.{sym}
use lib.Dec.{leb}
use borrow.Author.Tests.{leb-true}
use Rattle.base.specs.Replies.{in_turn}
use Rattle.base.proofs.Booleans.{and_right}
use Rattle.matrix.specs.Matrix.{matrix_check}
use Rattle.plan.specs.Sound.{max_distance, is_distance, check_reply}
use Rattle.apart.proofs.RowsOf.{is_graph}
use Rattle.sound.proofs.check.Goals as goal

pub returns-then-not-is_matrix : goal.returns-then-not-is_matrix
unfolding check_reply matrix_check in_turn
returns-then-not-is_matrix c = sym (rw (← c.if-not-is_matrix.ensures))

pub returns-then-not-is_distance : goal.returns-then-not-is_distance
unfolding check_reply matrix_check in_turn
returns-then-not-is_distance c = sym (rw (← c.if-not-is_matrix.ensures, ← c.if-not-is_distance.ensures))

pub is_plan_at-requires : goal.is_plan_at-requires
unfolding is_distance
is_plan_at-requires c =
    let k = c.args.k in
    let m = c.args.m.now in
    (is_graph m.n m.starts.now m.columns.now m.values.now (sym c.if-not-is_matrix.ensures) m.values.now, leb-true k max_distance (and_right (leb 1 k) (leb k max_distance) (sym c.if-not-is_distance.ensures)))

pub returns-then-not-is_plan_at : goal.returns-then-not-is_plan_at
unfolding check_reply matrix_check in_turn
returns-then-not-is_plan_at c = sym (rw (← c.if-not-is_matrix.ensures, ← c.if-not-is_distance.ensures, ← c.if-not-is_plan_at.ensures))

pub returns : goal.returns
unfolding check_reply matrix_check in_turn
returns c = sym (rw (← c.if-not-is_matrix.ensures, ← c.if-not-is_distance.ensures, ← c.if-not-is_plan_at.ensures))
