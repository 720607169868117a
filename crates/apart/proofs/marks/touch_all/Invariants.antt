-- `marks::touch_all`: after each turn the first j rows are touched; at most one is left then.
use mathlib.Core.Bool.{true}
use Prim.Native.Nat.{◌-◌, ◌≤◌}
use lib.ListN.{length, take}
use Rattle.apart.specs.Code.Marks.{Touched}
use Rattle.apart.proofs.marks.touch_all.Given as goal

abbrev pub invariant-loop-j : goal.invariant-loop-j
invariant-loop-j l = Touched l.pen.low l.pen.mine (take l.j l.rows) l.initial.marks l.marks true × (l.j ≤ length l.rows)

abbrev pub decreases-loop-j : goal.decreases-loop-j
decreases-loop-j l = length l.rows - l.j
