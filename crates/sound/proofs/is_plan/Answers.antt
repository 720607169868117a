-- `is_plan`: soundness at 2 is document 01's, and no value is looked at.
use mathlib.Core.Path.{◌≡◌, refl, ap, ◌∙◌, fun_ext}
use mathlib.Core.Bool.{Bool}
use mathlib.Core.List.{List}
use Prim.Native.Nat.{ℕ}
use native.Mathlib.Omega.{arith}
use lib.IntN.{ℤ}
use Rattle.matrix.specs.Matrix.{matrix_of}
use Rattle.plan.specs.Groups.{Plan}
use Rattle.plan.specs.Sound.{is_sound, is_sound_at, plan_lent, is_plan, is_plan_at}
use Rattle.plan.proofs.Distances.{sound-two}
use Rattle.apart.proofs.RowsOf.{neighbours-pattern, graph_of, is_graph}
use Rattle.sound.proofs.is_plan.Goals as goal

-- soundness at k asks for no values
at-same : (k n : ℕ) (starts columns : List ℕ) (values others : List ℤ) (order groups : List ℕ) (count : ℕ)
    → is_plan_at k (matrix_of n starts columns values) order groups count ≡ is_plan_at k (matrix_of n starts columns others) order groups count
unfolding is_plan_at is_sound_at
at-same k n starts columns values others order groups count = rw (neighbours-pattern n starts columns values, neighbours-pattern n starts columns others) refl

pub is_plan_at-requires : goal.is_plan_at-requires
is_plan_at-requires c = let m = c.args.m.now in (is_graph m.n m.starts.now m.columns.now c.requires.0 c.requires.1 m.values.now, omega arith)

pub returns : goal.returns
unfolding is_plan is_plan_at is_sound is_sound_at
returns c = λ values.
    let m = c.args.m.now in
    let p = c.args.plan.now in
    let other = matrix_of m.n m.starts.now m.columns.now values in
    let g = graph_of other (is_graph m.n m.starts.now m.columns.now c.requires.0 c.requires.1 values) in
    c.is_plan_at.ensures
    ∙ at-same 2 m.n m.starts.now m.columns.now m.values.now values p.order.now p.groups.now p.count
    ∙ ap (λ (test : Plan → Bool). plan_lent test other p.order.now p.groups.now p.count) (fun_ext (λ o. sound-two g o.order o.groups))
