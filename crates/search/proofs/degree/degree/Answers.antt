-- The columns of row v that are not v are the rows adjacent to it.
use mathlib.Core.Path.{◌≡◌, ap, ◌∙◌}
use mathlib.Core.Bool.{not}
use mathlib.Core.List.{List}
use Prim.Native.Nat.{ℕ}
use native.Mathlib.Omega.{arith}
use lib.Dec.{eqb}
use lib.ListN.{length}
use Rattle.base.specs.Lists.{filter}
use Rattle.matrix.specs.Matrix.{neighbours}
use Rattle.levels.specs.Levels.{degree}
use Rattle.levels.specs.Code.Graph.{adj}
use Rattle.search.proofs.degree.degree.Goals as goal

pub others-requires : goal.others-requires
unfolding neighbours
others-requires c =
    let r = c.args.graph.now.rows in
    let counted : length (filter (λ j. not (eqb j c.args.v)) c.columns_of.result.now) ≡ degree (adj c.args.graph.now) c.args.v = ap (λ (row : List ℕ). length (filter (λ j. not (eqb j c.args.v)) row)) c.columns_of.ensures in
    omega (arith, counted, r.short c.args.v c.requires, r.small)

pub returns : goal.returns
unfolding neighbours
returns c = c.others.ensures ∙ ap (λ (row : List ℕ). length (filter (λ j. not (eqb j c.args.v)) row)) c.columns_of.ensures
