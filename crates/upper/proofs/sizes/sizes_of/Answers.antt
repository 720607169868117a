use mathlib.Core.Path.{◌≡◌, refl, subst}
use Prim.Native.Nat.{ℕ}
use native.Mathlib.Omega.{arith}
use Rattle.matrix.specs.Held.{held}
use Rattle.matrix.proofs.Matrix.{matrix_facts}
use Rattle.upper.specs.Code.Triangle.{order_of}
use Rattle.upper.specs.Code.Upper.{Sizes}
use Rattle.upper.proofs.SizeRows.{sizes_none, sizes_next}
use Rattle.upper.proofs.RowParts.{columns_stand, row-at, few-rows, columns-few, row-size, size-few}
use borrow.Author.Rules.{rules}
use Rattle.upper.proofs.sizes.sizes_of.Goals as goal

pub positions-requires : goal.positions-requires
positions-requires c =
    let g = c.args.ordered.now.lent in
    (g.long, (matrix_facts _ g.ordered.matrix).few, g.ordered.once)

pub loop-p-init : goal.loop-p-init
loop-p-init c = sizes_none _ _ _ c.told-sizes

pub columns_of-row_columns-requires : goal.columns_of-row_columns-requires
columns_of-row_columns-requires c = columns_stand c.args.ordered.now.lent c.loop-p-test.true refl

pub overflow_cast-p : goal.overflow_cast-p
overflow_cast-p c = let h = (matrix_facts _ c.args.ordered.now.lent.ordered.matrix).few in omega (arith, c.loop-p-test.true)

pub later_columns-requires : goal.later_columns-requires
later_columns-requires c k l =
    (columns-few (row-at c.args.ordered.now.lent c.loop-p-test.true refl c.positions.ensures c.columns_of-row_columns.ensures refl) k l).0

pub overflow_add-sizes : goal.overflow_add-sizes
overflow_add-sizes c =
    let few = size-few (row-at c.args.ordered.now.lent c.loop-p-test.true refl c.positions.ensures c.columns_of-row_columns.ensures refl) c.later_columns.ensures in
    search rules

pub overflow_cast-sizes : goal.overflow_cast-sizes
overflow_cast-sizes c =
    let few = size-few (row-at c.args.ordered.now.lent c.loop-p-test.true refl c.positions.ensures c.columns_of-row_columns.ensures refl) c.later_columns.ensures in
    search rules

pub bounds-sizes-p : goal.bounds-sizes-p
bounds-sizes-p c = let h = (matrix_facts _ c.args.ordered.now.lent.ordered.matrix).few in omega (arith, c.loop-p-test.true)

pub loop-p-preserved : goal.loop-p-preserved
loop-p-preserved c =
    let r = row-at c.args.ordered.now.lent c.loop-p-test.true refl c.positions.ensures c.columns_of-row_columns.ensures refl in
    sizes_next _ _ c.loop-p.p (omega (arith, few-rows r, c.loop-p-test.true)) (row-size r c.later_columns.ensures) c.loop-p.invariant

pub returns : goal.returns
returns c =
    let a = c.args.ordered.now in
    let e : c.loop-p.p ≡ a.m.n = omega arith in
    (c.positions.ensures, subst (λ (k : ℕ). Sizes (held a.m) (order_of a) k c.loop-p.sizes) e c.loop-p.invariant)
