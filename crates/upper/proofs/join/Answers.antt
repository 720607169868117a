use mathlib.Core.Path.{◌≡◌, refl, sym, subst}
use Prim.Native.Nat.{ℕ, ◌+◌}
use native.Mathlib.Omega.{arith}
use lib.ListN.{length, get_or, set}
use lib.Dec.{ltb}
use lib.IntN.{pos}
use mir.Syntax.{w32}
use mir.Val.{SFits}
use mir.Facts.{to_z-of_z}
use Rattle.matrix.specs.Held.{held}
use Rattle.upper.specs.Code.Upper.{Upper}
use Rattle.upper.specs.Code.Row.{RowAt}
use Rattle.upper.specs.Code.Triangle.{order_of}
use Rattle.upper.proofs.JoinRows.{Joined, join-past, join-ended}
use Rattle.upper.proofs.SizeRows.{byte_le}
use Rattle.upper.proofs.RowParts.{columns_stand, values_stand, row-at, columns-few}
use Rattle.upper.proofs.JoinNames.{Bounds, own, own-bounds, begun, turn, turn-bounds}
use borrow.Author.Rules.{rules}
use Rattle.upper.proofs.join.Goals as goal
use Rattle.upper.proofs.join.Goals.{Start, After-values_of-row_values, In-loop-k}

-- q's own place is one of the tables
own-inside : {g : _} (c : Start g) → Bounds c.args.ordered.now.m.n c.args.q c.args.q (get_or c.args.next.now c.args.q 0) c.args.triangle.now.at c.args.triangle.now.beside
own-inside c = own-bounds (row-at c.args.ordered.now.lent c.requires.1 refl c.requires.0 refl refl) c.requires.2.1 c.requires.2.2

-- the row at q
row : {g : _} (c : After-values_of-row_values g) → RowAt (held c.args.ordered.now.m) (order_of c.args.ordered.now) c.args.position.now c.args.q c.columns_of-row_columns.result.now c.values_of-row_values.result.now
row c = row-at c.args.ordered.now.lent c.requires.1 refl c.requires.0 c.columns_of-row_columns.ensures c.values_of-row_values.ensures

-- the place of a column's row is one of the tables
turn-inside : {g : _} (c : In-loop-k g) → let p = get_or c.args.position.now (get_or c.columns_of-row_columns.result.now c.loop-k.k 0) 0 in Bounds c.args.ordered.now.m.n c.args.q p (get_or c.loop-k.next p 0) c.loop-k.triangle.at c.loop-k.triangle.beside
turn-inside c =
    let q = c.requires.2 in
    let r = row-at c.args.ordered.now.lent c.requires.1 refl c.requires.0 c.columns_of-row_columns.ensures c.values_of-row_values.ensures in
    turn-bounds r c.loop-k-test.true q.1 (c.loop-k.invariant.0 q.0 q.1 (begun r q.1 q.2))

pub bounds-next-q : goal.bounds-next-q
bounds-next-q g c = let b = own-inside (goal.at.bounds-next-q g c).Start in search rules

pub overflow_cast-triangle : goal.overflow_cast-triangle
overflow_cast-triangle g c = let b = own-inside (goal.at.overflow_cast-triangle g c).Start in search rules

pub bounds-triangle-own : goal.bounds-triangle-own
bounds-triangle-own g c = let b = own-inside (goal.at.bounds-triangle-own g c).Start in search rules

pub bounds-triangle-own-2 : goal.bounds-triangle-own-2
bounds-triangle-own-2 g c = let b = own-inside (goal.at.bounds-triangle-own-2 g c).Start in search rules

pub columns_of-row_columns-requires : goal.columns_of-row_columns-requires
columns_of-row_columns-requires g c = columns_stand c.args.ordered.now.lent c.requires.1 refl

pub values_of-row_values-requires : goal.values_of-row_values-requires
values_of-row_values-requires g c = values_stand c.args.ordered.now.lent c.requires.1 refl

pub bounds-position-column : goal.bounds-position-column
bounds-position-column g c =
    let h = columns-few (row (goal.at.bounds-position-column g c).After-values_of-row_values) c.loop-k.k c.loop-k-test.true in
    search rules

pub loop-k-preserved-then-q-p : goal.loop-k-preserved-then-q-p
loop-k-preserved-then-q-p g c =
    let r = row (goal.at.loop-k-preserved-then-q-p g c).After-values_of-row_values in
    (λ begins parts j. join-past r.ordered r.table parts r.low r.columns_are r.values_are c.loop-k-test.true refl c.if-q-p.true (c.loop-k.invariant.0 begins parts j), c.loop-k.invariant.1)

pub bounds-next-p : goal.bounds-next-p
bounds-next-p g c = let b = turn-inside (goal.at.bounds-next-p g c).In-loop-k in search rules

pub overflow_cast-triangle-in-loop-k : goal.overflow_cast-triangle-in-loop-k
overflow_cast-triangle-in-loop-k g c = let b = turn-inside (goal.at.overflow_cast-triangle-in-loop-k g c).In-loop-k in search rules

pub bounds-triangle-place : goal.bounds-triangle-place
bounds-triangle-place g c = let b = turn-inside (goal.at.bounds-triangle-place g c).In-loop-k in search rules

pub bounds-row_values-k : goal.bounds-row_values-k
bounds-row_values-k g c =
    let q = c.requires.2 in
    let r = row (goal.at.bounds-row_values-k g c).After-values_of-row_values in
    let b = turn r c.loop-k-test.true q.1 (c.loop-k.invariant.0 q.0 q.1 (begun r q.1 q.2)) in
    b.beside_long

pub bounds-triangle-place-in-loop-k : goal.bounds-triangle-place-in-loop-k
bounds-triangle-place-in-loop-k g c = let b = turn-inside (goal.at.bounds-triangle-place-in-loop-k g c).In-loop-k in search rules

pub overflow_add-next : goal.overflow_add-next
overflow_add-next g c =
    let b = turn-inside (goal.at.overflow_add-next g c).In-loop-k in
    omega (arith, b.inside, byte_le (ltb (get_or c.args.position.now (get_or c.columns_of-row_columns.result.now c.loop-k.k 0) 0) c.args.q))

pub bounds-next-p-in-loop-k : goal.bounds-next-p-in-loop-k
bounds-next-p-in-loop-k g c = let b = turn-inside (goal.at.bounds-next-p-in-loop-k g c).In-loop-k in search rules

pub loop-k-preserved : goal.loop-k-preserved
loop-k-preserved g c =
    let r = row (goal.at.loop-k-preserved g c).After-values_of-row_values in
    let f : SFits w32 (get_or c.values_of-row_values.result.now c.loop-k.k (pos 0)) = search rules in (
      λ begins parts j. rw (to_z-of_z {w = w32} {z = get_or c.values_of-row_values.result.now c.loop-k.k (pos 0)} f)
          (turn r c.loop-k-test.true parts (c.loop-k.invariant.0 begins parts j)).after,
      c.loop-k.invariant.1,
    )

pub bounds-next-q-2 : goal.bounds-next-q-2
bounds-next-q-2 g c = let b = own-inside (goal.at.bounds-next-q-2 g c).Start in search rules

pub returns : goal.returns
returns g c =
    let a = c.args.ordered.now in
    let r = row (goal.at.returns g c).After-values_of-row_values in
    let e : c.loop-k.k ≡ length c.columns_of-row_columns.result.now = omega arith in
    let t = c.loop-k.triangle in (
      λ begins parts u.
          let j = subst (λ (k : ℕ). Joined (held a.m) (order_of a) begins c.args.q c.columns_of-row_columns.result.now k c.loop-k.next t.at t.beside) e (c.loop-k.invariant.0 begins parts (begun r parts u)) in
          subst (λ (y : ℕ). Upper (held a.m) (order_of a) begins (c.args.q + 1) (set c.loop-k.next c.args.q (y + 1)) t.at t.beside) (sym (own r parts u).0)
          (join-ended r.ordered r.table parts r.low r.columns_are r.values_are j),
      c.loop-k.invariant.1,
    )
