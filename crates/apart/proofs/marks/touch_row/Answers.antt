-- `marks::touch_row`: the row itself, then its columns.
use mathlib.Core.Path.{◌≡◌, sym, ◌∙◌, subst}
use mathlib.Core.List.{List, [], ◌∷◌}
use Prim.Native.Nat.{ℕ, ◌<◌}
use native.Mathlib.Omega.{arith}
use lib.ListN.{length, get_or}
use Rattle.matrix.specs.Matrix.{columns_of}
use Rattle.matrix.specs.Held.{held}
use Rattle.apart.specs.Code.Marks.{Touched}
use Rattle.apart.proofs.RowsOf.{row_is}
use Rattle.apart.proofs.Touching.{touched-append, touched-part}
use Rattle.apart.proofs.marks.touch_row.Goals as goal

pub touch-requires : goal.touch-requires
touch-requires c = omega (arith, c.requires, c.args.net.now.graph.few)

pub returns-then-not-touch : goal.returns-then-not-touch
returns-then-not-touch c = touched-part _ _ (c.args.u ∷ []) (columns_of (held c.args.net.now.m) c.args.u) _ _ (c.if-not-touch.ensures)

pub columns_of-requires : goal.columns_of-requires
columns_of-requires c = c.args.net.now.graph.rows c.args.u c.requires

pub touch_all-requires : goal.touch_all-requires
touch_all-requires c =
    let m = held c.args.net.now.m in
    let columns : c.columns_of.result.now ≡ columns_of m c.args.u = c.columns_of.ensures ∙ row_is m c.args.u c.requires in
    let low = subst (λ (zs : List ℕ). (j : ℕ) → j < length zs → get_or zs j 0 < m.n) (sym columns) (λ j h. c.args.net.now.graph.low c.args.u j c.requires h) in
    λ j l. omega (arith, low j l, c.args.net.now.graph.few)

pub returns : goal.returns
returns c =
    let m = held c.args.net.now.m in
    let t = c.touch_all in
    let columns : c.columns_of.result.now ≡ columns_of m c.args.u = c.columns_of.ensures ∙ row_is m c.args.u c.requires in
    touched-append _ _ (c.args.u ∷ []) (columns_of m c.args.u) _ _ _ t.result (c.if-not-touch.ensures)
    (subst (λ (l : List ℕ). Touched c.args.pen.low c.args.pen.mine l c.touch.new.marks t.new.marks t.result) columns t.ensures)
