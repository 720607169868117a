-- `Wide::touch`: the row, then its columns.
use mathlib.Core.Path.{◌≡◌, refl, sym, ◌∙◌, subst}
use mathlib.Core.Bool.{true≢false}
use mathlib.Core.List.{List}
use Prim.Native.Nat.{ℕ, ◌<◌}
use lib.ListN.{length, get_or}
use Rattle.matrix.specs.Matrix.{columns_of}
use Rattle.matrix.specs.Held.{held}
use Rattle.apart.specs.Code.Marks.{closed, touched_by, Widened}
use Rattle.apart.proofs.RowsOf.{row_is}
use Rattle.apart.proofs.Touching.{touched-append, touched-part}
use Rattle.apart.proofs.reach.WideReach.touch.Goals as goal

pub columns_of-requires : goal.columns_of-requires
columns_of-requires c = c.args.net.now.graph.rows c.args.u c.requires.1

pub touch_each-requires : goal.touch_each-requires
touch_each-requires c =
    let m = held c.args.net.now.m in
    let columns : c.columns_of.result.now ≡ columns_of m c.args.u = c.columns_of.ensures ∙ row_is m c.args.u c.requires.1 in (
      c.if-touch.ensures.after refl,
      subst (λ (zs : List ℕ). (j : ℕ) → j < length zs → get_or zs j 0 < m.n) (sym columns) (λ j h. c.args.net.now.graph.low c.args.u j c.requires.1 h),
    )

pub returns-then-touch : goal.returns-then-touch
returns-then-touch c =
    let m = held c.args.net.now.m in
    let p = c.args.pen in
    let t = c.touch_each in
    let zs = columns_of m c.args.u in
    let columns : c.columns_of.result.now ≡ zs = c.columns_of.ensures ∙ row_is m c.args.u c.requires.1 in
    let rows = subst (λ (l : List ℕ). Widened m p.low p.mine (touched_by m l) c.touch.new.marks t.new.marks t.result) columns t.ensures in
    record { touched = touched-append _ _ (closed m c.args.u) (touched_by m zs) _ _ _ t.result c.if-touch.ensures.touched rows.touched; after = rows.after }

pub returns-else-touch : goal.returns-else-touch
returns-else-touch c =
    let m = held c.args.net.now.m in
    let stop = touched-part _ _ (closed m c.args.u) (touched_by m (columns_of m c.args.u)) _ _ c.if-touch.ensures.touched in
    rw c.if-touch.false (record { touched = stop; after = λ h. absurd (true≢false (sym h)) })
