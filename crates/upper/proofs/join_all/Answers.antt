use mathlib.Core.Path.{◌≡◌, subst, ◌∙◌}
use Prim.Native.Nat.{ℕ}
use native.Mathlib.Omega.{arith}
use Rattle.matrix.specs.Held.{held}
use Rattle.upper.specs.Code.Triangle.{order_of}
use Rattle.upper.specs.Code.Upper.{Upper}
use Rattle.upper.proofs.PartRows.{parts-begun}
use borrow.Author.Rules.{rules}
use Rattle.upper.proofs.join_all.Goals as goal

pub join-requires : goal.join-requires
join-requires g c =
    let parts = parts-begun _ _ _ c.args.ordered.now.lent.ordered c.requires.0 c.requires.1 in
    (search rules, (c.requires.0, c.loop-q-test.true, (_, parts, c.loop-q.invariant.0)))

pub loop-q-preserved : goal.loop-q-preserved
loop-q-preserved g c =
    (c.join.ensures.0 _ (parts-begun _ _ _ c.args.ordered.now.lent.ordered c.requires.0 c.requires.1) c.loop-q.invariant.0, c.join.ensures.1 ∙ c.loop-q.invariant.1)

pub returns : goal.returns
returns g c =
    let a = c.args.ordered.now in
    let e : c.loop-q.q ≡ a.m.n = omega arith in
    let parts = parts-begun _ _ _ a.lent.ordered c.requires.0 c.requires.1 in
    (parts, subst (λ (k : ℕ). Upper (held a.m) (order_of a) c.args.next.now k c.loop-q.next c.loop-q.triangle.at c.loop-q.triangle.beside) e c.loop-q.invariant.0, c.loop-q.invariant.1)
