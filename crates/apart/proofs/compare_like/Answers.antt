-- `compare_like`: nothing, or the group's stretch.
use mathlib.Core.Path.{◌≡◌, refl, subst}
use mathlib.Core.List.{List}
use Prim.Native.Nat.{ℕ, ◌-◌, ◌/◌}
use native.Mathlib.Omega.{arith}
use lib.ListN.{take, drop}
use borrow.Author.Tests.{eq-eqb, ne_eqb}
use Rattle.matrix.specs.Held.{held}
use Rattle.plan.specs.Groups.{group_of}
use Rattle.plan.specs.Sound.{stretch_of}
use Rattle.apart.specs.Code.Marks.{around, around_like, Compared}
use Rattle.apart.proofs.Stretch.{stretch, part_low, order-low}
use Rattle.apart.proofs.compare_like.Goals as goal

pub returns-then-g-colour : goal.returns-then-g-colour
unfolding around_like
returns-then-g-colour c =
    let a = c.args in
    let d = c.requires.1 in
    rw (ne_eqb a.g.colour a.colour c.if-g-colour.true) (record { free = refl; marked = λ _. record { long = refl; is = λ v. refl }; done = λ _. record { long = d.long; most = λ v. omega (arith, d.below v) } })

pub compare_rows-requires : goal.compare_rows-requires
compare_rows-requires c =
    let s = c.args.subject.now in
    let order = s.plan.order.now in
    (c.requires, part_low s.net.m.n c.min-from.result c.min-to.result order (order-low s.net.m.n order s.shaped.once) (omega (arith, c.min-to.ensures)), s.distance)

pub returns : goal.returns
unfolding around_like stretch_of
returns c =
    let a = c.args in
    let s = a.subject.now in
    let order = s.plan.order.now in
    let m = held s.net.m in
    let rows : take (c.min-to.result - c.min-from.result) (drop c.min-from.result order) ≡ stretch_of (take s.net.m.n order) (group_of a.g)
    = rw (c.min-to.ensures, c.min-from.ensures) (stretch s.net.m.n a.g.start a.g.length order s.shaped.order_long) in
    let t = c.compare_rows in
    rw (eq-eqb a.g.colour a.colour c.if-g-colour.false)
    (subst (λ (l : List ℕ). Compared a.pen.low a.pen.mine (around m (s.k / 2) l) (around m (s.k - s.k / 2) l) a.marks.now t.new.marks t.result) rows t.ensures)
