-- `lay_sizes`: by the whole upper triangle, or by counting.
use native.Mathlib.Omega.{arith}
use Rattle.ahead.proofs.AheadRows.{parts_none}
use Rattle.ahead.proofs.lay_sizes.Goals as goal

pub returns-then-this-eq-MAX_UPDATES : goal.returns-then-this-eq-MAX_UPDATES
returns-then-this-eq-MAX_UPDATES g c =
    let e = c.lay_upper.ensures in
    (e.0, e.1, record { whole = λ l. e.2; none = λ l. absurd (omega (arith, e.2.placed.at_long)) })

pub returns : goal.returns
returns g c =
    let t = c.args.triangle.now in
    let none = parts_none _ _ c.args.ordered.now.lent.ordered.matrix t.lengths.0 c.requires.0 c.requires.1 (omega (arith, t.lengths.1, t.some)) in
    (c.sizes_of.ensures.0, c.sizes_of.ensures.1, record { whole = λ l. absurd (omega (arith, t.lengths.1)); none = λ l. none })
