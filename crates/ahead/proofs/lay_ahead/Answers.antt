use mathlib.Core.Path.{◌≡◌, refl}
use native.Mathlib.Omega.{arith}
use Rattle.ahead.proofs.AheadRows.{workers_more, serving_start, serving_done, upper_ahead}
use borrow.Author.Rules.{rules}
use Rattle.ahead.proofs.lay_ahead.Goals as goal

-- the whole upper triangle is there
pub returns-then-this-eq-MAX_UPDATES : goal.returns-then-this-eq-MAX_UPDATES
returns-then-this-eq-MAX_UPDATES g c =
    let long = c.args.triangle.now.lengths.1 in
    (λ r. upper_ahead c.requires.1.1.row_low (c.requires.0.whole (omega arith)), λ e. refl)

pub loop-w-init : goal.loop-w-init
loop-w-init g c = (search rules, λ h. serving_start h)

pub loop-w-preserved : goal.loop-w-preserved
loop-w-preserved g c =
    let e = c.in-Some.ensures in (
      e.0,
      λ h.
          let s = c.loop-w.invariant.1 h in
          let r = e.1 s.rows s.laid in
          record { rows = r.0; reached = workers_more s.reached r.1 refl (λ q a b. omega (arith, a, b, c.min-to.ensures)); laid = r.2 },
    )

pub returns : goal.returns
returns g c =
    let e : c.loop-w.w ≡ 16 = omega arith in
    let long = c.args.triangle.now.lengths.1 in
    let none = c.requires.0.none (omega (arith, c.args.triangle.now.most)) in
    (λ r. serving_done (rw e at (c.loop-w.invariant.1 none)), λ y. absurd (omega arith))
