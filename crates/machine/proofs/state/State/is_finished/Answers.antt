use mathlib.Core.Path.{◌≡◌, sym, ap, ◌∙◌}
use native.Mathlib.Omega.{arith}
use borrow.Author.Tests.{le-leb, lt-leb}
use Rattle.machine.specs.Code.Tests.{all_below, done}
use Rattle.machine.proofs.AllBelow.{below_none, below_more, below_fail}
use Rattle.machine.proofs.state.State.is_finished.Goals as goal

pub loop-w-init : goal.loop-w-init
loop-w-init c = below_none _

pub returns-then-self-w : goal.returns-then-self-w
returns-then-self-w c =
    sym (below_fail (done c.args.first c.args.self.made) c.loop-w.w _ c.loop-w-test.true (lt-leb _ _ (rw c.accesses.ensures at c.if-self-w.true)))

pub loop-w-preserved : goal.loop-w-preserved
loop-w-preserved c =
    below_more (done c.args.first c.args.self.made) c.loop-w.w (le-leb _ _ (rw c.accesses.ensures at c.if-self-w.false)) c.loop-w.invariant

pub returns : goal.returns
returns c =
    let all : c.loop-w.w ≡ c.args.workers = omega arith in
    sym c.loop-w.invariant ∙ ap (all_below (done c.args.first c.args.self.made)) all
