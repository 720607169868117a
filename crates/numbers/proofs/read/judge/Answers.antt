use Rattle.std.proofs.Common.{◌+◌}
use Rattle.numbers.proofs.read.Told.{number-told}
use Rattle.numbers.proofs.read.Judging.{judging_start, judging_more, judging_fault, judging_judges}
use Rattle.numbers.proofs.read.judge.Goals as goal

pub loop-at-init : goal.loop-at-init
loop-at-init c = judging_start c.args.text.now

pub loop-at-preserved : goal.loop-at-preserved
loop-at-preserved c = judging_more _ c.loop-at.invariant (number-told _ _ _ _ c.in-Ok.ensures)

pub returns-in-Err : goal.returns-in-Err
returns-in-Err c = (c.loop-at.count + 1, judging_fault _ c.loop-at.invariant c.loop-at-test.true c.in-Err.kind c.in-Err.ensures, c.low.ensures)

pub returns : goal.returns
returns c = judging_judges _ c.loop-at.invariant c.loop-at-test.false
