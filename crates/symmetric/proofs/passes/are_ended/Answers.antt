use mathlib.Core.Path.{refl}
use Rattle.base.proofs.Found.{found_number, found-numbers}
use Rattle.symmetric.proofs.passes.are_ended.Goals as goal

pub loop-i-preserved : goal.loop-i-preserved
loop-i-preserved c =
    found_number _ _ c.loop-i.invariant c.loop-i-test.true refl

pub returns : goal.returns
returns c = found-numbers _ _ c.loop-i.invariant c.loop-i-test.false
