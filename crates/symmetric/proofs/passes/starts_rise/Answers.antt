use native.Mathlib.Numerals.{add-one}
use Rattle.base.proofs.Found.{found_number, found-numbers}
use Rattle.symmetric.proofs.passes.starts_rise.Goals as goal

pub loop-i-preserved : goal.loop-i-preserved
loop-i-preserved c =
    found_number _ _ c.loop-i.invariant c.loop-i-test.true (rw (add-one c.loop-i.i))

pub returns : goal.returns
returns c = found-numbers _ _ c.loop-i.invariant c.loop-i-test.false
