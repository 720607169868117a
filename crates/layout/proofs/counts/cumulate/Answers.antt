use native.Mathlib.Omega.{arith}
use Rattle.layout.proofs.CountRows.{summed_none, next-few, summed_next}
use Rattle.layout.proofs.counts.cumulate.Goals as goal

pub loop-w-init : goal.loop-w-init
loop-w-init c = summed_none _ c.requires.0 c.requires.1

pub overflow_add-first-in-loop-w : goal.overflow_add-first-in-loop-w
overflow_add-first-in-loop-w c = omega (arith, next-few _ c.loop-w-test.true c.loop-w.invariant c.requires.2)

pub loop-w-preserved : goal.loop-w-preserved
loop-w-preserved c = summed_next _ c.loop-w-test.true c.loop-w.invariant
