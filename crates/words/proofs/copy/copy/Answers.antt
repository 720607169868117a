use native.Mathlib.Omega.{arith}
use Rattle.words.proofs.Copies.{copy_more}
use Rattle.words.proofs.copy.copy.Goals as goal

pub loop-k-preserved : goal.loop-k-preserved
loop-k-preserved c = let a = c.args in rw c.loop-k.invariant (copy_more a.to.now a.from.now a.at a.start c.loop-k.k (omega arith))
