-- `load` meets its contract: a turn loads two numbers more, and at most one is left then.
use Prim.Native.Nat.{◌-◌}
use Rattle.words.proofs.Blocks.{Loading}
use Rattle.words.proofs.lists.load.Given as goal

abbrev pub invariant-loop-k : goal.invariant-loop-k
invariant-loop-k g l = Loading g.W.Word.of_bytes g.W.Word.WIDTH l.bytes l.initial.out l.count l.out l.k

abbrev pub decreases-loop-k : goal.decreases-loop-k
decreases-loop-k g l = l.count - l.k
