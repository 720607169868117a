-- `store` meets its contract: a turn stores one number more.
use Rattle.words.proofs.Blocks.{Storing}
use Rattle.words.proofs.lists.store.Given as goal

abbrev pub invariant-loop-k : goal.invariant-loop-k
invariant-loop-k g l = Storing g.W.Word.to_bytes g.W.Word.WIDTH g.met.W.Word.size l.numbers l.initial.bytes l.k-end l.bytes l.k
