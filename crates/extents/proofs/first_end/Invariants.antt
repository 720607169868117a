-- No end of least to k levels serves.
use Rattle.extents.specs.Extents.{serves}
use Rattle.extents.proofs.FirstEnd.{Seeking}
use Rattle.extents.proofs.first_end.Given as goal

abbrev pub invariant-loop-k : goal.invariant-loop-k
invariant-loop-k l = Seeking (λ e. serves e.load l.share.workers l.share.load l.p) l.loads l.least l.k l.q
