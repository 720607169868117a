-- `store_head` meets its contract.
use mathlib.Core.Path.{ap, ◌∙◌}
use mathlib.Core.List.{List}
use Prim.Native.Nat.{ℕ}
use lib.Seq.{sets}
use Rattle.run.specs.Job.{workers}
use Rattle.words.specs.LittleEndian.{unsigned_bytes}
use Rattle.preparing.proofs.Lists.{head_is}
use Rattle.preparing.proofs.store_head.Goals as goal

pub returns : goal.returns
unfolding workers
returns c =
    λ j k e w.
    (let a = c.args in
    c.store_numbers.ensures ∙ ap (λ (l : List ℕ). sets a.out.now 0 (unsigned_bytes 4 l)) (head_is j k c.head_numbers-head.result (rw (← e, ← w) c.head_numbers-head.ensures)))
