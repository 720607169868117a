-- `ready_bits`: the bits of the workers below w.
use mathlib.Core.Path.{◌≡◌}
use lib.Dec.{eqb}
use Rattle.run.specs.Machine.{bits}
use Rattle.machine.proofs.ReadyBits.{passing}
use Rattle.prepared.specs.Tables.{refusal_by}
use Rattle.picking.specs.Code.Picks.{tables_in}
use Rattle.picking.proofs.walk.ready_bits.Given as goal

abbrev pub invariant-loop-w : goal.invariant-loop-w
invariant-loop-w l = l.set ≡ bits (passing (λ v. eqb (refusal_by (tables_in l.list) l.made v) 0) l.w)
