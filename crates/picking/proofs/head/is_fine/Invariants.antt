-- `is_fine` meets its contract: the workers below w pass.
use mathlib.Core.Path.{◌≡◌}
use mathlib.Core.Bool.{true}
use Rattle.machine.specs.Code.Tests.{all_below}
use Rattle.picking.specs.Code.Picks.{tables_in}
use Rattle.picking.proofs.Heads.{is_fine}
use Rattle.picking.proofs.head.is_fine.Given as goal

abbrev pub invariant-loop-w : goal.invariant-loop-w
invariant-loop-w l = all_below (is_fine (tables_in l.list) l.made) l.w ≡ true
