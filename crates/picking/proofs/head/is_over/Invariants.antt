-- `is_over` meets its contract: the workers below w pass.
use mathlib.Core.Path.{◌≡◌}
use mathlib.Core.Bool.{true}
use Rattle.machine.specs.Code.Tests.{all_below}
use Rattle.picking.specs.Code.Picks.{tables_in}
use Rattle.picking.proofs.Heads.{made_all}
use Rattle.picking.proofs.head.is_over.Given as goal

abbrev pub invariant-loop-w : goal.invariant-loop-w
invariant-loop-w l = all_below (made_all (tables_in l.list) l.made) l.w ≡ true
