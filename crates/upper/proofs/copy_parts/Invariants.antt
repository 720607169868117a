-- `copy_parts` meets its contract: p places are copied.
use mathlib.Core.Path.{◌≡◌}
use Rattle.base.proofs.Stored.{copied}
use Rattle.upper.proofs.copy_parts.Given as goal

abbrev pub invariant-loop-p : goal.invariant-loop-p
invariant-loop-p l = l.sizes ≡ copied l.parts l.initial.sizes l.p
