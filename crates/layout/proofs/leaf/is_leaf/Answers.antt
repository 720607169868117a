-- `leaf::is_leaf` meets its contract: only the next record can be the first child.
use mathlib.Core.Path.{sym, ap, ◌∙◌}
use mathlib.Core.Bool.{not}
use lib.Dec.{eqb}
use Rattle.plan.specs.Groups.{Group}
use Rattle.layout.proofs.NextRecord.{last_none, next-child}
use borrow.Author.Rules.{rules}
use Rattle.layout.proofs.leaf.is_leaf.Goals as goal

pub returns-then-groups-next : goal.returns-then-groups-next
returns-then-groups-next c =
    ap not (sym (last_none _ c.args.groups.now c.requires.0 c.args.i (search rules)))

pub returns : goal.returns
returns c =
    ap not (ap (λ (g : Group). eqb g.parent c.args.i) c.get-h.ensures ∙ sym (next-child _ c.args.groups.now c.requires.0 c.args.i (search rules)))
