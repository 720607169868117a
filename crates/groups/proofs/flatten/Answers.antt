use mathlib.Core.Path.{◌≡◌, sym, ◌∙◌}
use native.Mathlib.Omega.{arith}
use lib.ListN.{replicate}
use Rattle.plan.specs.Code.Room.{max_fields}
use Rattle.groups.specs.Code.Flattened.{few}
use Rattle.groups.proofs.Flattening.{no_record, one_more}
use Rattle.groups.proofs.flatten.Goals as goal

pub loop-k-init : goal.loop-k-init
loop-k-init c = no_record c.args.groups.now (replicate max_fields 0)

pub loop-k-preserved : goal.loop-k-preserved
loop-k-preserved c = c.put.ensures ∙ rw c.loop-k.invariant (sym (one_more c.args.groups.now c.loop-k.k _ (omega arith)))

pub returns : goal.returns
returns c =
    let e : c.loop-k.k ≡ few c.args.groups.now = omega arith in
    record { is = rw e at c.loop-k.invariant }
