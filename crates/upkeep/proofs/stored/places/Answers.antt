-- `places`: the entry's place, and its mirror's, which is stored too.
use Rattle.base.proofs.Booleans.{clash}
use Rattle.matrix.specs.Held.{held}
use Rattle.matrix.proofs.Checks.{matrix_tidy}
use Rattle.matrix.proofs.Matrix.{column-low}
use Rattle.upkeep.proofs.Altering.{none-past}
use Rattle.upkeep.proofs.Positioned.{mirror-named}
use Rattle.upkeep.proofs.stored.places.Goals as goal

pub returns-then-m-i : goal.returns-then-m-i
returns-then-m-i c = none-past (held c.args.m.now) c.args.i c.args.j c.if-m-i.true

pub place-requires : goal.place-requires
place-requires c = ((matrix_tidy _ c.requires).shape, c.if-m-i.false)

pub place-requires-2 : goal.place-requires-2
place-requires-2 c = ((matrix_tidy _ c.requires).shape, column-low (held c.args.m.now) c.requires c.args.i c.args.j c.in_ok-p.ensures.0)

pub returns-in_err-q : goal.returns-in_err-q
returns-in_err-q c =
    rw c.from_residual-in_err-q.ensures (absurd (clash (mirror-named (held c.args.m.now) c.requires c.args.i c.args.j c.in_ok-p.ensures.0) c.in_err-q.ensures))
