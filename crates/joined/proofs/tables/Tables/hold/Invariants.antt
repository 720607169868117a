-- `Tables::hold`: the columns passed are held.
use mathlib.Core.Path.{◌≡◌}
use lib.ListN.{take}
use Rattle.base.specs.Lists.{position_of}
use Rattle.matrix.specs.Matrix.{lookup}
use Rattle.joined.specs.Code.Rows.{Held}
use Rattle.joined.proofs.tables.Tables.hold.Given as goal

abbrev pub invariant-loop-k : goal.invariant-loop-k
invariant-loop-k l =
    Held l.turn (λ c. lookup (position_of l.row.places.now c) (take l.k l.row.columns.now) (take l.k l.row.values.now)) l.self.marks l.self.held × (l.self.seen ≡ l.initial.self.seen) × (l.self.turn ≡ l.turn)
