-- `Tables::see`: the columns passed are marked.
use mathlib.Core.Path.{◌≡◌}
use lib.ListN.{take}
use Rattle.base.specs.Lists.{is_in}
use Rattle.joined.specs.Code.Rows.{Seen}
use Rattle.joined.proofs.tables.Tables.see.Given as goal

abbrev pub invariant-loop-k : goal.invariant-loop-k
invariant-loop-k l =
    Seen l.turn (is_in (take l.k l.row.columns.now)) l.self.seen × (l.self.marks ≡ l.initial.self.marks) × (l.self.held ≡ l.initial.self.held) × (l.self.turn ≡ l.turn)
