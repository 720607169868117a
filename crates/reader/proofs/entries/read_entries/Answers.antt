-- `read_entries` meets its contract: what is left of the text decides, after the lines that rise.
use mathlib.Core.Path.{sym, ◌∙◌}
use native.Mathlib.Omega.{arith}
use Rattle.compress.specs.Code.Entries.{listed}
use Rattle.compress.proofs.entries.Listed.{length_listed}
use Rattle.reader.proofs.entries.read_entries.Goals as goal

pub returns : goal.returns
returns c =
    let l = c.read_sorted-reached.new.list in
    sym c.read_sorted-reached.ensures.same ∙ c.ended.ensures (listed l) (omega (arith, length_listed l, c.read_sorted-reached.ensures.held.count, c.if-list-size.false))
