-- `store_updates` meets its contract: k updates are stored.
use Rattle.preparing.specs.Code.Filled.{update_number}
use Rattle.preparing.proofs.Fills.{Filling, update_of, update-long}
use Rattle.preparing.proofs.fill.store_updates.Given as goal

abbrev pub invariant-loop-k : goal.invariant-loop-k
invariant-loop-k l =
    Filling (update_of (update_number l.tables.row.now l.tables.begins.now l.entries.parts.now l.displaced l.entries.at.now l.entries.beside.now)) 16 (update-long (update_number l.tables.row.now l.tables.begins.now l.entries.parts.now l.displaced l.entries.at.now l.entries.beside.now)) l.initial.out l.from l.count l.out l.k
