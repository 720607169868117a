-- `EntryList::lend` meets its contract: the first places of each array.
use Rattle.compress.proofs.entries.Listed.{listed_rows}
use Rattle.compress.proofs.rows.Cut.{triplets_cut, entries_cut}
use Rattle.compress.proofs.entries.EntryList.lend.Goals as goal

pub invariant_of-result : goal.invariant_of-result
invariant_of-result c =
    let l = c.args.self.now in
    record { placed = entries_cut l.count l.rows l.columns l.values (listed_rows l c.args.n c.requires) }

pub returns-clause-entries : goal.returns-clause-entries
returns-clause-entries c =
    let l = c.args.self.now in
    triplets_cut l.count l.rows l.columns l.values (listed_rows l c.args.n c.requires)
