-- `EntryList::push` meets its contract: the next place of each array is written.
use native.Mathlib.Omega.{arith}
use mir.Facts.{to_z-of_z}
use Rattle.compress.proofs.entries.Listed.{triplets_more}
use Rattle.compress.proofs.entries.EntryList.push.Goals as goal

pub returns-clause-entries : goal.returns-clause-entries
returns-clause-entries c =
    let l = c.args.self.now in
    simp (to_z-of_z c.ranges.value) (triplets_more l.count c.args.row c.args.column c.args.value l.rows l.columns l.values (omega (arith, l.long.rows, c.requires)) (omega (arith, l.long.columns, c.requires)) (omega (arith, l.long.values, c.requires)))
