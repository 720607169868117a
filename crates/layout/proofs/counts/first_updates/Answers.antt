-- `counts::first_updates` meets its contract: the records are cut from the list; the numbers by them, then their sums.
use Rattle.layout.proofs.CountRows.{numbers-few, counted_of}
use Rattle.layout.proofs.PlannedCut.{planned-cut}
use Rattle.layout.proofs.counts.first_updates.Goals as goal

pub count_updates-requires : goal.count_updates-requires
count_updates-requires c = let s = c.requires in (s.0, planned-cut s.1)

pub cumulate-requires : goal.cumulate-requires
cumulate-requires c =
    let s = c.requires in
    let t = c.count_updates.ensures s.0 (planned-cut s.1) in
    (t.long, t.none, numbers-few t s.1.sized.accepted)

pub returns : goal.returns
returns c j g = counted_of (c.count_updates.ensures j (planned-cut g)) c.cumulate.ensures
