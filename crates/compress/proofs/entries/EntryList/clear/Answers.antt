-- `EntryList::clear` meets its contract.
use Rattle.compress.proofs.entries.Listed.{triplets_none}
use Rattle.compress.proofs.entries.EntryList.clear.Goals as goal

pub returns : goal.returns
returns c = triplets_none _ _ _
