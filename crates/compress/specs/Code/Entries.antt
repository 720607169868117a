-- The entries that the code's lists hold.
use Rattle.std.specs.Prelude.{List, length}
use Rattle.market.specs.Parse.{Triplet}
use Rattle.compress.specs.Code.Arrays.{triplets_of}
use Rattle.compress.specs.declared.entries.Entries.{Entries}
use Rattle.compress.specs.declared.entries.EntryList.{EntryList}

abbrev pub triplets : Entries → List Triplet
triplets e = triplets_of (length e.rows.now) e.rows.now e.columns.now e.values.now

abbrev pub listed : EntryList → List Triplet
listed l = triplets_of l.count l.rows l.columns l.values
