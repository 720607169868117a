-- Document 01's texts, both ways, and the matrix of their entries.
use Rattle.market.specs.Parse.{parse}
use Rattle.market.specs.FullRows.{read_matrix}
use Rattle.market.specs.Texts.{Lines, entries_of, text_of_lines, Allowed, SameEntries, Texts}
use Rattle.market.proofs.Accepted.{parse-accepted}
use Rattle.market.proofs.LinesRead.{read}
use Rattle.market.proofs.LinesTaken.{only-lines}
use Rattle.market.proofs.LineEntries.{same_entries}

module _ (t : Lines) (a : Allowed t) where
  read-entries : SameEntries (read_matrix (parse (text_of_lines t))) t.n (entries_of t)
  unfolding read_matrix
  read-entries = rw (read t a) (same_entries (parse-accepted (text_of_lines t) t.n (entries_of t) (read t a)))

-- the theorem
pub texts : Texts
texts = record { read = read; only = only-lines; matrix = read-entries }
