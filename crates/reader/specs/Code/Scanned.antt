-- What the scan of a text comes to, beside the list of its entries.
use Rattle.std.specs.Prelude.{Result, Ok, Err, List, ℕ, ◌≤◌}
use Rattle.matrix.specs.Limits.{max_rows, max_entries}
use Rattle.market.specs.Parse.{Triplet, Parsed, matrix_text, rejected}
use Rattle.base.specs.Verdicts.{number_of}
use Rattle.base.specs.declared.Refusal.{Refusal}

-- what an answer, the count of rows, says of the text, beside the entries
abbrev pub parsed : Result ℕ Refusal → List Triplet → Parsed
parsed (Ok n) es = matrix_text n es
parsed (Err r) es = rejected (number_of r.kind) r.place

-- n rows, m entries and the number of their first line are within limits
pub record Within (n m line : ℕ) : Type 0 where
  pub rows : n ≤ max_rows
  pub count : m ≤ max_entries
  pub lines : line ≤ 1048578
