-- The counts of a file.
use Rattle.std.specs.Prelude.{◌≡◌, true, false, List, ℕ, ◌+◌, ◌*◌, Option, Some, None, Result, Ok, Err}
use Rattle.base.specs.Replies.{accepted, refused}
use Rattle.base.specs.Verdicts.{number_of}
use Rattle.base.specs.declared.Refusal.{Refusal}
use Rattle.planfile.specs.declared.contents.Counts.{Counts}
use Rattle.planfile.specs.File.{file_size, is_sized, freedoms_in, groups_in, is_file}
use Rattle.planfile.specs.Calls.{write_plan_reply, read_plan_reply}

-- these, if a file can carry as many
abbrev pub IsCounted : (rows groups : ℕ) → Option Counts → Type 0
IsCounted rows groups None = is_sized rows groups ≡ false
IsCounted rows groups (Some c) = (is_sized rows groups ≡ true) × (c.rows ≡ rows) × (c.groups ≡ groups)

-- those in the table of bytes, if these are a file
abbrev pub IsJudged : (file : List ℕ) → Option Counts → Type 0
IsJudged file None = is_file file ≡ false
IsJudged file (Some c) = (is_file file ≡ true) × (c.rows ≡ freedoms_in file) × (c.groups ≡ groups_in file)

-- .. if there is room for what is read, or why not
abbrev pub IsReadable : (file order groups : List ℕ) → Result Counts Refusal → Type 0
IsReadable file order groups (Ok c) = (c.rows ≡ freedoms_in file) × (c.groups ≡ groups_in file) × (read_plan_reply file order groups ≡ accepted (c.rows + 65536 * c.groups))
IsReadable file order groups (Err r) = read_plan_reply file order groups ≡ refused (number_of r.kind) r.place

-- .. for what is written
abbrev pub IsWritable : (n : ℕ) (order groups : List ℕ) (count room : ℕ) → Result Counts Refusal → Type 0
IsWritable n order groups count room (Ok c) = (c.rows ≡ n) × (c.groups ≡ count) × (write_plan_reply n order groups count room ≡ accepted (file_size n count))
IsWritable n order groups count room (Err r) = write_plan_reply n order groups count room ≡ refused (number_of r.kind) r.place
