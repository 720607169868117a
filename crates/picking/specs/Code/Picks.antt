-- What a pick by a prepared list needs and keeps beside the machine's step.
use Rattle.std.specs.Prelude.{◌≡◌, false, List, ℕ, ◌*◌, ◌<◌, length, get_or, drop}
use Rattle.plan.specs.Sound.{max_workers}
use Rattle.prepared.specs.Format.{gates_from, tables_of, lists_in}
use Rattle.prepared.specs.Tables.{Tables}
use Rattle.picking.specs.Code.Reads.{shut_at}

-- the tables in a list
abbrev pub tables_in : (list : List ℕ) → Tables
tables_in list = tables_of (lists_in list)

-- the gate of the row that each worker was last seen at is open
abbrev pub Opened : (list : List ℕ) (rows count : ℕ) (made seen : List ℕ) → Type 0
Opened list rows count made seen = (w : ℕ) → w < max_workers → shut_at list (gates_from count) rows (get_or seen w 0) made ≡ false

-- .. of sixteen workers
pub record Seen (list : List ℕ) (rows count : ℕ) (made seen : List ℕ) : Type 0 where
  pub made_long : length made ≡ max_workers
  pub seen_long : length seen ≡ max_workers
  pub opened : Opened list rows count made seen

-- what stands past the sums is as it was
pub record SumsKept (rows : ℕ) (old new : List ℕ) : Type 0 where
  pub long : length new ≡ length old
  pub past : drop (rows * 8) new ≡ drop (rows * 8) old
