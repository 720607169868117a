-- What the records that the code holds say of waits: of all records in its list.
use Rattle.std.specs.Prelude.{Bool, List, ℕ, ◌/◌, length}
use Rattle.plan.specs.Groups.{width}
use Rattle.waits.specs.declared.records.Records.{Records}
use Rattle.waits.specs.Code.Waits.{OpenReds, Passed, Blocks, Ahead, Current}

-- how many there are
abbrev pub size_of : Records → ℕ
size_of r = length r.groups.now / width

abbrev pub OpenBy : Records → (made : List ℕ) (reds : List Bool) → Type 0
OpenBy r = OpenReds (size_of r) r.groups.now r.ends.now

abbrev pub PassedBy : Records → (reds blocks : List Bool) → Type 0
PassedBy r = Passed (size_of r) r.groups.now

abbrev pub BlocksBy : Records → (made : List ℕ) (blocks : List Bool) → Type 0
BlocksBy r = Blocks (size_of r) r.groups.now r.ends.now

abbrev pub AheadBy : Records → (made stops : List ℕ) → Type 0
AheadBy r = Ahead (size_of r) r.groups.now r.ends.now

abbrev pub CurrentBy : Records → (made : List ℕ) (blocks : List Bool) (stops : List ℕ) → Type 0
CurrentBy r = Current (size_of r) r.groups.now r.ends.now
