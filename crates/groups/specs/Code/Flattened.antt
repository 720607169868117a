-- Structs and a flat list beside them, for the contracts of private functions.
use Rattle.std.specs.Prelude.{◌≡◌, List, ◌++◌, map, ℕ, ◌*◌, min, length, take, drop}
use Rattle.plan.specs.Groups.{width, flat, records, group_of}
use Rattle.plan.specs.Sound.{max_groups}
use Rattle.plan.specs.declared.fields.Group.{Group}
use Rattle.groups.specs.Structs.{of_group}

-- how many of the groups of a slice a plan may have
abbrev pub few : List Group → ℕ
few gs = min max_groups (length gs)

-- the numbers begin with the records of the first so many
pub record Flattened (gs : List Group) (numbers : List ℕ) : Type 0 where
  pub is : take (width * few gs) numbers ≡ flat (map group_of (take (few gs) gs))

-- a slice after the first `count` records of a flat list are written to its front
unfoldable pub gathered : (count : ℕ) (numbers : List ℕ) (gs : List Group) → List Group
gathered count numbers gs = map of_group (records count numbers) ++ drop count gs
