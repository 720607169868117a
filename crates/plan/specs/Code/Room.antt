-- Room for the records of every plan.
use Rattle.std.specs.Prelude.{ℕ, ◌*◌}
use Rattle.plan.specs.Groups.{width}
use Rattle.plan.specs.Sound.{max_groups}

-- .. and as many numbers in a flat list
abbrev pub max_fields : ℕ
max_fields = max_groups * width
