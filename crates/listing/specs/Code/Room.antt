-- Room for what is written.
use Rattle.std.specs.Prelude.{ℕ, ◌+◌, ◌*◌}
use Rattle.matrix.specs.Limits.{max_rows}
use Rattle.plan.specs.Groups.{width}
use Rattle.plan.specs.Sound.{max_groups}

-- a number takes at most 10 bytes, and the space or line feed beside it 1; so a refusal's line
abbrev pub max_number : ℕ
max_number = 11

abbrev pub max_refusal : ℕ
max_refusal = 8 + 2 * max_number

-- .. a group's line, with its index
abbrev pub max_line : ℕ
max_line = max_number * (width + 1)

-- the word `order` with its line feed, and the title line
abbrev pub titles : ℕ
titles = 59

-- what it writes is never longer: an order line, the title line and the group lines
abbrev pub max_output : ℕ
max_output = titles + max_number * max_rows + max_line * max_groups
