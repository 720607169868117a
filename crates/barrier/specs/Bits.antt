-- Sets of workers as numbers: "low byte first, bit 0 for worker 0" (document 02, Q-12).
use Rattle.std.specs.Prelude.{ℕ, ◌/◌, ◌%◌, ◌^◌, Bool, List, ◌==◌}
use Rattle.base.specs.Lists.{range}

-- bit v of a number is set
unfoldable pub has_bit : (number v : ℕ) → Bool
has_bit number v = number / 2 ^ v % 2 == 1

-- the workers that two bytes have bits for
abbrev pub all_workers : List ℕ
all_workers = range 0 16
