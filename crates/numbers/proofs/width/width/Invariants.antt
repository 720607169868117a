-- `width` meets its contract: a turn counts four digits.
use Rattle.std.proofs.Common.{◌≡◌, ◌+◌, ◌^◌, ◌<◌, length}
use Rattle.market.specs.Text.{decimal}
use Rattle.numbers.proofs.width.width.Given as goal

abbrev pub invariant-loop-x : goal.invariant-loop-x
invariant-loop-x l = (l.x < 10 ^ 19) × (l.digits + length (decimal 19 l.x) ≡ length (decimal 19 l.v) + 1)

abbrev pub decreases-loop-x : goal.decreases-loop-x
decreases-loop-x l = l.x
