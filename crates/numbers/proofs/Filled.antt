-- The reply of a call that fills one list.
use Rattle.std.proofs.Common.{◌≡◌, ℕ, ◌%◌, ◌^◌, ◌<◌, ◌≤◌, le-leb}
use borrow.Author.Tests.{lt-leb}
use Rattle.base.specs.Refusals as why
use Rattle.base.specs.Replies.{accepted, refused, in_turn}
use Rattle.numbers.specs.Calls.{in32, filled}

-- there is no room, or there is
module _ (needed room low : ℕ) (is : low ≡ needed % 2 ^ 32) where
  pub filled-short : room < needed → refused why.too_short low ≡ filled needed room
  unfolding in32 in_turn
  filled-short h = rw (lt-leb needed room h, is)

  pub filled-fits : needed ≤ room → accepted low ≡ filled needed room
  unfolding in32 in_turn
  filled-fits h = rw (le-leb needed room h, is)
