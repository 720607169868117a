-- What every exported call returns, and what it leaves in a list that it fills.
use Rattle.std.specs.Prelude.{◌≡◌, List, ℕ, ◌+◌, ◌*◌, ◌^◌}
use Rattle.base.specs.Replies.{Reply, accepted, refused, lent}

-- the refusal's number in the high 32 bits and its place in the low ones; an accepted call's count, with number 0
unfoldable pub word : Reply → ℕ
word (accepted count) = count
word (refused number place) = number * 2 ^ 32 + place

-- a call that fills one list with the answer's bytes: what it returns, and the list after it
pub record Answered (reply : Reply) (answer old : List ℕ) (returned : ℕ) (new : List ℕ) : Type 0 where
  pub returns : returned ≡ word reply
  pub leaves : new ≡ lent reply answer old
