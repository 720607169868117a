-- Bytes put into a text before a place.
use Rattle.std.specs.Prelude.{◌≡◌, ℕ, ◌+◌, List, ◌++◌, length, drop}

-- xs stands from r on up to end, and what comes after it is as it was
pub record PutBefore (xs : List ℕ) (end r : ℕ) (old new : List ℕ) : Type 0 where
  pub begins : r + length xs ≡ end
  pub long : length new ≡ length old
  pub text : drop r new ≡ xs ++ drop end old
