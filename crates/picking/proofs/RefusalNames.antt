-- What the proof of `pick::refusal` names.
use Prim.Native.Nat.{ℕ, ◌<◌}

-- worker w is one of the crew, and has an access left
pub record Left (w crew made most : ℕ) : Type 0 where
  pub worker : w < crew
  pub left : made < most
