-- What the proof of `parts::part_sizes` names.
use mathlib.Core.Path.{◌≡◌}
use mathlib.Core.List.{List}
use Prim.Native.Nat.{ℕ, ◌-◌, ◌≤◌, ◌<◌}
use lib.ListN.{length, get_or}

-- the positions before p have their sizes, the others their ends
pub record Sized (parts old : List ℕ) (p : ℕ) (new : List ℕ) : Type 0 where
  pub long : length new ≡ length old
  pub done : (r : ℕ) → r < p → get_or new r 0 ≡ get_or old r 0 - get_or parts r 0
  pub left : (r : ℕ) → p ≤ r → get_or new r 0 ≡ get_or old r 0
