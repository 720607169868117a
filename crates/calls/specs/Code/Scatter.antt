-- The sums in the places of their rows.
use Rattle.std.specs.Prelude.{◌≡◌, List, ℕ, ◌≤◌, ◌<◌, length, get_or, ℤ, pos}

-- new has the sums of the first k positions at the rows there, and from place n on it is as old
pub record Scattered (k n : ℕ) (order : List ℕ) (sums old new : List ℤ) : Type 0 where
  pub long : length new ≡ length old
  pub is : (p : ℕ) → p < k → get_or new (get_or order p 0) (pos 0) ≡ get_or sums p (pos 0)
  pub rest : (v : ℕ) → n ≤ v → get_or new v (pos 0) ≡ get_or old v (pos 0)
