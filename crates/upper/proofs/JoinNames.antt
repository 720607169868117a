-- The numbers of a turn of `join`, inside the tables.
use mathlib.Core.Path.{◌≡◌, refl, sym, subst}
use mathlib.Core.List.{List}
use Prim.Native.Nat.{ℕ, ◌≤◌, ◌<◌}
use native.Mathlib.Omega.{arith}
use lib.ListN.{length, get_or, set}
use lib.IntN.{ℤ, pos}
use Rattle.matrix.specs.Matrix.{Matrix}
use Rattle.upper.specs.Code.Upper.{Parts, Upper}
use Rattle.upper.specs.Code.Row.{RowAt}
use Rattle.upper.proofs.RowParts.{few-rows}
use Rattle.upper.proofs.JoinRows.{Joined, Turn, join-turn, own-next, join-begun}

-- the numbers of a part: of q's own, or of one before it; its next place is one of the tables
pub record Bounds (n q p place : ℕ) (at : List ℕ) (beside : List ℤ) : Type 0 where
  pub few : n ≤ 4096
  pub here : q < n
  pub low : p < n
  pub inside : place < 69632
  pub at-inside : place < length at
  pub beside-inside : place < length beside

module _ {m : Matrix} {order position : List ℕ} {q : ℕ} {cs : List ℕ} {vs : List ℤ} (r : RowAt m order position q cs vs) where
  -- of q's own, which is empty
  module _ {begins next at : List ℕ} {beside : List ℤ} (parts : Parts m order begins) (u : Upper m order begins q next at beside) where
    pub own : (get_or next q 0 ≡ get_or begins q 0) × (get_or begins q 0 < 69632)
    own = own-next r.ordered r.table parts r.low r.columns_are r.values_are u

    pub own-bounds : Bounds m.n q q (get_or next q 0) at beside
    own-bounds = record { few = few-rows r; here = r.low; low = r.low; inside = omega (arith, own); at-inside = omega (arith, own, u.at_long); beside-inside = omega (arith, own, u.beside_long) }

    -- the diagonal entry stands, and no column has been treated
    pub begun : Joined m order begins q cs 0 next (set at (get_or next q 0) q) (set beside (get_or next q 0) (pos 0))
    begun = subst (λ (y : ℕ). Joined m order begins q cs 0 next (set at y q) (set beside y (pos 0))) (sym own.0) (join-begun r.ordered r.table parts r.low r.columns_are r.values_are u)

  -- one column more
  module _ {k : ℕ} (l : k < length cs) {begins next at : List ℕ} {beside : List ℤ} (parts : Parts m order begins) (j : Joined m order begins q cs k next at beside) where
    pub turn : Turn m order begins q cs vs k (get_or position (get_or cs k 0) 0) next at beside
    turn = join-turn r.ordered r.table parts r.low r.columns_are r.values_are l refl j

    pub turn-bounds : Bounds m.n q (get_or position (get_or cs k 0) 0) (get_or next (get_or position (get_or cs k 0) 0) 0) at beside
    turn-bounds = record {
      few = few-rows r;
      here = r.low;
      low = turn.inside;
      inside = turn.place;
      at-inside = omega (arith, turn.place, j.placed.at_long);
      beside-inside = omega (arith, turn.place, j.placed.beside_long);
    }
