-- Entries of a row put one after the other.
use mathlib.Core.Path.{◌≡◌, sym, ap}
use mathlib.Core.Bool.{Bool, cond}
use mathlib.Core.List.{List, [], ◌∷◌}
use Prim.Native.Nat.{ℕ, ◌+◌, ◌≤◌}
use lib.IntN.{ℤ}
use Rattle.market.specs.Parse.{Triplet, triplet}
use Rattle.joined.specs.Code.Rows.{cells_of, Added, Broken}
use Rattle.joined.proofs.Emitting.{added_then, added_same, broken_then, broken_stop, broken_same}
use Rattle.joined.proofs.Cells.{cells-next, cells-split}

module _ (i : ℕ) (passes : ℕ → Bool) (column : ℕ → ℕ) (value : ℕ → ℤ) {es es₁ : List Triplet} (k : ℕ) (e : Added (cells_of i passes column value k) es es₁) {z : ℤ} (v : z ≡ value k) where
  -- one more
  pub turn-next : {es₂ : List Triplet} → Added (cond (passes (column k)) (triplet i (column k) z ∷ []) []) es₁ es₂ → Added (cells_of i passes column value (k + 1)) es es₂
  turn-next f =
      added_same (sym (cells-next i passes column value k))
      (added_then e _ (added_same (ap (λ (z : ℤ). cond (passes (column k)) (triplet i (column k) z ∷ []) []) v) f))

  -- a limit is broken: so it is of all
  pub turn_stop : Broken (cond (passes (column k)) (triplet i (column k) z ∷ []) []) es₁ → (n : ℕ) → k + 1 ≤ n → Broken (cells_of i passes column value n) es
  turn_stop f n l =
      broken_same (sym (cells-split i passes column value (k + 1) n l)) es
      (broken_stop (cells_of i passes column value (k + 1)) es (broken_same (sym (cells-next i passes column value k)) es (broken_then e _ (broken_same (ap (λ (z : ℤ). cond (passes (column k)) (triplet i (column k) z ∷ []) []) v) es₁ f))) _)
