-- What the code needs of a row of a leaf, to count its updates.
use mathlib.Core.Path.{◌≡◌}
use mathlib.Core.List.{List}
use Prim.Native.Nat.{ℕ, ◌+◌, ◌*◌, ◌≤◌, ◌<◌}
use native.Mathlib.Omega.{arith}
use lib.ListN.{length, get_or}
use Rattle.run.specs.Job.{Job}
use Rattle.run.specs.Updates.{up_to}
use Rattle.layout.specs.Code.UpdateTable.{Sized, Stretch}
use Rattle.layout.proofs.CountRows.{row_fits}

pub record Fits (p size updates : ℕ) : Type 0 where
  pub few : p < 4096
  pub some : 1 ≤ size
  pub room : updates + 2 * size ≤ 69633

pub updates-fit : {j : Job} {sizes : List ℕ} (t : Sized j sizes) {i w s e : ℕ} (h : Stretch j i w s e) {p : ℕ} → s ≤ p → p < e
    → {updates : ℕ} → length (up_to j w s) + updates ≡ length (up_to j w p) → Fits p (get_or sizes p 0) updates
updates-fit t h {p} a b m = let f = row_fits t h p a b in record { few = f.few; some = f.some; room = omega (arith, f.room_for, m) }
