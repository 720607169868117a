-- What the code needs of a row of a leaf, to put its updates.
use mathlib.Core.Path.{◌≡◌}
use mathlib.Core.List.{List}
use Prim.Native.Nat.{ℕ, ◌+◌, ◌*◌, ◌≤◌, ◌<◌}
use native.Mathlib.Omega.{arith}
use lib.ListN.{get_or}
use Rattle.run.specs.Job.{Job}
use Rattle.tables.specs.Code.Laid.{next_of}
use Rattle.layout.specs.Code.UpdateTable.{Sized, Stretch, Filled}
use Rattle.layout.proofs.CountRows.{row_fits}

pub record Fits (i p size next : ℕ) : Type 0 where
  pub leaf : i < 512
  pub few : p < 4096
  pub some : 1 ≤ size
  pub room : next + 2 * size ≤ 69633

pub put-fits : {j : Job} {sizes : List ℕ} (t : Sized j sizes) {i w s e : ℕ} (h : Stretch j i w s e) {p : ℕ} → s ≤ p → p < e
    → {next : ℕ} {row begins leaves : List ℕ} → (next ≡ next_of j w p) × Filled j p row begins leaves → Fits i p (get_or sizes p 0) next
put-fits t h {p} a b u =
    let f = row_fits t h p a b in
    record { leaf = h.record_low; few = f.few; some = f.some; room = omega (arith, f.room_for, u.0) }
