-- Where the part of a row begins.
use mathlib.Core.List.{List}
use Prim.Native.Nat.{ℕ, ◌≤◌, ◌<◌}
use native.Mathlib.Omega.{arith}
use lib.IntN.{ℤ}
use lib.ListN.{length, get_or, take}
use lib.Seq.{get_or-take}
use Rattle.matrix.specs.Matrix.{Matrix, matrix_of}
use Rattle.matrix.proofs.Matrix.{matrix_facts}
use Rattle.upper.specs.Code.Upper.{Lent}
use Rattle.upper.proofs.PlacedRows.{row_low}
use Rattle.upper.proofs.PartRows.{start-few}

pub record Bounds (n size i first : ℕ) : Type 0 where
  pub few : n ≤ 4096
  pub low : i < n
  pub inside : i < size
  pub early : first ≤ 65536

pub start-bounds : {n : ℕ} {starts columns : List ℕ} {values : List ℤ} {order : List ℕ} → Lent n starts columns values order → {p : ℕ} → p < n
    → Bounds n (length starts) (get_or order p 0) (get_or starts (get_or order p 0) 0)
start-bounds {n} {starts} {columns} {values} {order} g {p} l =
    let m : Matrix = matrix_of n starts columns values in
    let f = matrix_facts m g.ordered.matrix in
    let low : get_or order p 0 < n = rw (get_or-take n order p 0 l) at (row_low m (take n order) g.ordered p l) in
    record { few = f.few; low = low; inside = omega (arith, f.starts_long); early = start-few m g.ordered.matrix (get_or order p 0) low }
