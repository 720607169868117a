-- The rows of a list touch theirs, row after row, each with what is then done.
use mathlib.Core.Path.{◌≡◌, sym, subst}
use mathlib.Core.Bool.{Bool, true, false, true≢false}
use mathlib.Core.List.{List, map}
use Prim.Native.Nat.{ℕ, ◌+◌, ◌≤◌, ◌<◌}
use native.Mathlib.Omega.{arith}
use lib.ListN.{length, get_or, take}
use lib.Seq.{take_all}
use Rattle.base.specs.Lists.{concat}
use Rattle.matrix.specs.Matrix.{Matrix}
use Rattle.apart.specs.declared.marks.Marks.{Marks}
use Rattle.apart.specs.Code.Marks.{Touched, Opened, Widened}
use Rattle.apart.proofs.Touching.{touched_none, touched-all-next, touched-all-stops}

-- the first j rows have touched theirs, f of each
pub record Widening (m : Matrix) (low mine : ℕ) (f : ℕ → List ℕ) (rows : List ℕ) (first s : Marks) (j : ℕ) : Type 0 where
  pub touched : Touched low mine (concat (map f (take j rows))) first.given s.given true
  pub opened : Opened m mine s
  pub within : j ≤ length rows

-- once as many rows as there are, or more, are touched, all are
pub widened_rows : {m : Matrix} {low mine : ℕ} (f : ℕ → List ℕ) (rows : List ℕ) {first s : Marks} {j : ℕ} → Touched low mine (concat (map f (take j rows))) first.given s.given true
    → Opened m mine s → length rows ≤ j → Widened m low mine (concat (map f rows)) first s true
widened_rows {low = low} {mine = mine} f rows {first} {s} {j} t o l = record {
  touched = subst (λ (xs : List ℕ). Touched low mine (concat (map f xs)) first.given s.given true) (take_all j rows l) t;
  after = λ _. o;
}

module _ {m : Matrix} {low mine : ℕ} {f : ℕ → List ℕ} {rows : List ℕ} {first : Marks} where
  pub widening_start : Opened m mine first → Widening m low mine f rows first first 0
  widening_start o = record { touched = touched_none low mine first.given; opened = o; within = omega arith }

  module _ {s : Marks} {j : ℕ} (w : Widening m low mine f rows first s j) where
    module _ (l : j < length rows) {s' : Marks} {r : Bool} (t : Widened m low mine (f (get_or rows j 0)) s s' r) where
      row : (b : Bool) → r ≡ b → Touched low mine (f (get_or rows j 0)) s.given s'.given b
      row b q = subst (λ (c : Bool). Touched low mine (f (get_or rows j 0)) s.given s'.given c) q t.touched

      -- one row stops: all of them are stopped
      pub widening_stops : r ≡ false → Widened m low mine (concat (map f rows)) first s' false
      widening_stops q = record { touched = touched-all-stops low mine rows j l f first.given s.given s'.given w.touched (row false q); after = λ h. absurd (true≢false (sym h)) }

      pub widening_next : r ≡ true → Widening m low mine f rows first s' (j + 1)
      widening_next q = record { touched = touched-all-next low mine rows j l f first.given s.given s'.given true w.touched (row true q); opened = t.after q; within = omega arith }

    pub widening_end : length rows ≤ j → Widened m low mine (concat (map f rows)) first s true
    widening_end = widened_rows f rows w.touched w.opened
