-- The forces of the joined net: the first net's, and the second's moved to their places.
use mathlib.Core.Path.{◌≡◌, refl, sym, ap, ap₂, ◌∙◌}
use mathlib.Core.Bool.{Bool, true, false, cond}
use mathlib.Core.List.{List}
use Prim.Native.Nat.{ℕ, ◌≤◌, ◌<◌}
use native.Mathlib.Omega.{arith}
use lib.Dec.{ltb}
use lib.IntN.{ℤ, pos, nat_abs, ◌+ℤ◌, ◌*ℤ◌, zero-*ℤ}
use lib.ListN.{length, get_or, length-map}
use lib.Seq.{get_or-take, length-take-le}
use borrow.Author.Tests.{ltb-false, le-leb, eq-eqb}
use Rattle.base.specs.Lists.{position_of}
use Rattle.base.specs.Integers.{sumℤ, within}
use Rattle.base.proofs.Booleans.{is_false}
use Rattle.base.proofs.Integers.{mul-sum}
use Rattle.base.proofs.Lists.{get-all, map_get, map-range-same}
use Rattle.base.proofs.Sums.{sum_same, sum-add, sum-short, sum_moved}
use Rattle.matrix.specs.Limits.{max_displacement}
use Rattle.matrix.specs.Matrix.{Matrix, entry, is_matrix, displacement, are_displacements}
use Rattle.matrix.specs.Product.{force_at, product}
use Rattle.matrix.specs.Tabulated.{tabulated}
use Rattle.matrix.proofs.Matrix.{absent_column, column-low, displacements-many, small-displacement}
use Rattle.matrix.proofs.Product.{product_at}
use Rattle.joined.specs.Joined.{joined_rows, are_places, stiffness, joined}
use Rattle.joined.specs.SewnTogether.{first_moved, second_moved, sewn_forces}
use Rattle.joined.proofs.Places.{long, at_low, from_at, at_from, first-low}
use Rattle.joined.proofs.Entries.{joined-entry}

-- past the last column an entry is 0
column-past : (m : Matrix) → is_matrix m ≡ true → (i j : ℕ) → m.n ≤ j → entry m i j ≡ pos 0
column-past m ok i j l = absent_column m i j (is_false (λ s. omega (arith, column-low m ok i j s)))

module _ (a b : Matrix) (places : List ℕ) (oka : is_matrix a ≡ true) (okb : is_matrix b ≡ true) (h : are_places a b places ≡ true) (x : List ℤ) where
  abbrev from : ℕ → ℕ
  from = position_of places

  abbrev rows : ℕ
  rows = joined_rows a places

  -- what the first net's entry in column j adds to row i, and the second's
  abbrev first : ℕ → ℕ → ℤ
  first i j = entry a i j *ℤ displacement x j

  abbrev second : ℕ → ℕ → ℤ
  second i j = entry b (from i) (from j) *ℤ displacement x j

  first-sum : (i : ℕ) → sumℤ (first i) rows ≡ force_at a (first_moved a x) i
  unfolding force_at first_moved displacement
  first-sum i =
      sum-short (first i) a.n rows (first-low a b places h) (λ j l. rw (column-past a oka i j l) (zero-*ℤ (displacement x j)))
      ∙ sum_same (first i) (λ j. entry a i j *ℤ displacement (first_moved a x) j) a.n (λ j l. ap (λ (z : ℤ). entry a i j *ℤ z) (sym (get_or-take a.n x j (pos 0) l)))

  -- a row that is no place has nothing of the second net
  second_at : (i v : ℕ) → cond (ltb (from v) b.n) (second i v) (pos 0) ≡ second i v
  second_at i v = go (ltb (from v) b.n) refl
    where
      go : (t : Bool) → ltb (from v) b.n ≡ t → cond t (second i v) (pos 0) ≡ second i v
      go true e = refl
      go false e = sym (rw (column-past b okb (from i) (from v) (ltb-false (from v) b.n e)) (zero-*ℤ (displacement x v)))

  second-sum : (i : ℕ) → sumℤ (second i) rows ≡ force_at b (second_moved places x) (from i)
  unfolding force_at second_moved displacement
  second-sum i =
      sym (
      sum_same (λ l. entry b (from i) l *ℤ displacement (second_moved places x) l) (λ l. second i (get_or places l 0)) b.n moved
      ∙ sum_moved (second i) (λ l. get_or places l 0) from rows b.n (at_low a b places h) (from_at a b places h) (at_from a b places h)
      ∙ sum_same (λ v. cond (ltb (from v) b.n) (second i v) (pos 0)) (second i) rows (λ v l. second_at i v)
      )
    where
      moved : (l : ℕ) → l < b.n → entry b (from i) l *ℤ displacement (second_moved places x) l ≡ second i (get_or places l 0)
      moved l k =
          rw (from_at a b places h l k)
          (ap (λ (z : ℤ). entry b (from i) l *ℤ z) (map_get (displacement x) places l 0 (pos 0) (omega (arith, long a b places h))))

  pub joined_force : (i : ℕ) → force_at (joined a b places) x i ≡ force_at a (first_moved a x) i +ℤ force_at b (second_moved places x) (from i)
  unfolding force_at joined tabulated stiffness
  joined_force i =
      sum_same (λ j. entry (joined a b places) i j *ℤ displacement x j) (λ j. first i j +ℤ second i j) rows
      (λ j l. rw (joined-entry a b places oka okb h i j) (mul-sum (entry a i j) (entry b (from i) (from j)) (displacement x j)))
      ∙ sum-add (first i) (second i) rows ∙ ap₂ (λ (y z : ℤ). y +ℤ z) (first-sum i) (second-sum i)

  pub joined-forces : product (joined a b places) x ≡ sewn_forces a b places x
  unfolding product sewn_forces joined tabulated
  joined-forces =
      map-range-same (force_at (joined a b places) x) (λ i. get_or (product a (first_moved a x)) i (pos 0) +ℤ get_or (product b (second_moved places x)) (from i) (pos 0)) 0 rows
      (λ i l k. joined_force i ∙ sym (ap₂ (λ (y z : ℤ). y +ℤ z) (product_at a (first_moved a x) i) (product_at b (second_moved places x) (from i))))

  -- ---- the movements of each net

  -- displacements one by one
  are-displacements : (n : ℕ) (y : List ℤ) → length y ≡ n → ((k : ℕ) → k < n → nat_abs (get_or y k (pos 0)) ≤ max_displacement) → are_displacements n y ≡ true
  unfolding are_displacements within
  are-displacements n y e s = rw (eq-eqb (length y) n e) (get-all (within max_displacement) y (pos 0) (λ k l. le-leb (nat_abs (get_or y k (pos 0))) max_displacement (s k (omega arith))))

  module _ (moved : are_displacements rows x ≡ true) where
    pub first_moves : are_displacements a.n (first_moved a x) ≡ true
    unfolding first_moved displacement
    first_moves =
        are-displacements a.n (first_moved a x) (length-take-le a.n x (omega (arith, displacements-many rows x moved, first-low a b places h)))
        (λ k l. rw (get_or-take a.n x k (pos 0) l) (small-displacement rows x moved k))

    pub second_moves : are_displacements b.n (second_moved places x) ≡ true
    unfolding second_moved
    second_moves =
        are-displacements b.n (second_moved places x) (length-map places (displacement x) ∙ long a b places h)
        (λ k l. rw (map_get (displacement x) places k 0 (pos 0) (omega (arith, long a b places h))) (small-displacement rows x moved (get_or places k 0)))
