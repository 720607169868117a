-- Every number of an accepted text's matrix has 32 bits.
use mathlib.Core.Bool.{Bool, true, false, cond}
use mathlib.Core.List.{List, [], ◌∷◌, ◌++◌, map}
use Prim.Native.Nat.{ℕ, ◌+◌, ◌*◌, ◌≤◌, ◌<◌}
use native.Mathlib.Omega.{arith}
use lib.Dec.{eqb}
use lib.IntN.{ℤ, pos, negsuc, nat_abs}
use lib.ListN.{length, length-append}
use Rattle.base.specs.Lists.{concat, range}
use Rattle.base.proofs.Each.{Each, each_map}
use Rattle.matrix.specs.Limits.{max_value}
use Rattle.market.specs.Parse.{Triplet, triplet, is_at}
use Rattle.market.specs.FullRows.{both, full, cell, row_of, rows_of, starts_from, row_starts, columns, values}
use Rattle.market.proofs.Accepted.{Accepted}
use Rattle.market.proofs.FullCount.{length-rows}
use Rattle.market.proofs.Stored.{Fits, fits-inside}
use Rattle.words.proofs.Codes.{Holds, HoldsSigned}
use Rattle.meaning.proofs.EachIn.{each-filter, each-concat, each-range, each_mapped}

-- ---- row starts

starts-low : (k : ℕ) (rs : List (List Triplet)) → Each (λ v. v ≤ k + length (concat rs)) (starts_from k rs)
unfolding starts_from
starts-low k [] = (omega arith, tt)
starts-low k (r ∷ rs) =
    (omega arith, each_map (λ v. v ≤ k + length r + length (concat rs)) (λ v. v ≤ k + length (concat (r ∷ rs))) (λ v l. omega (arith, length-append r (concat rs))) (starts_from (k + length r) rs) (starts-low (k + length r) rs))

pub full-few : (es : List Triplet) → length (full es) ≤ 2 * length es
unfolding full
full-few [] = omega arith
full-few (e ∷ es) = go (eqb e.row e.column) (full-few es)
  where
    mirror : Bool → List Triplet
    mirror b = cond b [] (triplet e.column e.row e.value ∷ [])

    go : (b : Bool) → length (concat (map both es)) ≤ 2 * length es → length ((e ∷ mirror b) ++ concat (map both es)) ≤ 2 * length (e ∷ es)
    go true h = omega arith
    go false h = omega arith

-- ---- columns and values

-- an entry whose column is below n and whose value is within its limit
abbrev Low : ℕ → Triplet → Type 0
Low n e = (e.column < n) × (nat_abs e.value ≤ max_value)

both-low : (n : ℕ) (e : Triplet) → Fits n e → Each (Low n) (both e)
both-low n e f = go (eqb e.row e.column)
  where
    go : (b : Bool) → Each (Low n) (e ∷ cond b [] (triplet e.column e.row e.value ∷ []))
    go true = let i = fits-inside n e f in ((omega (arith, i.below, i.last), i.small), tt)
    go false = let i = fits-inside n e f in ((omega (arith, i.below, i.last), i.small), ((omega (arith, i.last), i.small), tt))

rows_low : (n : ℕ) (es : List Triplet) → Each (Fits n) es → Each (Low n) (rows_of n es)
unfolding rows_of row_of cell full
rows_low n es f =
    let all : Each (Low n) (concat (map both es)) = each-concat (Low n) (Fits n) both (both-low n) es f in
    each-range (Low n) (row_of n es) (λ i. each-range (Low n) (cell es i) (λ j. each-filter (Low n) (is_at i j) (concat (map both es)) all) 0 n) 0 n

pub small-value : (z : ℤ) → nat_abs z ≤ max_value → HoldsSigned 4 z
small-value (pos v) l = omega arith
small-value (negsuc v) l = omega arith

-- ---- of an accepted text

module _ {n : ℕ} {es : List Triplet} (a : Accepted n es) where
  pub starts-small : Each (Holds 4) (row_starts n es)
  unfolding row_starts rows_of
  starts-small =
      each_map (λ v. v ≤ 0 + length (rows_of n es)) (Holds 4) (λ v l. omega (arith, length-rows n es a.inner, full-few es, a.count)) (row_starts n es) (starts-low 0 (map (row_of n es) (range 0 n)))

  pub columns-small : Each (Holds 4) (columns n es)
  unfolding columns
  columns-small = each_mapped (Low n) (Holds 4) (λ (e : Triplet). e.column) (λ e l. omega (arith, l.0, a.rows)) (rows_of n es) (rows_low n es a.stored.fits)

  pub values-small : Each (HoldsSigned 4) (values n es)
  unfolding values
  values-small = each_mapped (Low n) (HoldsSigned 4) (λ (e : Triplet). e.value) (λ e l. small-value e.value l.1) (rows_of n es) (rows_low n es a.stored.fits)
