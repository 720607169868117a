-- What it says that a list is one of places: each row of the second net has one of its own in the joined net, and those
-- past the first net leave no gap.
use mathlib.Core.Path.{◌≡◌, ◌∙◌}
use mathlib.Core.Bool.{true, false, ◌&&◌}
use mathlib.Core.List.{List}
use Prim.Native.Nat.{ℕ, ◌≤◌, ◌<◌}
use native.Mathlib.Omega.{arith}
use lib.Dec.{eqb}
use lib.ListN.{length, get_or}
use borrow.Author.Tests.{eqb-true}
use Rattle.base.specs.Lists.{all, is_in, range, distinct, position_of}
use Rattle.base.proofs.Booleans.{and_left, and_right}
use Rattle.base.proofs.Positions.{position_at, position_none, position_in}
use Rattle.base.proofs.Distinct.{position_get}
use Rattle.base.proofs.Lists.{all_of, in_get, is_in-range}
use Rattle.matrix.specs.Matrix.{Matrix}
use Rattle.joined.specs.Joined.{past_first, joined_rows, are_places}
use Rattle.joined.proofs.Gaps.{gapless-low}

module _ (a b : Matrix) (places : List ℕ) (h : are_places a b places ≡ true) where
  one_each : eqb (length places) b.n && distinct places ≡ true
  unfolding are_places
  one_each = and_left (eqb (length places) b.n && distinct places) (all (is_in places) (range a.n (past_first a places))) h

  pub long : length places ≡ b.n
  long = eqb-true (length places) b.n (and_left (eqb (length places) b.n) (distinct places) one_each)

  pub apart : distinct places ≡ true
  apart = and_right (eqb (length places) b.n) (distinct places) one_each

  pub gapless : (i : ℕ) → a.n ≤ i → i < joined_rows a places → is_in places i ≡ true
  unfolding are_places joined_rows
  gapless i l m =
      all_of (is_in places) (range a.n (past_first a places)) i (and_right (eqb (length places) b.n && distinct places) (all (is_in places) (range a.n (past_first a places))) h)
      (is_in-range a.n (past_first a places) i l m)

  -- every place is a row of the joined net
  pub place_low : (i : ℕ) → is_in places i ≡ true → i < joined_rows a places
  unfolding joined_rows past_first
  place_low i k = gapless-low a.n places apart (λ v l m. gapless v l m) i k

  -- ---- from the second net's rows to their places, and back

  pub at_low : (k : ℕ) → k < b.n → get_or places k 0 < joined_rows a places
  at_low k l = place_low (get_or places k 0) (in_get places k (omega (arith, long)))

  pub from_at : (k : ℕ) → k < b.n → position_of places (get_or places k 0) ≡ k
  from_at k l = position_get places k apart (omega (arith, long))

  pub from_in : (i : ℕ) → position_of places i < b.n → is_in places i ≡ true
  from_in i l = position_in places i (omega (arith, long))

  pub at_from : (i : ℕ) → position_of places i < b.n → get_or places (position_of places i) 0 ≡ i
  at_from i l = (position_at places i (from_in i l)).1

  -- a row that is no place
  pub from-none : (i : ℕ) → is_in places i ≡ false → position_of places i ≡ b.n
  from-none i e = position_none places i e ∙ long

  -- the first net's rows come first
  pub first-low : a.n ≤ joined_rows a places
  unfolding joined_rows
  first-low = omega arith
