-- Two nets are sewn together as document 02 says.
use mathlib.Core.Path.{◌≡◌, refl, sym, ap, ◌∙◌}
use mathlib.Core.Bool.{Bool, true, false}
use mathlib.Core.List.{List, [], ◌∷◌, map}
use Prim.Native.Nat.{ℕ, zero, suc, ◌+◌, ◌<◌}
use native.Mathlib.Omega.{arith}
use lib.IntN.{ℤ}
use lib.ListN.{length, get_or}
use borrow.Author.Tests.{eq-eqb, le-leb}
use Rattle.base.specs.Lists.{all, is_in, concat, range, distinct, position_of}
use Rattle.base.specs.Integers.{within}
use Rattle.base.specs.Refusals as why
use Rattle.base.specs.Replies.{accepted, refused, in_turn}
use Rattle.base.proofs.Booleans.{both_ways, is_false}
use Rattle.base.proofs.Lists.{all_append, get_in, range_in, of-all}
use Rattle.base.proofs.Replies.{accepted-all, accepted-count}
use Rattle.matrix.specs.Limits.{max_rows, max_entries, max_value}
use Rattle.matrix.specs.Matrix.{Matrix, lower_entries, is_matrix, matrix_check}
use Rattle.matrix.specs.SameRows.{SameRows}
use Rattle.matrix.specs.Left.{matrix_left}
use Rattle.matrix.specs.Tabulated.{columns_in, tabulated}
use Rattle.matrix.proofs.Alike.{left-rows}
use Rattle.matrix.proofs.Matrix.{matrix_facts}
use Rattle.matrix.proofs.Tabulated.{tab_values}
use Rattle.joined.specs.Joined.{past_first, joined_rows, are_places, stored_in, stiffness, joined, in_limits, join_reply}
use Rattle.joined.specs.SewnTogether.{Placed, Sewn, RoomFor, SewnTogether}
use Rattle.joined.proofs.Places.{long, gapless, at_low, from_at}
use Rattle.joined.proofs.Entries.{joined-matrix, stored-apart, entry-apart, stored-together, entry-together, joined-adjacent}
use Rattle.joined.proofs.Forces.{joined-forces, first_moves, second_moves}

sewn : (a b : Matrix) (places : List ℕ) → is_matrix a ≡ true → is_matrix b ≡ true → are_places a b places ≡ true → in_limits (joined a b places) ≡ true → Sewn a b places
sewn a b places oka okb h fit = record {
  matrix = joined-matrix a b places oka okb h fit;
  inside = at_low a b places h;
  gapless = gapless a b places h;
  together = entry-together a b places oka okb h;
  apart = entry-apart a b places oka okb h;
  either = stored-together a b places oka okb h;
  first_only = stored-apart a b places oka okb h;
  adjoins = joined-adjacent a b places oka okb h;
  forces = joined-forces a b places oka okb h;
  first_moves = first_moves a b places oka okb h;
  second_moves = second_moves a b places oka okb h;
}

left : (a b : Matrix) (places starts columns : List ℕ) (values : List ℤ) (k : ℕ) → join_reply a b places (length starts) (length columns) (length values) ≡ accepted k
    → (k ≡ joined_rows a places) × SameRows (matrix_left (join_reply a b places (length starts) (length columns) (length values)) (joined a b places) starts columns values) (joined a b places)
unfolding join_reply matrix_check joined tabulated
left a b places starts columns values k e =
    let held = accepted-all _ _ k e in
    (sym (accepted-count _ (joined_rows a places) k e), left-rows (joined a b places) (joined-matrix a b places held.0 held.1.0 held.1.1.0 held.1.1.1.0) (join_reply a b places (length starts) (length columns) (length values)) k e starts columns values)

-- ---- 23

distinct_of : (xs : List ℕ) → ((k l : ℕ) → k < length xs → l < length xs → get_or xs k 0 ≡ get_or xs l 0 → k ≡ l) → distinct xs ≡ true
distinct_of [] h = refl
distinct_of (x ∷ xs) h =
    rw (is_false (λ i. let (k, l, e) = get_in xs x i in absurd (omega (arith, h 0 (suc k) (omega arith) (omega arith) (sym e)))), distinct_of xs (λ k l i j e. omega (arith, h (suc k) (suc l) (omega arith) (omega arith) e))) refl

placed : (a b : Matrix) (places : List ℕ) → are_places a b places ≡ true → Placed a b places
placed a b places h = record {
  one = long a b places h;
  once = λ k l i j e. sym (from_at a b places h k i) ∙ ap (position_of places) e ∙ from_at a b places h l j;
  gapless = gapless a b places h;
}

are-places : (a b : Matrix) (places : List ℕ) → Placed a b places → are_places a b places ≡ true
unfolding are_places joined_rows
are-places a b places p =
    rw (
      eq-eqb (length places) b.n p.one,
      distinct_of places (λ k l i j e. p.once k l (omega (arith, p.one)) (omega (arith, p.one)) e),
      of-all (is_in places) (range a.n (past_first a places)) (λ i h. let l = range_in i a.n (past_first a places) h in p.gapless i l.0 l.1),
    ) refl

misplaced : (a b : Matrix) (places : List ℕ) (starts columns values : ℕ) → is_matrix a ≡ true → is_matrix b ≡ true → are_places a b places ≡ false → join_reply a b places starts columns values ≡ refused why.bad_places 0
unfolding join_reply matrix_check in_turn
misplaced a b places starts columns values oka okb h = rw (oka, okb, h) refl

-- ---- 24, or accepted

all-concat : {A : Type 0} (p : A → Bool) (f : ℕ → List A) (k n : ℕ) → ((i : ℕ) → i < k + n → all p (f i) ≡ true) → all p (concat (map f (range k n))) ≡ true
all-concat p f k zero h = refl
all-concat p f k (suc n) h = all_append p (f k) (concat (map f (range (suc k) n))) ∙ rw (h k (omega arith), all-concat p f (suc k) n (λ i l. h i (omega arith))) refl

module _ (a b : Matrix) (places : List ℕ) (oka : is_matrix a ≡ true) (okb : is_matrix b ≡ true) (h : are_places a b places ≡ true) where
  -- a matrix is within the limits
  in-limits : is_matrix (joined a b places) ≡ true → in_limits (joined a b places) ≡ true
  unfolding in_limits joined
  in-limits ok =
      let f = matrix_facts (joined a b places) ok in
      rw (le-leb (joined a b places).n max_rows f.few, small, le-leb (lower_entries (joined a b places)) max_entries f.lower) refl
    where
      rows : ℕ
      rows = joined_rows a places

      small : all (within max_value) (joined a b places).values ≡ true
      small = unfold tabulated in (all-concat (within max_value) (λ i. map (stiffness a b places i) (columns_in rows (stored_in a b places) i)) 0 rows
          (λ i l. ap (all (within max_value)) (sym (tab_values rows (stored_in a b places) (stiffness a b places) i (omega arith))) ∙ ((matrix_facts (joined a b places) ok).row i (omega arith)).small))

  limits : in_limits (joined a b places) ≡ is_matrix (joined a b places)
  limits = both_ways (in_limits (joined a b places)) (is_matrix (joined a b places)) (joined-matrix a b places oka okb h) in-limits

  module _ (starts columns values : ℕ) where
    past-limits : is_matrix (joined a b places) ≡ false → join_reply a b places starts columns values ≡ refused why.past_limits 0
    unfolding join_reply matrix_check in_turn
    past-limits bad = rw (oka, okb, h, limits ∙ bad) refl

    accepts : is_matrix (joined a b places) ≡ true → RoomFor (joined a b places) starts columns values → join_reply a b places starts columns values ≡ accepted (joined_rows a places)
    unfolding join_reply matrix_check in_turn
    accepts ok room =
        rw (oka, okb, h, limits ∙ ok, le-leb _ starts room.for_starts, le-leb _ columns room.for_columns, le-leb _ values room.for_values) (unfold joined tabulated in refl)

pub sewn-together : SewnTogether
sewn-together = record {
  sewn = sewn;
  placed = placed;
  places = are-places;
  misplaced = misplaced;
  past-limits = λ a b places starts columns values oka okb h. past-limits a b places oka okb h starts columns values;
  accepts = λ a b places starts columns values oka okb h. accepts a b places oka okb h starts columns values;
  left = left;
}
