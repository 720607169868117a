-- The reply and the lists of the sort into full rows, where it is handed the joined net's entries: those of the call.
use mathlib.Core.Path.{◌≡◌, refl, sym, ap, ◌∙◌}
use mathlib.Core.Bool.{true}
use mathlib.Core.List.{List}
use Prim.Native.Nat.{ℕ}
use native.Mathlib.Numerals.{add-one}
use lib.ListN.{length, length-map}
use Rattle.base.specs.Replies.{in_turn}
use Rattle.matrix.specs.Matrix.{Matrix, is_matrix, matrix_check}
use Rattle.matrix.specs.Tabulated.{tabulated}
use Rattle.market.specs.Parse.{Triplet, matrix_text}
use Rattle.market.specs.FullRows.{full, rows_of, columns, values, of_triplets, read_matrix, read_reply}
use Rattle.market.proofs.FullCount.{length-rows}
use Rattle.joined.specs.Joined.{joined_rows, are_places, stored_in, stiffness, joined, in_limits, join_reply}
use Rattle.joined.proofs.Gathering.{Gathered, gathered-joined}

module _ (a b : Matrix) (places : List ℕ) (oka : is_matrix a ≡ true) (okb : is_matrix b ≡ true) (h : are_places a b places ≡ true) (fit : in_limits (joined a b places) ≡ true)
    {es : List Triplet} (g : Gathered (joined_rows a places) (stored_in a b places) (stiffness a b places) es) where
  abbrev rows : ℕ
  rows = joined_rows a places

  made : of_triplets rows es ≡ joined a b places
  made = gathered-joined a b places oka okb h g

  -- the matrix that is read is the joined net
  pub joined-read : read_matrix (matrix_text rows es) ≡ joined a b places
  unfolding read_matrix
  joined-read = made

  columns-long : length (full es) ≡ length (joined a b places).columns
  unfolding of_triplets columns
  columns-long = sym (length-rows rows es g.inner) ∙ sym (length-map (rows_of rows es) (λ (e : Triplet). e.column)) ∙ ap (λ (m : Matrix). length m.columns) made

  values-long : length (full es) ≡ length (joined a b places).values
  unfolding of_triplets values
  values-long = sym (length-rows rows es g.inner) ∙ sym (length-map (rows_of rows es) (λ (e : Triplet). e.value)) ∙ ap (λ (m : Matrix). length m.values) made

  joined-n : (joined a b places).n ≡ rows
  unfolding joined tabulated
  joined-n = refl

  -- the room that it asks for, in the same turn
  pub joined-reply : (starts columns values : ℕ) → read_reply (matrix_text rows es) starts columns values ≡ join_reply a b places starts columns values
  unfolding read_reply join_reply matrix_check in_turn
  joined-reply s c v = sym (rw (oka, okb, h, fit, joined-n, ← columns-long, ← values-long, ← add-one rows))
