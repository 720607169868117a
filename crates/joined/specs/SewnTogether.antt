-- What holds of every two nets that are sewn together, sentence by sentence (document 02, Q-11).
use Rattle.std.specs.Prelude.{◌≡◌, true, false, ◌||◌, ◌&&◌, List, map, ℕ, suc, ◌≤◌, ◌<◌, ℤ, pos, ◌+ℤ◌, length, get_or, take}
use Rattle.base.specs.Lists.{is_in, range, position_of}
use Rattle.base.specs.Replies.{accepted, refused}
use Rattle.base.specs.Refusals as why
use Rattle.matrix.specs.Matrix.{Matrix, columns_of, entry, adjacent, is_matrix, displacement, are_displacements}
use Rattle.matrix.specs.Product.{product}
use Rattle.matrix.specs.SameRows.{SameRows}
use Rattle.matrix.specs.Left.{matrix_left}
use Rattle.joined.specs.Joined.{joined_rows, are_places, joined, in_limits, join_reply}

-- of the joined net's displacements, the first net's
unfoldable pub first_moved : Matrix → List ℤ → List ℤ
first_moved a x = take a.n x

-- .. and the second's, at their places
unfoldable pub second_moved : List ℕ → List ℤ → List ℤ
second_moved places x = map (displacement x) places

-- "the first net's forces plus the second's moved to their places"
unfoldable pub sewn_forces : (a b : Matrix) (places : List ℕ) → List ℤ → List ℤ
sewn_forces a b places x =
    map (λ i. get_or (product a (first_moved a x)) i (pos 0) +ℤ get_or (product b (second_moved places x)) (position_of places i) (pos 0)) (range 0 (joined_rows a places))

-- places that 23 does not refuse
pub record Placed (a b : Matrix) (places : List ℕ) : Type 0 where
  -- "one place for each freedom of the second net"
  pub one : length places ≡ b.n
  -- no place "repeats"
  pub once : (k l : ℕ) → k < b.n → l < b.n → get_or places k 0 ≡ get_or places l 0 → k ≡ l
  -- "Numbers past the first net must be used without gaps"
  pub gapless : (i : ℕ) → a.n ≤ i → i < joined_rows a places → is_in places i ≡ true

-- of two nets and places that the call takes
pub record Sewn (a b : Matrix) (places : List ℕ) : Type 0 where
  -- the joined lists are a matrix
  pub matrix : is_matrix (joined a b places) ≡ true
  -- "for each freedom of the second, a freedom number in the joined net"
  pub inside : (k : ℕ) → k < b.n → get_or places k 0 < joined_rows a places
  -- "Numbers past the first net must be used without gaps"
  pub gapless : (i : ℕ) → a.n ≤ i → i < joined_rows a places → is_in places i ≡ true
  -- "the tool adds stiffnesses wherever entries fall together"
  pub together : (k l : ℕ) → k < b.n → l < b.n → entry (joined a b places) (get_or places k 0) (get_or places l 0) ≡ entry a (get_or places k 0) (get_or places l 0) +ℤ entry b k l
  -- "the first net keeps its numbers": elsewhere its entries stand alone
  pub apart : (i j : ℕ) → is_in places i && is_in places j ≡ false → entry (joined a b places) i j ≡ entry a i j
  -- "An entry is stored if either net stores it"
  pub either : (k l : ℕ) → k < b.n → l < b.n
      → is_in (columns_of (joined a b places) (get_or places k 0)) (get_or places l 0) ≡ is_in (columns_of a (get_or places k 0)) (get_or places l 0) || is_in (columns_of b k) l
  pub first_only : (i j : ℕ) → is_in places i && is_in places j ≡ false → is_in (columns_of (joined a b places) i) j ≡ is_in (columns_of a i) j
  -- rows are adjacent that are so in either net
  pub adjoins : (i j : ℕ) → adjacent (joined a b places) i j ≡ adjacent a i j || adjacent b (position_of places i) (position_of places j)
  -- "The joined net's forces are the first net's forces plus the second's moved to their places, for all movements of
  -- the joined net"
  pub forces : (x : List ℤ) → product (joined a b places) x ≡ sewn_forces a b places x
  -- .. where the movements of each net are within their limits if the joined net's are
  pub first_moves : (x : List ℤ) → are_displacements (joined_rows a places) x ≡ true → are_displacements a.n (first_moved a x) ≡ true
  pub second_moves : (x : List ℤ) → are_displacements (joined_rows a places) x ≡ true → are_displacements b.n (second_moved places x) ≡ true

-- the lists that the call writes have room for a matrix
pub record RoomFor (m : Matrix) (starts columns values : ℕ) : Type 0 where
  pub for_starts : suc m.n ≤ starts
  pub for_columns : length m.columns ≤ columns
  pub for_values : length m.values ≤ values

pub record SewnTogether : Type 0 where
  pub sewn : (a b : Matrix) (places : List ℕ) → is_matrix a ≡ true → is_matrix b ≡ true → are_places a b places ≡ true → in_limits (joined a b places) ≡ true → Sewn a b places
  -- "23: the list has not one place for each freedom of the second net, or a place repeats or leaves a gap": just then
  pub placed : (a b : Matrix) (places : List ℕ) → are_places a b places ≡ true → Placed a b places
  pub places : (a b : Matrix) (places : List ℕ) → Placed a b places → are_places a b places ≡ true
  pub misplaced : (a b : Matrix) (places : List ℕ) (starts columns values : ℕ) → is_matrix a ≡ true → is_matrix b ≡ true → are_places a b places ≡ false → join_reply a b places starts columns values ≡ refused why.bad_places 0
  -- "24: the joined matrix breaks a limit of document 01": just where the joined lists are no matrix; else, with room,
  -- the call is accepted
  pub past-limits : (a b : Matrix) (places : List ℕ) (starts columns values : ℕ) → is_matrix a ≡ true → is_matrix b ≡ true → are_places a b places ≡ true → is_matrix (joined a b places) ≡ false
      → join_reply a b places starts columns values ≡ refused why.past_limits 0
  pub accepts : (a b : Matrix) (places : List ℕ) (starts columns values : ℕ) → is_matrix a ≡ true → is_matrix b ≡ true → are_places a b places ≡ true → is_matrix (joined a b places) ≡ true
      → RoomFor (joined a b places) starts columns values → join_reply a b places starts columns values ≡ accepted (joined_rows a places)
  -- the lists that an accepted call leaves are the joined matrix, whatever stands past it
  pub left : (a b : Matrix) (places starts columns : List ℕ) (values : List ℤ) (k : ℕ) → join_reply a b places (length starts) (length columns) (length values) ≡ accepted k
      → (k ≡ joined_rows a places) × SameRows (matrix_left (join_reply a b places (length starts) (length columns) (length values)) (joined a b places) starts columns values) (joined a b places)
