-- Two nets sewn together (document 02, Q-11): the joined matrix, and the call that makes it.
use Rattle.std.specs.Prelude.{Bool, ◌||◌, ◌&&◌, List, [], ◌∷◌, ℕ, suc, ◌+◌, eqb, leb, ℤ, ◌+ℤ◌, length}
use Rattle.base.specs.Lists.{filter, all, is_in, range, distinct, position_of}
use Rattle.base.specs.Integers.{within}
use Rattle.base.specs.Replies.{Reply, accepted, refused, check, in_turn, room_for}
use Rattle.base.specs.Refusals as why
use Rattle.matrix.specs.Limits.{max_rows, max_entries, max_value}
use Rattle.matrix.specs.Matrix.{Matrix, columns_of, entry, lower_entries, matrix_check}
use Rattle.matrix.specs.Tabulated.{tabulated}

-- a is the first net, b the second, and places has, "for each freedom of the second, a freedom number in the joined
-- net". So `position_of places i` is the second net's row at row i of the joined net; where there is none, it is past
-- its rows.

-- how many places are "Numbers past the first net"
unfoldable pub past_first : (a : Matrix) (places : List ℕ) → ℕ
past_first a places = length (filter (leb a.n) places)

-- "the joined net has as many freedoms as the first plus those"
unfoldable pub joined_rows : (a : Matrix) (places : List ℕ) → ℕ
joined_rows a places = a.n + past_first a places

-- not "23: the list has not one place for each freedom of the second net, or a place repeats or leaves a gap": "Numbers
-- past the first net must be used without gaps"
unfoldable pub are_places : (a b : Matrix) (places : List ℕ) → Bool
are_places a b places = eqb (length places) b.n && distinct places && all (is_in places) (range a.n (past_first a places))

-- "An entry is stored if either net stores it, so sums that cancel stay as zeros"
unfoldable pub stored_in : (a b : Matrix) (places : List ℕ) → (i j : ℕ) → Bool
stored_in a b places i j = is_in (columns_of a i) j || is_in (columns_of b (position_of places i)) (position_of places j)

-- "the tool adds stiffnesses wherever entries fall together; the first net keeps its numbers"
unfoldable pub stiffness : (a b : Matrix) (places : List ℕ) → (i j : ℕ) → ℤ
stiffness a b places i j = entry a i j +ℤ entry b (position_of places i) (position_of places j)

unfoldable pub joined : (a b : Matrix) (places : List ℕ) → Matrix
joined a b places = tabulated (joined_rows a places) (stored_in a b places) (stiffness a b places)

-- not "24: the joined matrix breaks a limit of document 01"
unfoldable pub in_limits : Matrix → Bool
in_limits m = leb m.n max_rows && all (within max_value) m.values && leb (lower_entries m) max_entries

-- the call's reply: 5 of the first, of the second, 23, 24, 9; accepted, it has the joined net's count of rows. Each
-- list is then `lent` of the reply and joined's list
unfoldable pub join_reply : (a b : Matrix) (places : List ℕ) (starts columns values : ℕ) → Reply
join_reply a b places starts columns values =
    let m = joined a b places in
    in_turn refused
    (matrix_check a ∷ matrix_check b ∷ check why.bad_places (are_places a b places) ∷ check why.past_limits (in_limits m)
    ∷ room_for (suc m.n) starts ∷ room_for (length m.columns) columns ∷ room_for (length m.values) values ∷ [])
    (accepted m.n)
