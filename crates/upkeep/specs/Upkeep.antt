-- A kept force list (document 02, Q-10): its changes, what a call replies to one, and what it leaves in the lent lists.
use Rattle.std.specs.Prelude.{Bool, ◌&&◌, List, [], ◌∷◌, ℕ, ◌+◌, eqb, ltb, ℤ, pos, length, get_or, set}
use Rattle.base.specs.Lists.{all, is_in, range, position_of}
use Rattle.base.specs.Integers.{within, same}
use Rattle.base.specs.Replies.{Reply, accepted, refused, check, in_turn}
use Rattle.base.specs.Refusals as why
use Rattle.matrix.specs.Limits.{max_value, max_displacement}
use Rattle.matrix.specs.Matrix.{Matrix, columns_of, matrix_check, displacement_check, matrix_of}
use Rattle.matrix.specs.Product.{force_at, product}

-- the lists that are lent: a matrix, its displacements, and "a kept force list"
pub record KeptForces : Type 0 where
  pub matrix : Matrix
  pub displacements : List ℤ
  pub forces : List ℤ

abbrev pub kept_in : (n : ℕ) (starts columns : List ℕ) (values displacements forces : List ℤ) → KeptForces
kept_in n starts columns values displacements forces = record { matrix = matrix_of n starts columns values; displacements = displacements; forces = forces }

-- it "takes a new movement for one freedom, or a new value for a stored entry and its mirror": the entry is named by
-- row and column, in either half
pub data Change : Type 0 where
  new_displacement : (row : ℕ) (to : ℤ) → Change
  new_value : (row column : ℕ) (to : ℤ) → Change

-- ---- what is written

-- where entry (i, j) stands in the list of values
unfoldable pub entry_place : Matrix → (i j : ℕ) → ℕ
entry_place m i j = get_or m.starts i 0 + position_of (columns_of m i) j

-- the matrix with v there
unfoldable pub with_value : Matrix → (i j : ℕ) → ℤ → Matrix
with_value m i j v = record { n = m.n; starts = m.starts; columns = m.columns; values = set m.values (entry_place m i j) v }

-- "writes it there": the matrix after a change of "a stored entry and its mirror"
unfoldable pub matrix_after : Matrix → Change → Matrix
matrix_after m (new_displacement i v) = m
matrix_after m (new_value i j v) = with_value (with_value m i j v) j i v

-- .. and the displacements after one of a displacement
unfoldable pub displacements_after : List ℤ → Change → List ℤ
displacements_after x (new_displacement i v) = set x i v
displacements_after x (new_value i j v) = x

-- "and brings the list up to date": "it equals the full product of the present matrix and movements"
unfoldable pub changed : KeptForces → Change → KeptForces
changed k c =
    let m = matrix_after k.matrix c in
    let x = displacements_after k.displacements c in
    record { matrix = m; displacements = x; forces = product m x }

-- ---- the call

-- not "20: the list lent is not n long or isn't the product of what came with it"
unfoldable pub are_forces : Matrix → (displacements forces : List ℤ) → Bool
are_forces m x fs = eqb (length fs) m.n && all (λ i. same (get_or fs i (pos 0)) (force_at m x i)) (range 0 m.n)

-- not "21: no such entry or freedom"
unfoldable pub is_named : Matrix → Change → Bool
is_named m (new_displacement i v) = ltb i m.n
is_named m (new_value i j v) = is_in (columns_of m i) j

-- not "22: new movement or value beyond its limit": "Limits on values and movements hold as before"
unfoldable pub is_small : Change → Bool
is_small (new_displacement i v) = within max_displacement v
is_small (new_value i j v) = within max_value v

-- the call's reply: 5, 6, 20, 21, 22
unfoldable pub change_reply : KeptForces → Change → Reply
change_reply k c =
    in_turn refused
    (matrix_check k.matrix ∷ displacement_check k.matrix.n k.displacements ∷ check why.not_forces (are_forces k.matrix k.displacements k.forces)
    ∷ check why.no_entry (is_named k.matrix c) ∷ check why.bad_change (is_small c) ∷ [])
    (accepted 0)

-- the lists after a call: as changed, and on a refusal as they were
unfoldable pub after_reply : Reply → (new old : KeptForces) → KeptForces
after_reply (accepted n) new old = new
after_reply (refused q p) new old = old

unfoldable pub after_change : KeptForces → Change → KeptForces
after_change k c = after_reply (change_reply k c) (changed k c) k

-- .. after a sequence of calls, each handed the lists as the last one left them
unfoldable pub after_changes : KeptForces → List Change → KeptForces
after_changes k [] = k
after_changes k (c ∷ cs) = after_changes (after_change k c) cs
