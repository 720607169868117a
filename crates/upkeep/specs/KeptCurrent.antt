-- What holds of every kept force list, sentence by sentence (document 02, Q-10).
use Rattle.std.specs.Prelude.{◌≡◌, Bool, true, false, ◌||◌, ◌&&◌, cond, List, [], ◌∷◌, ℕ, eqb, ℤ, pos, get_or}
use Rattle.base.specs.Replies.{accepted, refused, check, in_turn}
use Rattle.base.specs.Refusals as why
use Rattle.matrix.specs.Matrix.{Matrix, columns_of, entry, adjacent, is_matrix, displacement, are_displacements}
use Rattle.matrix.specs.Product.{product}
use Rattle.upkeep.specs.Upkeep.{KeptForces, Change, new_displacement, new_value, is_named, is_small, change_reply, after_change, after_changes}

-- the list "equals the full product of the present matrix and movements", and these are within their limits
pub record Current (k : KeptForces) : Type 0 where
  pub matrix : is_matrix k.matrix ≡ true
  pub moved : are_displacements k.matrix.n k.displacements ≡ true
  pub forces : k.forces ≡ product k.matrix k.displacements

-- the entries that a change writes, and their value
unfoldable pub entry_after : Matrix → Change → (r c : ℕ) → ℤ
entry_after m (new_displacement i v) r c = entry m r c
entry_after m (new_value i j v) r c = cond (eqb r i && eqb c j || eqb r j && eqb c i) v (entry m r c)

-- .. and the displacements
unfoldable pub displacement_after : List ℤ → Change → ℕ → ℤ
displacement_after x (new_displacement i v) r = cond (eqb r i) v (displacement x r)
displacement_after x (new_value i j v) r = displacement x r

-- "A change touches only the forces of the freedom and those joined to it, or of the entry's two freedoms"
unfoldable pub is_touched : Matrix → Change → ℕ → Bool
is_touched m (new_displacement i v) r = eqb r i || adjacent m i r
is_touched m (new_value i j v) r = eqb r i || eqb r j

-- what an accepted change writes
pub record Writes (k : KeptForces) (c : Change) : Type 0 where
  pub entries : (r s : ℕ) → entry (after_change k c).matrix r s ≡ entry_after k.matrix c r s
  pub columns : (r : ℕ) → columns_of (after_change k c).matrix r ≡ columns_of k.matrix r
  pub displacements : (r : ℕ) → displacement (after_change k c).displacements r ≡ displacement_after k.displacements c r

pub record KeptCurrent : Type 0 where
  -- what a call accepts is current before and after
  pub before : (k : KeptForces) (c : Change) (n : ℕ) → change_reply k c ≡ accepted n → Current k
  -- "After any sequence of such changes it equals the full product of the present matrix and movements"
  pub sequence : (k : KeptForces) → Current k → (cs : List Change) → Current (after_changes k cs)
  -- .. in which no call is refused but with 21 or 22
  pub refusals : (k : KeptForces) → Current k → (c : Change) → change_reply k c ≡ in_turn refused (check why.no_entry (is_named k.matrix c) ∷ check why.bad_change (is_small c) ∷ []) (accepted 0)
  -- "writes it there"
  pub written : (k : KeptForces) (c : Change) (n : ℕ) → change_reply k c ≡ accepted n → Writes k c
  -- "A change touches only the forces of .."
  pub touched : (k : KeptForces) → Current k → (c : Change) (r : ℕ) → is_touched k.matrix c r ≡ false → get_or (after_change k c).forces r (pos 0) ≡ get_or k.forces r (pos 0)
