-- What the calls for a kept force list return, and what they leave in the lists that they write.
use Rattle.std.specs.Prelude.{◌≡◌, List, ℕ, get_or, take}
use Rattle.base.specs.Replies.{lent}
use Rattle.matrix.specs.Matrix.{Matrix}
use Rattle.words.specs.LittleEndian.{signed, signed_bytes}
use Rattle.lent.specs.Word.{word}
use Rattle.upkeep.specs.Upkeep.{KeptForces, Change, changed, change_reply}

-- a kept force list: displacements of four bytes a number, forces of eight
abbrev pub kept_bytes : Matrix → (movements forces : List ℕ) → KeptForces
kept_bytes m movements forces = record { matrix = m; displacements = signed 4 movements; forces = signed 8 forces }

-- the call for a new displacement: the returned word, and the lists after it
pub record MovementAnswered (m : Matrix) (c : Change) (movements forces : List ℕ) (returned : ℕ) (new_movements new_forces : List ℕ) : Type 0 where
  pub returns : returned ≡ word (change_reply (kept_bytes m movements forces) c)
  pub movements_left : new_movements ≡ lent (change_reply (kept_bytes m movements forces) c) (signed_bytes 4 (changed (kept_bytes m movements forces) c).displacements) movements
  pub forces_left : new_forces ≡ lent (change_reply (kept_bytes m movements forces) c) (signed_bytes 8 (changed (kept_bytes m movements forces) c).forces) forces

-- how many values the rows of a matrix have: bytes past theirs are unchanged
abbrev pub value_count : Matrix → ℕ
value_count m = get_or m.starts m.n 0

-- the call for a new value, of a matrix whose values are lent: the returned word, and the lists after it
pub record EntryAnswered (m : Matrix) (c : Change) (values movements forces : List ℕ) (returned : ℕ) (new_values new_forces : List ℕ) : Type 0 where
  pub returns : returned ≡ word (change_reply (kept_bytes m movements forces) c)
  pub values_left : new_values ≡ lent (change_reply (kept_bytes m movements forces) c) (signed_bytes 4 (take (value_count m) (changed (kept_bytes m movements forces) c).matrix.values)) values
  pub forces_left : new_forces ≡ lent (change_reply (kept_bytes m movements forces) c) (signed_bytes 8 (changed (kept_bytes m movements forces) c).forces) forces
