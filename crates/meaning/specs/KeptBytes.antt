-- A kept force list whose lists stand in bytes from call to call, as a caller of the exported functions keeps them (Q-10).
use Rattle.std.specs.Prelude.{◌≡◌, List, [], ◌∷◌, ℕ}
use Rattle.upkeep.specs.Upkeep.{KeptForces, Change, new_displacement, new_value}
use Rattle.upkeep.specs.KeptCurrent.{Current}
use Rattle.lent.specs.Bytes.{matrix_in}
use Rattle.site.specs.Lent.{kept_bytes, MovementAnswered, EntryAnswered}

-- the lists that its calls write
pub record Held : Type 0 where
  pub values : List ℕ
  pub movements : List ℕ
  pub forces : List ℕ

-- .. and those that no call writes: the rows, their starts and columns
module _ (n : ℕ) (starts columns : List ℕ) where
  -- what they stand for
  abbrev pub stands_for : Held → KeptForces
  stands_for b = kept_bytes (matrix_in n starts columns b.values) b.movements b.forces

  -- a call for a change, accepted or refused, and what it leaves: as mzk_set_movement and mzk_set_entry promise, each of
  -- which writes two of the lists
  unfoldable pub Leaves : Held → Change → (returned : ℕ) → Held → Type 0
  Leaves b (new_displacement i v) returned e = MovementAnswered (stands_for b).matrix (new_displacement i v) b.movements b.forces returned e.movements e.forces × (e.values ≡ b.values)
  Leaves b (new_value i j v) returned e = EntryAnswered (stands_for b).matrix (new_value i j v) b.values b.movements b.forces returned e.values e.forces × (e.movements ≡ b.movements)

  -- a sequence of calls, each handed the lists as the last one left them
  pub data Leads : Held → List Change → Held → Type 0 where
    none : {b : Held} → Leads b [] b
    next : {b d e : Held} {c : Change} {cs : List Change} (returned : ℕ) → Leaves b c returned d → Leads d cs e → Leads b (c ∷ cs) e

pub record KeptInBytes : Type 0 where
  -- "After any sequence of such changes it equals the full product of the present matrix and movements"
  pub sequence : (n : ℕ) (starts columns : List ℕ) (b e : Held) (cs : List Change) → Leads n starts columns b cs e → Current (stands_for n starts columns b) → Current (stands_for n starts columns e)
