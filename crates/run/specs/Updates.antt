-- A worker's accesses (document 01's moves), and when it waits. They are counted in updates: a load and its store.
use Rattle.std.specs.Prelude.{Bool, true, false, List, [], ◌∷◌, ◌++◌, ℕ, zero, suc, ◌+◌, ◌*◌, ◌-◌, ◌/◌, length, get_or, eqb, leb, ℤ, pos, ◌*ℤ◌}
use Rattle.base.specs.Lists.{filter, range}
use Rattle.matrix.specs.Matrix.{entry, adjacent, displacement}
use Rattle.plan.specs.Groups.{Group}
use Rattle.run.specs.Job.{Job, row_at}
use Rattle.run.specs.Tree.{tree, owner_in, blocked}

-- a load and its store: the plan position of the row that makes it, the position of its sum, what is added
pub record Update : Type 0 where
  pub row : ℕ
  pub target : ℕ
  pub amount : ℤ

-- the entry of the rows at two plan positions
unfoldable pub entry_at : Job → (p q : ℕ) → ℤ
entry_at j p q = entry j.matrix (row_at j p) (row_at j q)

-- the displacement of the row at a plan position
unfoldable pub displacement_at : Job → ℕ → ℤ
displacement_at j p = displacement j.displacements (row_at j p)

-- "each joined row later in plan order, by ascending plan position"
unfoldable pub later : Job → ℕ → List ℕ
later j p = filter (λ q. adjacent j.matrix (row_at j p) (row_at j q)) (range (suc p) (j.matrix.n - suc p))

-- "it loads and stores its own sum, adding their entry × the other's movement, then loads and stores the other's,
-- adding the entry × own movement"
unfoldable pub with_each : Job → ℕ → List ℕ → List Update
with_each j p [] = []
with_each j p (q ∷ qs) =
    record { row = p; target = p; amount = entry_at j p q *ℤ displacement_at j q }
    ∷ record { row = p; target = q; amount = entry_at j p q *ℤ displacement_at j p }
    ∷ with_each j p qs

-- "A row loads and stores its own sum, adding diagonal × own movement; then for each joined row later in plan order .."
unfoldable pub row_updates : Job → ℕ → List Update
row_updates j p = record { row = p; target = p; amount = entry_at j p p *ℤ displacement_at j p } ∷ with_each j p (later j p)

-- the worker that runs the row at plan position p
unfoldable pub owner : Job → ℕ → ℕ
owner j p = owner_in 0 p (tree j.plan.groups)

unfoldable pub when : Bool → List Update → List Update
when true us = us
when false us = []

-- "A worker's moves are its leaves in order, row by row in plan order": worker w's updates in the rows before plan
-- position e
unfoldable pub up_to : Job → (w e : ℕ) → List Update
up_to j w zero = []
up_to j w (suc e) = up_to j w e ++ when (eqb (owner j e) w) (row_updates j e)

unfoldable pub updates : Job → ℕ → List Update
updates j w = up_to j w j.matrix.n

-- how many accesses worker w makes in all
unfoldable pub accesses : Job → ℕ → ℕ
accesses j w = 2 * length (updates j w)

-- how many accesses worker w has made
abbrev pub count : (made : List ℕ) → ℕ → ℕ
count made w = get_or made w 0

-- "A leaf is finished when its worker has made all moves up to its end"
unfoldable pub finished : Job → (made : List ℕ) → Group → Bool
finished j made g = leb (2 * length (up_to j g.first (g.start + g.length))) (count made g.first)

unfoldable pub no_update : Update
no_update = record { row = 0; target = 0; amount = pos 0 }

-- the update that worker w's next access belongs to
unfoldable pub next : Job → (made : List ℕ) → ℕ → Update
next j made w = get_or (updates j w) (count made w / 2) no_update

-- "A worker waits if the leaf of its next move lies in, or is, a blue group one of whose red siblings has an unfinished
-- leaf"
unfoldable pub waits : Job → (made : List ℕ) → ℕ → Bool
waits j made w = blocked (finished j made) (next j made w).row (tree j.plan.groups) (tree j.plan.groups)

-- ---- the same updates leaf by leaf (EveryRun.antt states that they are equal)

-- the rows of m plan positions from s
unfoldable pub rows : Job → (s m : ℕ) → List Update
rows j s zero = []
rows j s (suc m) = row_updates j s ++ rows j (suc s) m

unfoldable pub leaf_by_leaf : Job → ℕ → List Group → List Update
leaf_by_leaf j w [] = []
leaf_by_leaf j w (g ∷ gs) = when (eqb g.first w) (rows j g.start g.length) ++ leaf_by_leaf j w gs
