-- Theorem other-movements: one prepared list serves all movements of its matrix and plan. A list for movements that are
-- all 1 has in place of each amount the entry; what else stands in it is the same for all movements.
use Rattle.std.specs.Prelude.{◌≡◌, ◌&&◌, cond, List, [], ◌∷◌, map, ℕ, eqb, replicate, ℤ, pos, ◌*ℤ◌}
use Rattle.base.specs.Lists.{concat, range}
use Rattle.plan.specs.Sound.{max_workers}
use Rattle.run.specs.Job.{Job, Accepted}
use Rattle.run.specs.Updates.{Update, displacement_at, updates}
use Rattle.run.specs.State.{State}
use Rattle.run.specs.Answers.{force_list}
use Rattle.run.specs.Calls.{answer}
use Rattle.prepared.specs.Format.{Lists, lists_of}

-- the job with movements that are all 1
unfoldable pub unit : Job → Job
unit j = record { matrix = j.matrix; displacements = replicate j.matrix.n (pos 1); plan = j.plan }

-- the position of the sum of the first of these updates
unfoldable pub next_target : List Update → ℕ
next_target [] = 0
next_target (u ∷ us) = u.target

-- the position of the movement that an update takes: its row's; but for the row's own sum, past the row's first update,
-- that of the sum which the next update takes. last: the row of the update before; after: the updates after it
unfoldable pub source_of : (last : ℕ) → Update → (after : List Update) → ℕ
source_of last u after = cond (eqb u.row last && eqb u.target u.row) (next_target after) u.row

-- a worker's updates for movements x, by plan position, from those for movements 1
unfoldable pub times : (x : ℕ → ℤ) (last : ℕ) → List Update → List Update
times x last [] = []
times x last (u ∷ us) = record { row = u.row; target = u.target; amount = u.amount *ℤ x (source_of last u us) } ∷ times x u.row us

-- lists with other updates
unfoldable pub with_updates : Lists → List Update → Lists
with_updates L us = record { rows = L.rows; crew = L.crew; most = L.most; first = L.first; updates = us; gates = L.gates; places = L.places }

pub record OtherMovement (j : Job) : Type 0 where
  -- a list can be prepared for movements 1
  pub accepted : Accepted (unit j)
  -- each worker's updates are those of that list times the movements (no row has position n)
  pub multiplied : (w : ℕ) → updates j w ≡ times (displacement_at j) j.matrix.n (updates (unit j) w)
  -- all else is the same: head, gates and places
  pub lists : lists_of j ≡ with_updates (lists_of (unit j)) (concat (map (λ w. times (displacement_at j) j.matrix.n (updates (unit j) w)) (range 0 max_workers)))
  -- a call for the force list, with any state, is answered as on the job itself
  pub forced : (s : State) (room : ℕ) → answer (unit j) s (force_list room) ≡ answer j s (force_list room)

-- for every job that document 01 takes
pub record OtherMovements : Type 0 where
  pub every : (j : Job) → Accepted j → OtherMovement j
