-- One load or store by what it does: by document 01's sentences, and not by the machine's functions.
use Rattle.std.specs.Prelude.{◌≡◌, List, [], ◌∷◌, ◌++◌, ℕ, suc, ◌<◌, length, get_or, set, ℤ, pos, ◌+ℤ◌}
use Rattle.run.specs.Job.{Job}
use Rattle.run.specs.Updates.{Update, count, updates}
use Rattle.run.specs.State.{State}

-- document 01's move
pub data Access : Type 0 where
  loads : Update → Access
  stores : Update → Access

-- "loads and stores": a worker's accesses, of its updates in their order
unfoldable pub loads_and_stores : List Update → List Access
loads_and_stores [] = []
loads_and_stores (u ∷ us) = loads u ∷ stores u ∷ loads_and_stores us

-- the position of its sum
unfoldable pub sum_of : Access → ℕ
sum_of (loads u) = u.target
sum_of (stores u) = u.target

-- "Loading copies a sum to the worker's held number; storing .. leaves the held number"
unfoldable pub held_after : Access → (w : ℕ) (held sums : List ℤ) → List ℤ
held_after (loads u) w held sums = set held w (get_or sums u.target (pos 0))
held_after (stores u) w held sums = held

-- "storing puts held number plus product"; loading changes no sum
unfoldable pub sums_after : Access → (w : ℕ) (held sums : List ℤ) → List ℤ
sums_after (loads u) w held sums = sums
sums_after (stores u) w held sums = set sums u.target (get_or held w (pos 0) +ℤ u.amount)

-- from s to t by the one load or store that document 01 gives worker w next, and by nothing else
pub record OneAccess (j : Job) (s : State) (w : ℕ) (t : State) : Type 0 where
  -- the worker's accesses: those that it has made, this one, those that are left
  pub before : List Access
  pub this : Access
  pub left : List Access
  pub all : loads_and_stores (updates j w) ≡ before ++ (this ∷ left)
  pub next : count s.made w ≡ length before
  -- its count goes up by one; the held number and the sum are as above; every other number of the state stays
  pub made : t.made ≡ set s.made w (suc (count s.made w))
  pub held : t.held ≡ held_after this w s.held s.sums
  pub sums : t.sums ≡ sums_after this w s.held s.sums
  -- where something is set, there is such a place
  pub counts : w < length s.made
  pub holds : w < length s.held
  pub inside : sum_of this < length s.sums

-- .. by one such access of each of these workers, in turn
pub data Walk (j : Job) : State → List ℕ → State → Type 0 where
  stay : {s : State} → Walk j s [] s
  and_then : {s t e : State} {w : ℕ} {ws : List ℕ} → OneAccess j s w t → Walk j t ws e → Walk j s (w ∷ ws) e
