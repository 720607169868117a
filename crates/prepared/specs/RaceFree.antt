-- Theorem race_free: workers that share the sums without a lock. A worker looks, before a row, at the counts that the
-- others have shown; it makes all accesses of the row without looking again, and shows its own count when it likes.
use Rattle.std.specs.Prelude.{◌≡◌, ◌⊎◌, ◌≢◌, true, false, List, [], ◌∷◌, ℕ, suc, ◌/◌, ◌<◌, length, get_or, replicate, set, pos}
use Rattle.matrix.specs.Product.{product}
use Rattle.plan.specs.Sound.{max_workers}
use Rattle.run.specs.Job.{Job, Accepted}
use Rattle.run.specs.Updates.{Update, count, accesses, next, waits}
use Rattle.run.specs.Machine.{over, original}
use Rattle.run.specs.State.{State, fresh}
use Rattle.run.specs.Answers.{picks, picked}
use Rattle.run.specs.OneAccess.{OneAccess}
use Rattle.run.specs.EveryRun.{run_state, run_answers}
use Rattle.prepared.specs.Gates.{gate, behind}
use Rattle.prepared.specs.Tables.{update_at}

-- ---- the order of accesses

-- the update that access number k of worker v belongs to
abbrev pub accessed : Job → (v k : ℕ) → Update
accessed j v k = update_at j v (k / 2)

-- access number k of worker v is made before the row of access number l of worker w is begun
abbrev pub Before : Job → (v k w l : ℕ) → Type 0
Before j v k w l = k < gate j (accessed j w l).row v

pub record Ordered (j : Job) : Type 0 where
  -- the gates are document 01's wait, neither more nor less, whatever the counts
  pub gates : (made : List ℕ) (w : ℕ) → waits j made w ≡ behind made (gate j (next j made w).row) max_workers
  -- of any two accesses by different workers to one sum, one is made before the other's row is begun
  pub conflicts : (v w k l : ℕ) → v ≢ w → k < accesses j v → l < accesses j w → (accessed j v k).target ≡ (accessed j w l).target
      → Before j v k w l ⊎ Before j w l v k
  -- and no two accesses, of whatever sums, are each to be made before the other
  pub one_way : (v w k l : ℕ) → k < accesses j v → l < accesses j w → Before j v k w l → Before j w l v k → ⊥
  -- of its own worker a row waits only for accesses before it
  pub own : (w k l : ℕ) → l < accesses j w → Before j w k w l → k < l

-- ---- what workers do without a lock

-- the run's state, and the count that each worker has shown last
pub record Memory : Type 0 where
  pub state : State
  pub shown : List ℕ

unfoldable pub clear : (n : ℕ) → Memory
clear n = record { state = fresh n; shown = replicate max_workers 0 }

-- worker w is inside a row: its last access and its next one are of the same row
abbrev pub Inside : Job → (made : List ℕ) → ℕ → Type 0
Inside j made w = (k : ℕ) × (count made w ≡ suc k) × ((accessed j w k).row ≡ (accessed j w (suc k)).row)

-- it may make its next access: it is inside a row, or the counts shown have reached the gate of the row it comes to
abbrev pub Free : Job → Memory → ℕ → Type 0
Free j m w = Inside j m.state.made w ⊎ (behind m.shown (gate j (next j m.state.made w).row) max_workers ≡ false)

-- worker w has shown its count
unfoldable pub showing : Memory → (w : ℕ) → Memory
showing m w = record { state = m.state; shown = set m.shown w (count m.state.made w) }

-- from one memory to another by the accesses of these workers, in turn, each of which was free to make it; between them
-- any worker shows its count at any time
pub data Unlocked (j : Job) : Memory → List ℕ → Memory → Type 0 where
  rests : {m : Memory} → Unlocked j m [] m
  makes : {m e : Memory} {t : State} {w : ℕ} {ws : List ℕ} → Free j m w → OneAccess j m.state w t → Unlocked j (record { state = t; shown = m.shown }) ws e → Unlocked j m (w ∷ ws) e
  shows : {m e : Memory} (w : ℕ) {ws : List ℕ} → Unlocked j (showing m w) ws e → Unlocked j m ws e

pub record UnlockedRun (j : Job) (ws : List ℕ) (m : Memory) : Type 0 where
  -- it is the run by one list of picks, the workers in their turns, all of which document 01's machine takes: none
  -- waits, no sum passes 64 bits, and every_run speaks of it
  pub same : m.state ≡ run_state j (picks ws ∷ [])
  pub taken : run_answers j (picks ws ∷ []) ≡ picked (length ws) 0 0 ∷ []
  -- when all accesses are made, the sums in original order are the full product
  pub whole : over j m.state.made ≡ true → original j m.state.sums ≡ product j.matrix j.displacements
  -- who is free to make an access can make it
  pub can_make : (w : ℕ) → count m.state.made w < accesses j w → Free j m w → (t : State) × OneAccess j m.state w t
  -- until all are made some worker comes to make one more, once counts are shown: nobody waits in a circle
  pub goes_on : over j m.state.made ≡ false → (w : ℕ) × (e : Memory) × Unlocked j m (w ∷ []) e

-- two courses of one job, in both of which worker w is free to make the same access: it finds the same number there
pub record SameLoads (j : Job) (m e : Memory) : Type 0 where
  pub found : (w : ℕ) → count m.state.made w ≡ count e.state.made w → count m.state.made w < accesses j w → Free j m w → Free j e w
      → get_or m.state.sums (next j m.state.made w).target (pos 0) ≡ get_or e.state.sums (next j m.state.made w).target (pos 0)

-- every accepted job, and every course that its workers take
pub record RaceFree : Type 0 where
  pub ordered : (j : Job) → Accepted j → Ordered j
  pub unlocked : (j : Job) → Accepted j → (ws : List ℕ) (m : Memory) → Unlocked j (clear j.matrix.n) ws m → UnlockedRun j ws m
  pub same_loads : (j : Job) → Accepted j → (vs ws : List ℕ) (m e : Memory) → Unlocked j (clear j.matrix.n) vs m → Unlocked j (clear j.matrix.n) ws e → SameLoads j m e
