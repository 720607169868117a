-- What the tables say of a worker's next access: whether there is one, whether it waits, and whether a state is fine or
-- finished.
use mathlib.Core.Path.{◌≡◌, refl, ap}
use mathlib.Core.Bool.{Bool, true, false}
use mathlib.Core.List.{List}
use Prim.Native.Nat.{ℕ, zero, suc, ◌*◌, ◌/◌, ◌≤◌, ◌<◌}
use native.Mathlib.Omega.{arith}
use lib.ListN.{length, get_or}
use lib.Dec.{leb, ltb}
use borrow.Author.Tests.{eq-eqb, leb-false, ltb-true}
use Rattle.plan.specs.Sound.{max_workers}
use Rattle.run.specs.Job.{Job, workers}
use Rattle.run.specs.Updates.{count, accesses, next, waits}
use Rattle.run.specs.Machine.{reason, refusal, all_made, over, counts_fine, is_state}
use Rattle.run.specs.State.{State}
use Rattle.machine.specs.Code.Tests.{all_below, fine, done}
use Rattle.tables.specs.Code.Laid.{updates_in, Counted, Laid, Waits}
use Rattle.steps.specs.Code.Steps.{row_next, reason_at}
use Rattle.steps.proofs.TableUpdates.{updates-are, row-is-update}
use Rattle.run.proofs.Next.{next-at, next_row}

module _ (j : Job) {first : List ℕ} (c : Counted j first) where
  -- a worker has two accesses for each update
  table-accesses : (w : ℕ) → w < max_workers → 2 * updates_in first w ≡ accesses j w
  unfolding accesses
  table-accesses w l = ap (λ (k : ℕ). 2 * k) (updates-are j c w l)

  -- the counts of the workers below k are not past their accesses
  pub table-fine : (made : List ℕ) (k : ℕ) → k ≤ max_workers → all_below (fine first made) k ≡ counts_fine j made k
  unfolding all_below counts_fine
  table-fine made zero l = refl
  table-fine made (suc w) l = rw (table-accesses w l, table-fine made w (omega arith))

  -- .. are all made
  pub table_done : (made : List ℕ) (k : ℕ) → k ≤ max_workers → all_below (done first made) k ≡ all_made j made k
  unfolding all_below all_made
  table_done made zero l = refl
  table_done made (suc w) l = rw (table-accesses w l, table_done made w (omega arith))

  -- .. of every worker of the plan: the run is finished
  pub table-over : (made : List ℕ) (crew : ℕ) → crew ≡ workers j → workers j ≤ max_workers → all_below (done first made) crew ≡ over j made
  unfolding over
  table-over made crew e l = rw e (table_done made (workers j) l)

  -- n sums: the counts decide whether there is a state
  pub table-state : (s : State) → length s.sums ≡ j.matrix.n → is_state j s ≡ all_below (fine first s.made) max_workers
  unfolding is_state
  table-state s e = rw (eq-eqb (length s.sums) j.matrix.n e, table-fine s.made max_workers (omega arith))

module _ (j : Job) {first row begins leaves ends : List ℕ} (laid : Laid j first row begins leaves ends) where
  -- the entry of the leaf of a worker's next access says whether the worker waits
  table-waits : (made : List ℕ) (blocks : List Bool) → Waits j made blocks → (w : ℕ) → w < max_workers → count made w < accesses j w
      → get_or blocks (get_or leaves (row_next first row made w) 0) false ≡ waits j made w
  unfolding waits next accesses
  table-waits made blocks waiting w l left =
      let low : (next j made w).row < j.matrix.n = rw (next_row j made w left) (next-at j made w left).below in
      let h = laid.leaf (next j made w).row low in
      rw (row-is-update j laid w l (count made w / 2) (omega arith)) (waiting.is (get_or leaves (next j made w).row 0) (next j made w).row h.leaf low h.held)

  -- why a worker's step is refused
  pub table-reason : (made : List ℕ) (blocks : List Bool) → Waits j made blocks → (crew : ℕ) → crew ≡ workers j → crew ≤ max_workers → (w : ℕ)
      → reason_at crew first row leaves blocks made w ≡ refusal j made w
  unfolding refusal reason
  table-reason made blocks waiting crew e few w = rw e (go (ltb w (workers j)) refl (leb (accesses j w) (count made w)) refl)
    where
      go : (a : Bool) → ltb w (workers j) ≡ a → (b : Bool) → leb (accesses j w) (count made w) ≡ b → reason_at (workers j) first row leaves blocks made w ≡ refusal j made w
      go false x b y = rw x
      go true x b y = rw (x, table-accesses j laid.counted w (omega (arith, ltb-true w (workers j) x)), y) (last b y)
        where
          last : (b : Bool) → leb (accesses j w) (count made w) ≡ b → reason true b (get_or blocks (get_or leaves (row_next first row made w) 0) false) ≡ reason true b (waits j made w)
          last true y = refl
          last false y =
              rw (table-waits made blocks waiting w (omega (arith, ltb-true w (workers j) x)) (leb-false (accesses j w) (count made w) y))
