-- One pick for one of two crews, by the tables: it is the pick of the definitions.
use mathlib.Core.Path.{◌≡◌, refl, sym, ap, ap₂, ◌∙◌}
use mathlib.Core.Logic.{◌⊎◌, inl, inr, ◌≢◌}
use mathlib.Core.Bool.{Bool, true, false, ◌&&◌}
use mathlib.Core.List.{List}
use Prim.Native.Nat.{ℕ, zero, suc, ◌+◌, ◌*◌, ◌/◌, ◌%◌, ◌≤◌, ◌<◌}
use native.Mathlib.Omega.{arith}
use lib.Dec.{leb, ltb}
use lib.IntN.{ℤ}
use lib.ListN.{length, get_or}
use borrow.Author.Tests.{ltb-true, lt-ltb, leb-true, leb-false}
use Rattle.base.specs.Refusals as why
use Rattle.base.proofs.Booleans.{same_test}
use Rattle.plan.specs.Sound.{max_workers}
use Rattle.run.specs.Job.{Job, workers}
use Rattle.run.specs.Updates.{Update, count, up_to, updates, accesses, next}
use Rattle.run.specs.State.{State}
use Rattle.run.specs.Machine.{reason, refusal, moved, halted, step_if}
use Rattle.run.proofs.Able.{able, in_order_lem}
use Rattle.tables.specs.Code.Laid.{updates_in, Laid, Waits}
use Rattle.steps.specs.Code.Updates.{update_in, Triangle}
use Rattle.steps.specs.Code.Steps.{row_next, number_next, reason_at, outcome_of, PickMade}
use Rattle.steps.proofs.TableUpdates.{updates-are, begins-is, row_is, row-is-update}
use Rattle.steps.proofs.GivenTables.{triangle-ahead}
use Rattle.machine.proofs.TableWaits.{table-reason}
use Rattle.crews.specs.Crews.{Crew, other, crew_number, Two, own_of, put_for, Roof, job_for, in_row, is_away, unless_away, crew_refusal, crew_step, for_both, turn}
use Rattle.crews.proofs.Turns.{not_away, crew_end, who, turn-for, turn-none}
use Rattle.turns.specs.Code.Inside.{inside_at}
use Rattle.turns.specs.Code.Turned.{misnamed}

-- ---- away or not

-- a worker that is away is refused
pub always_away : (k : ℕ) → unless_away k true ≡ 0 → ⊥
unfolding unless_away
always_away zero e = omega arith
always_away (suc k) e = omega arith

-- .. and one that is not, by its own crew's counts alone
pub never_away : (k : ℕ) → unless_away k false ≡ k
unfolding unless_away
never_away zero = refl
never_away (suc k) = refl

-- a reason of its own counts comes first
pub counts_first : (k : ℕ) (b : Bool) → k ≢ 0 → k ≡ unless_away k b
unfolding unless_away
counts_first zero b d = absurd (d refl)
counts_first (suc k) b d = refl

pub away_alone : unless_away 0 true ≡ why.elsewhere
unfolding unless_away
away_alone = refl

-- who is inside a row by the tables is inside one
module _ (j : Job) {first row begins leaves ends : List ℕ} (laid : Laid j first row begins leaves ends) (made : List ℕ) (w : ℕ) (l : w < max_workers) where
  -- the place of its row's first update, from the worker's first on
  begins_at : count made w < accesses j w → get_or begins (row_next first row made w) 0 ≡ get_or first w 0 + length (up_to j w (next j made w).row)
  unfolding accesses next
  begins_at h =
      let k : ℕ = count made w / 2 in
      let low : count made w / 2 < length (updates j w) = omega arith in
      ap (λ (p : ℕ). get_or begins p 0) (row_is j laid w l k low) ∙ begins-is j laid w l k low
      ∙ ap (λ (p : ℕ). get_or first w 0 + length (up_to j w p)) (sym (row_is j laid w l k low) ∙ row-is-update j laid w l k low)

  pub inside-table : inside_at first row begins made w ≡ in_row j made w
  unfolding in_row
  inside-table = ap (λ (k : ℕ). ltb (count made w) k && begun) all ∙ go (ltb (count made w) (accesses j w)) refl
    where
      begun : Bool
      begun = ltb (2 * get_or begins (row_next first row made w) 0) (2 * get_or first w 0 + count made w)

      all : 2 * updates_in first w ≡ accesses j w
      all = unfold accesses in (ap (λ (k : ℕ). 2 * k) (updates-are j laid.counted w l))

      go : (b : Bool) → ltb (count made w) (accesses j w) ≡ b → b && begun ≡ b && ltb (2 * length (up_to j w (next j made w).row)) (count made w)
      go false e = refl
      go true e =
          let at = begins_at (ltb-true (count made w) (accesses j w) e) in
          same_test begun (ltb (2 * length (up_to j w (next j made w).row)) (count made w))
          (λ h. lt-ltb (2 * length (up_to j w (next j made w).row)) (count made w) (omega (arith, at, ltb-true (2 * get_or begins (row_next first row made w) 0) (2 * get_or first w 0 + count made w) h)))
          (λ h. lt-ltb (2 * get_or begins (row_next first row made w) 0) (2 * get_or first w 0 + count made w) (omega (arith, at, ltb-true (2 * length (up_to j w (next j made w).row)) (count made w) h)))

-- ---- a pick of a worker of the plan

module _ (q : Roof) (S : Two State) (c : Crew) {first row begins leaves ends : List ℕ} (laid : (d : Crew) → Laid (job_for q d) first row begins leaves ends)
    {parts : List ℕ} {displaced : List ℤ} {at : List ℕ} {beside : List ℤ} (t : Triangle (job_for q c) parts displaced at beside)
    (few : workers (job_for q c) ≤ max_workers) {blocks : List Bool} (waiting : Waits (job_for q c) (own_of S c).made blocks) (w : ℕ) (low : w < workers (job_for q c)) where
  abbrev j : Job
  j = job_for q c

  abbrev made : List ℕ
  made = (own_of S c).made

  -- the update of its next access
  abbrev update : Update
  update = update_in parts displaced at beside (row_next first row made w) (number_next first row begins made w)

  -- why it is refused
  abbrev reason_for : ℕ
  reason_for = unless_away (reason_at max_workers first row leaves blocks made w) (inside_at first row begins (own_of S (other c)).made w)

  reason-is : reason_for ≡ crew_refusal q S c w
  unfolding crew_refusal is_away
  reason-is =
      ap₂ unless_away
      (ap (λ (b : Bool). reason b (leb (2 * updates_in first w) (count made w)) (get_or blocks (get_or leaves (row_next first row made w) 0) false)) (lt-ltb w max_workers (omega arith) ∙ sym (lt-ltb w (workers j) low)) ∙ table-reason j (laid c) made blocks waiting (workers j) refl few w)
      (inside-table (job_for q (other c)) (laid (other c)) (own_of S (other c)).made w (omega arith))

  step_is : step_if reason_for (own_of S c) w update ≡ crew_step q S c w
  unfolding crew_step
  step_is = ap (λ (k : ℕ). step_if k (own_of S c) w update) reason-is ∙ go (crew_refusal q S c w) refl
    where
      go : (k : ℕ) → crew_refusal q S c w ≡ k → step_if k (own_of S c) w update ≡ step_if k (own_of S c) w (next j made w)
      go (suc k) e = unfold step_if in refl
      go zero e =
          let a = able j made w (not_away (refusal j made w) (is_away q S c w) (unfold crew_refusal in e)).0 in
          let f : update ≡ next j made w = (triangle-ahead j (laid c) t made 1).is made w (omega arith) (omega arith) (omega arith) a.left in
          ap (λ (u : Update). step_if 0 (own_of S c) w u) f

  -- what the code answers and leaves is its outcome
  pub turn-answer : {number : ℕ} {new : State} → PickMade reason_for (own_of S c) w update number new → crew_step q S c w ≡ outcome_of number new
  turn-answer h = sym step_is ∙ sym h.is

-- .. for both
both-halted : (S : Two State) (c : Crew) (number : ℕ) (t : State) → number ≢ 0 → for_both S c (outcome_of number t) ≡ halted number
unfolding for_both outcome_of
both-halted S c zero t d = absurd (d refl)
both-halted S c (suc k) t d = refl

both-moved : (S : Two State) (c : Crew) (number : ℕ) (t : State) → number ≡ 0 → for_both S c (outcome_of number t) ≡ moved (put_for S c t)
unfolding for_both outcome_of
both-moved S c number t e = rw e refl

module _ (q : Roof) (S : Two State) (c : Crew) (byte : ℕ) (named : byte / max_workers ≡ crew_number c) {number : ℕ} (new : State) (h : crew_step q S c (byte % max_workers) ≡ outcome_of number new) where
  pub turn_halts : number ≢ 0 → turn q S byte ≡ halted number
  turn_halts d = turn-for q S byte c named ∙ ap (for_both S c) h ∙ both-halted S c number new d

  pub turn-moves : number ≡ 0 → turn q S byte ≡ moved (put_for S c new)
  turn-moves e = turn-for q S byte c named ∙ ap (for_both S c) h ∙ both-moved S c number new e

-- ---- a byte that names no crew, or no worker of the plan

pub name_halts : (q : Roof) (S : Two State) (byte crew : ℕ) → ((c : Crew) → crew ≡ workers (job_for q c)) → misnamed byte crew ≢ 0 → turn q S byte ≡ halted (misnamed byte crew)
unfolding crew_refusal unless_away
name_halts q S byte crew is d = go (leb (2 * max_workers) byte) refl (leb crew (byte % max_workers)) refl
  where
    go : (a : Bool) → leb (2 * max_workers) byte ≡ a → (b : Bool) → leb crew (byte % max_workers) ≡ b → turn q S byte ≡ halted (misnamed byte crew)
    go true x b y = rw x (turn-none q S byte (omega (arith, leb-true (2 * max_workers) byte x)))
    go false x false y = absurd (d (rw (x, y) refl))
    go false x true y = rw (x, y) (by (who byte))
      where
        by : ((c : Crew) × (byte / max_workers ≡ crew_number c)) ⊎ (2 ≤ byte / max_workers) → turn q S byte ≡ halted why.no_worker
        by (inr l) = absurd (omega (arith, leb-false (2 * max_workers) byte x))
        by (inl (c, n)) = turn-for q S byte c n ∙ ap (for_both S c) (crew_end q S c (byte % max_workers) 9 refused) ∙ unfold for_both in refl
          where
            refused : crew_refusal q S c (byte % max_workers) ≡ suc 9
            refused = rw ((in_order_lem.every (job_for q c) (own_of S c).made (byte % max_workers)).stranger (omega (arith, is c, leb-true crew (byte % max_workers) y))) refl

-- a byte that names both
pub named-low : (byte crew : ℕ) → misnamed byte crew ≡ 0 → (byte < 2 * max_workers) × (byte % max_workers < crew)
named-low byte crew e = go (leb (2 * max_workers) byte) refl (leb crew (byte % max_workers)) refl
  where
    go : (a : Bool) → leb (2 * max_workers) byte ≡ a → (b : Bool) → leb crew (byte % max_workers) ≡ b → (byte < 2 * max_workers) × (byte % max_workers < crew)
    go true x b y = absurd (let z : why.no_crew ≡ 0 = sym (rw x refl) ∙ e in omega arith)
    go false x true y = absurd (let z : why.no_worker ≡ 0 = sym (rw (x, y) refl) ∙ e in omega arith)
    go false x false y = (leb-false (2 * max_workers) byte x, leb-false crew (byte % max_workers) y)

-- ---- who is ready

-- a worker whose next pick for a crew would be taken, by the tables
pub free-is : (q : Roof) (S : Two State) (c : Crew) {first row begins leaves ends : List ℕ} → ((d : Crew) → Laid (job_for q d) first row begins leaves ends) → (crew : ℕ) → crew ≡ workers (job_for q c) → crew ≤ max_workers
    → (blocks : List Bool) → Waits (job_for q c) (own_of S c).made blocks → (w : ℕ) → w < max_workers
    → unless_away (reason_at crew first row leaves blocks (own_of S c).made w) (inside_at first row begins (own_of S (other c)).made w) ≡ crew_refusal q S c w
unfolding crew_refusal is_away
free-is q S c laid crew e few blocks waiting w l =
    ap₂ unless_away (table-reason (job_for q c) (laid c) (own_of S c).made blocks waiting crew e few w) (inside-table (job_for q (other c)) (laid (other c)) (own_of S (other c)).made w l)
