-- Updates at hand: each is looked up once, for its load and its store.
use Rattle.std.specs.Prelude.{◌≡◌, ◌⊎◌, List, ℕ, ◌%◌, ◌<◌, ℤ, pos, length, get_or, set}
use Rattle.matrix.specs.Limits.{max_rows}
use Rattle.plan.specs.Sound.{max_workers}
use Rattle.run.specs.Updates.{Update, count}
use Rattle.run.specs.State.{State}
use Rattle.steps.specs.Code.Steps.{PickMade}

-- worker w's list entries are those of update u, and nothing refuses the step
pub record Known (cause : ℕ) (u : Update) (target : ℕ) (amount : ℤ) : Type 0 where
  pub free : cause ≡ 0
  pub target_is : target ≡ u.target
  pub amount_is : amount ≡ u.amount

-- Every update that is at hand, where the position of its sum is one, is its worker's next at these counts, and its
-- step is not refused.
pub record AtHand (cause : (made : List ℕ) → ℕ → ℕ) (update : (made : List ℕ) → ℕ → Update) (made targets : List ℕ) (adds : List ℤ) : Type 0 where
  pub made_long : length made ≡ max_workers
  pub targets_long : length targets ≡ max_workers
  pub adds_long : length adds ≡ max_workers
  pub is : (w : ℕ) → w < max_workers → get_or targets w 0 < max_rows → Known (cause made w) (update made w) (get_or targets w 0) (get_or adds w (pos 0))

-- worker w's next update is at hand if nothing refuses its step, which the number tells
pub record Entered (cause : (made : List ℕ) → ℕ → ℕ) (update : (made : List ℕ) → ℕ → Update) (made : List ℕ) (w number : ℕ) (targets : List ℕ) (adds : List ℤ) : Type 0 where
  pub told : number ≡ cause made w
  pub known : number ≡ 0 → get_or targets w 0 < max_rows
  pub hand : AtHand cause update made targets adds

-- an access of worker w by the update at hand, which is still at hand after a load and after a refusal
pub record AccessMade (s : State) (w : ℕ) (targets : List ℕ) (adds : List ℤ) (number : ℕ) (t : State) (targets' : List ℕ) : Type 0 where
  pub is : (u : Update) → get_or targets w 0 ≡ u.target → get_or adds w (pos 0) ≡ u.amount → PickMade 0 s w u number t
  pub left : ((targets' ≡ targets) × (number ≡ 0 → count s.made w % 2 ≡ 0)) ⊎ (targets' ≡ set targets w max_rows)
