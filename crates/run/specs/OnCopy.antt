-- Q-7: "It equals carrying out the same picks on a copy and looking there, refusals included."
use Rattle.std.specs.Prelude.{◌≡◌, List, ℕ, ℤ}
use Rattle.matrix.specs.Matrix.{Matrix}
use Rattle.run.specs.State.{State}
use Rattle.run.specs.Calls.{answer_lent, after_lent}
use Rattle.run.specs.Answers.{picks, ready_set, preview, shown}

-- whatever the lent lists, the state, also one that no run meets, and the picks
pub record OnCopy : Type 0 where
  -- the answer of the picks, and the ready set of the state that they leave; refused as they are
  pub same : (m : Matrix) (x : List ℤ) (order groups : List ℕ) (count : ℕ) (s : State) (ws : List ℕ)
      → answer_lent m x order groups count s (preview ws)
      ≡ shown (answer_lent m x order groups count s (picks ws)) (answer_lent m x order groups count (after_lent m x order groups count s (picks ws)) ready_set)
  -- "with the state and sums left alone"
  pub left_alone : (m : Matrix) (x : List ℤ) (order groups : List ℕ) (count : ℕ) (s : State) (ws : List ℕ) → after_lent m x order groups count s (preview ws) ≡ s
