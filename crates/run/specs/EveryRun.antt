-- Demand 3, sentence by sentence: what holds of every run that begins fresh.
use Rattle.std.specs.Prelude.{◌≡◌, Bool, true, false, List, [], ◌∷◌, ℕ, ◌+◌, ◌*◌, ◌≤◌, ◌<◌, length, get_or, ℤ, pos}
use Rattle.matrix.specs.Matrix.{adjacent_pairs}
use Rattle.matrix.specs.Product.{force_at, product}
use Rattle.run.specs.Job.{Job, Accepted, row_at, workers}
use Rattle.run.specs.Plain.{Plain}
use Rattle.run.specs.Machine.{original}
use Rattle.run.specs.State.{State, fresh}
use Rattle.run.specs.OneAccess.{Walk}
use Rattle.run.specs.Calls.{answer, after}
use Rattle.run.specs.Answers.{Call, picks, ready_set, force_list, Answer, picked, is_ready, forces, denied, previewed}
use Rattle.run.specs.Sequence.{answers_from, state_after}
use Rattle.run.specs.Model.{no_counts, is_finished, taken_picks, model_answers, model_counts}

-- how many steps a call took, and a list of calls
unfoldable pub taken_of : Answer → ℕ
taken_of (picked taken number place) = taken
taken_of (is_ready bits count) = 0
taken_of (forces zs) = 0
taken_of (denied number place) = 0
taken_of (previewed taken number place bits count) = 0

unfoldable pub taken_in : List Answer → ℕ
taken_in [] = 0
taken_in (a ∷ as') = taken_of a + taken_in as'

-- "Each run begins fresh": its state after a list of calls, and its answers
unfoldable pub run_state : Job → List Call → State
run_state j cs = state_after (after j) (fresh j.matrix.n) cs

unfoldable pub run_answers : Job → List Call → List Answer
run_answers j cs = answers_from (answer j) (after j) (fresh j.matrix.n) cs

-- "The run is finished when all counts are all their workers' moves"
unfoldable pub finished_run : Job → List Call → Bool
finished_run j cs = is_finished j (model_counts j no_counts cs)

-- "its force list, which is its sums put in original order"
unfoldable pub run_forces : Job → List Call → List ℤ
run_forces j cs = original j (run_state j cs).sums

-- the steps of a whole run: "two for each freedom and four for each joined pair"
unfoldable pub whole_run : Job → ℕ
whole_run j = 2 * j.matrix.n + 4 * adjacent_pairs j.matrix

pub record EveryRun (j : Job) (cs : List Call) : Type 0 where
  -- "the answers of all the calls .. are those of document 01's book for that list" (so 11 and 14 are never met)
  pub answered : run_answers j cs ≡ model_answers j no_counts cs
  -- "and the count of moves that each worker has made after them"
  pub counted : (run_state j cs).made ≡ model_counts j no_counts cs
  -- "each pick taken makes just the one load or store on the sums that document 01 gives its worker next":
  -- from all 0 the run came to its state by one access for each pick that the book takes, and by nothing else
  pub walked : Walk j (fresh j.matrix.n) (taken_picks j no_counts cs) (run_state j cs)
  -- "A run is finished exactly when the picks taken are two for each freedom and four for each joined pair"
  pub enough : finished_run j cs ≡ true → taken_in (run_answers j cs) ≡ whole_run j
  pub only_then : taken_in (run_answers j cs) ≡ whole_run j → finished_run j cs ≡ true
  -- "its force list, which is its sums put in original order": the row at plan position p has the sum at p
  pub long : length (run_forces j cs) ≡ j.matrix.n
  pub in_place : (p : ℕ) → p < j.matrix.n → get_or (run_forces j cs) (row_at j p) (pos 0) ≡ get_or (run_state j cs).sums p (pos 0)
  -- "its force list .. is then its own full product, entry by entry"
  pub forced : finished_run j cs ≡ true → (room : ℕ) → j.matrix.n ≤ room → answer j (run_state j cs) (force_list room) ≡ forces (run_forces j cs)
  pub entries : finished_run j cs ≡ true → (i : ℕ) → i < j.matrix.n → get_or (run_forces j cs) i (pos 0) ≡ force_at j.matrix j.displacements i
  pub whole : finished_run j cs ≡ true → run_forces j cs ≡ product j.matrix j.displacements
  -- "Until a run is finished some worker can move": a call with one pick of it takes it
  pub can_move : finished_run j cs ≡ false → (w : ℕ) × (w < workers j) × (answer j (run_state j cs) (picks (w ∷ [])) ≡ picked 1 0 0)
  -- "it is empty only in a finished run, if begun fresh"
  pub ready-set : finished_run j cs ≡ false → (bits count : ℕ) × (answer j (run_state j cs) ready_set ≡ is_ready bits count) × (1 ≤ count)

-- "Two finished runs over equally many freedoms, whatever their matrices, movements, plans, workers and picks, leave
-- equal force lists exactly when their two full products are equal"
pub record EqualForces (j k : Job) (cs ds : List Call) : Type 0 where
  pub products : run_forces j cs ≡ run_forces k ds → product j.matrix j.displacements ≡ product k.matrix k.displacements
  pub lists : product j.matrix j.displacements ≡ product k.matrix k.displacements → run_forces j cs ≡ run_forces k ds

pub record Demand3 : Type 0 where
  -- what the definitions of the moves and of the wait come to
  pub plain : (j : Job) → Accepted j → Plain j
  pub every_run : (j : Job) → Accepted j → (cs : List Call) → EveryRun j cs
  -- walked leaves no choice: the picks taken give the state
  pub one_way : (j : Job) (ws : List ℕ) (s t u : State) → Walk j s ws t → Walk j s ws u → t ≡ u
  pub equal_forces : (j k : Job) → Accepted j → Accepted k → (cs ds : List Call) → j.matrix.n ≡ k.matrix.n → finished_run j cs ≡ true → finished_run k ds ≡ true → EqualForces j k cs ds
