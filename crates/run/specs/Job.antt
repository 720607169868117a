-- What a run is given: a matrix, displacements and a plan.
use Rattle.std.specs.Prelude.{◌≡◌, true, List, [], ◌∷◌, ℕ, get_or, ℤ}
use Rattle.matrix.specs.Matrix.{Matrix, is_matrix, are_displacements}
use Rattle.plan.specs.Groups.{Plan, plan_of, Group}
use Rattle.plan.specs.Sound.{is_sound}

-- a run keeps its matrix, its displacements and its plan throughout
pub record Job : Type 0 where
  pub matrix : Matrix
  pub displacements : List ℤ
  pub plan : Plan

unfoldable pub workers_of : List Group → ℕ
workers_of [] = 0
workers_of (g ∷ gs) = g.workers

unfoldable pub workers : Job → ℕ
workers j = workers_of j.plan.groups

-- the row at a plan position
unfoldable pub row_at : Job → ℕ → ℕ
row_at j p = get_or j.plan.order p 0

-- the job in lent lists
unfoldable pub job_of : Matrix → List ℤ → (order groups : List ℕ) (count : ℕ) → Job
job_of m x order groups count = record { matrix = m; displacements = x; plan = plan_of m.n order groups count }

-- "its matrix, movements and sound plan are such as document 01 takes"
pub record Accepted (j : Job) : Type 0 where
  pub matrix : is_matrix j.matrix ≡ true
  pub displacements : are_displacements j.matrix.n j.displacements ≡ true
  pub plan : is_sound j.matrix j.plan ≡ true
