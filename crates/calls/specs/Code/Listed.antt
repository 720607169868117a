-- What the force list of a run comes to.
use Rattle.std.specs.Prelude.{◌≡◌, Bool, List, leb, ℤ, length}
use Rattle.run.specs.Job.{Job}
use Rattle.run.specs.Machine.{original}
use Rattle.run.specs.Answers as calls
use Rattle.run.specs.Calls.{forces_of, forces_lent}

-- the force list of a job's sums, if its run is over: the answer, and the lent list after it
pub record Listed (j : Job) (is_over : Bool) (sums old : List ℤ) (answer : calls.Answer) (new : List ℤ) : Type 0 where
  pub answers : answer ≡ forces_of is_over (leb j.matrix.n (length old)) j.matrix.n (original j sums)
  pub forces : new ≡ forces_lent answer old
