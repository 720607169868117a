-- prepare: the prepared list of a job in lent lists.
use Rattle.std.specs.Prelude.{◌≡◌, List, [], ◌∷◌, ℕ, ℤ, length}
use Rattle.base.specs.Replies.{Reply, accepted, refused, room_for, in_turn, lent}
use Rattle.matrix.specs.Matrix.{Matrix}
use Rattle.run.specs.Job.{Job, job_of}
use Rattle.run.specs.Calls.{job_checks}
use Rattle.prepared.specs.Format.{prepared_bytes}

-- of an accepted job: how many bytes are written, or 9 at their number
unfoldable pub list_reply : Job → (room : ℕ) → Reply
list_reply j room = in_turn refused (room_for (length (prepared_bytes j)) room ∷ []) (accepted (length (prepared_bytes j)))

-- of lent lists, any whatever: 5, 6, 8 come before 9
unfoldable pub prepare_reply : Matrix → List ℤ → (order groups : List ℕ) (count room : ℕ) → Reply
prepare_reply m x order groups count room = in_turn refused (job_checks m x order groups count) (list_reply (job_of m x order groups count) room)

-- the reply, and the lent list after it
pub record PreparedFrom (m : Matrix) (x : List ℤ) (order groups : List ℕ) (count : ℕ) (old : List ℕ) (reply : Reply) (new : List ℕ) : Type 0 where
  pub replies : reply ≡ prepare_reply m x order groups count (length old)
  pub leaves : new ≡ lent (prepare_reply m x order groups count (length old)) (prepared_bytes (job_of m x order groups count)) old
