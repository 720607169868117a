-- What preparing an accepted job comes to.
use Rattle.std.specs.Prelude.{◌≡◌, List, ℕ, length}
use Rattle.base.specs.Replies.{Reply, lent}
use Rattle.run.specs.Job.{Job}
use Rattle.prepared.specs.Format.{prepared_bytes}
use Rattle.prepared.specs.Prepare.{list_reply}

-- its reply, and the lent list after it
pub record PreparedIn (j : Job) (old : List ℕ) (reply : Reply) (new : List ℕ) : Type 0 where
  pub replies : reply ≡ list_reply j (length old)
  pub leaves : new ≡ lent reply (prepared_bytes j) old
