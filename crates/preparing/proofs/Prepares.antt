-- prepare on lent lists: a check refuses them, or their job is prepared.
use mathlib.Core.Path.{◌≡◌, sym, ap, ◌∙◌}
use mathlib.Core.List.{List}
use Prim.Native.Nat.{ℕ}
use lib.IntN.{ℤ}
use lib.ListN.{length}
use Rattle.base.specs.Replies.{Reply, accepted, refused, in_turn, lent}
use Rattle.base.proofs.Replies.{lent-refused}
use Rattle.matrix.specs.Matrix.{Matrix}
use Rattle.run.specs.Job.{Job, job_of}
use Rattle.run.specs.Calls.{job_checks}
use Rattle.calls.proofs.InTurn.{turn-refused, turn-accepted}
use Rattle.prepared.specs.Format.{prepared_bytes}
use Rattle.prepared.specs.Prepare.{list_reply, prepare_reply, PreparedFrom}
use Rattle.preparing.specs.Code.Prepared.{PreparedIn}

module _ (m : Matrix) (x : List ℤ) (order groups : List ℕ) (count : ℕ) (old : List ℕ) where
  abbrev job : Job
  job = job_of m x order groups count

  abbrev job_reply : Reply
  job_reply = in_turn refused (job_checks m x order groups count) (accepted 0)

  -- the lists are refused
  pub lists-refused : (q p : ℕ) → refused q p ≡ job_reply → PreparedFrom m x order groups count old (refused q p) old
  unfolding prepare_reply
  lists-refused q p e =
      let r : prepare_reply m x order groups count (length old) ≡ refused q p = turn-refused refused (list_reply job (length old)) (accepted 0) (job_checks m x order groups count) q p (λ u. cc) (sym e) in
      record { replies = sym r; leaves = sym (lent-refused (prepared_bytes job) old _ q p r) }

  -- they are not
  pub lists-prepared : {k : ℕ} → accepted k ≡ job_reply → {j : Job} → j ≡ job → {reply : Reply} {new : List ℕ} → PreparedIn j old reply new → PreparedFrom m x order groups count old reply new
  unfolding prepare_reply
  lists-prepared {k} e {j} is {reply} h =
      let g : PreparedIn job old reply _ = rw is at h in
      let r : reply ≡ prepare_reply m x order groups count (length old) =
      g.replies ∙ sym (turn-accepted refused (list_reply job (length old)) (accepted 0) (job_checks m x order groups count) k (sym e)).1 in
      record { replies = r; leaves = g.leaves ∙ ap (λ (q : Reply). lent q (prepared_bytes job) old) r }
