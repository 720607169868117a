-- prepare on lists that are cut: the same list.
use mathlib.Core.Path.{◌≡◌, sym, ap, ◌∙◌, fun_ext}
use mathlib.Core.Bool.{true}
use mathlib.Core.List.{List, [], ◌∷◌}
use Prim.Native.Nat.{ℕ}
use lib.IntN.{ℤ}
use lib.ListN.{length, take}
use Rattle.base.specs.Replies.{Reply, accepted, refused, room_for, in_turn, lent}
use Rattle.base.proofs.Replies.{in_turn-map}
use Rattle.matrix.specs.Limits.{max_rows}
use Rattle.matrix.specs.Code.Room.{max_starts}
use Rattle.matrix.specs.Matrix.{Matrix, is_matrix}
use Rattle.matrix.proofs.Cut.{cut}
use Rattle.plan.specs.Groups.{Plan}
use Rattle.plan.specs.Code.Room.{max_fields}
use Rattle.run.specs.Job.{Job, job_of, workers}
use Rattle.run.specs.Updates.{updates, accesses}
use Rattle.run.specs.Calls.{job_checks}
use Rattle.lent.specs.Word.{word}
use Rattle.answers.proofs.CutJobs.{updates-same}
use Rattle.answers.proofs.RunCalls.{job-cut}
use Rattle.prepared.specs.Gates.{end_in, gate}
use Rattle.prepared.specs.Format.{lists_of, prepared_bytes}
use Rattle.prepared.specs.Prepare.{list_reply, prepare_reply, PreparedFrom}
use Rattle.rack.specs.Kept.{PrepareAnswered}

module _ (m : Matrix) (ok : is_matrix m ≡ true) (x : List ℤ) (p : Plan) where
  abbrev whole : Job
  whole = record { matrix = m; displacements = x; plan = p }

  abbrev part : Job
  part = record { matrix = cut m; displacements = x; plan = p }

  accesses-same : accesses part ≡ accesses whole
  unfolding accesses updates
  accesses-same = fun_ext (λ w. rw (updates-same m ok x p))

  updated_same : updates part ≡ updates whole
  unfolding updates
  updated_same = fun_ext (λ w. rw (updates-same m ok x p))

  ends_same : end_in part ≡ end_in whole
  unfolding end_in
  ends_same = fun_ext (λ g. rw (updates-same m ok x p))

  gates-same : gate part ≡ gate whole
  unfolding gate
  gates-same = fun_ext (λ q. fun_ext (λ v. rw ends_same))

  bytes_same : prepared_bytes part ≡ prepared_bytes whole
  unfolding prepared_bytes lists_of workers
  bytes_same = rw (accesses-same, updated_same, gates-same)

module _ (old : List ℕ) where
  -- what is left of the lent list: it stays where a check refuses the call
  left_in_turn : (m : Matrix) (x : List ℤ) (order groups : List ℕ) (count : ℕ) → lent (prepare_reply m x order groups count (length old)) (prepared_bytes (job_of m x order groups count)) old
      ≡ in_turn (λ number place. old) (job_checks m x order groups count) (lent (list_reply (job_of m x order groups count) (length old)) (prepared_bytes (job_of m x order groups count)) old)
  unfolding prepare_reply lent
  left_in_turn m x order groups count =
      let j : Job = job_of m x order groups count in
      in_turn-map (λ (r : Reply). lent r (prepared_bytes j) old) refused (job_checks m x order groups count) (list_reply j (length old))

  module _ (m : Matrix) (x : List ℤ) (order groups : List ℕ) (count : ℕ) where
    reply-cut : prepare_reply (cut m) (take max_starts x) (take max_rows order) (take max_fields groups) count (length old) ≡ prepare_reply m x order groups count (length old)
    unfolding prepare_reply list_reply
    reply-cut =
        job-cut refused (λ j. list_reply j (length old))
        (λ m ok x p. ap (λ (bs : List ℕ). in_turn refused (room_for (length bs) (length old) ∷ []) (accepted (length bs))) (bytes_same m ok x p)) m x order groups count

    left_cut : lent (prepare_reply (cut m) (take max_starts x) (take max_rows order) (take max_fields groups) count (length old)) (prepared_bytes (job_of (cut m) (take max_starts x) (take max_rows order) (take max_fields groups) count)) old
        ≡ lent (prepare_reply m x order groups count (length old)) (prepared_bytes (job_of m x order groups count)) old
    unfolding list_reply
    left_cut =
        left_in_turn (cut m) (take max_starts x) (take max_rows order) (take max_fields groups) count
        ∙ job-cut (λ number place. old) (λ j. lent (list_reply j (length old)) (prepared_bytes j) old)
        (λ m ok x p. ap (λ (bs : List ℕ). lent (in_turn refused (room_for (length bs) (length old) ∷ []) (accepted (length bs))) bs old) (bytes_same m ok x p)) m x order groups count
        ∙ sym (left_in_turn m x order groups count)

-- the lists that a call decodes, cut, for the whole ones
pub prepared-whole : (m : Matrix) (x : List ℤ) (order groups : List ℕ) (count : ℕ) {d : Matrix} {y : List ℤ} {o g : List ℕ} → d ≡ cut m → y ≡ take max_starts x → o ≡ take max_rows order → g ≡ take max_fields groups
    → (old : List ℕ) {reply : Reply} {new : List ℕ} {w : ℕ} → PreparedFrom d y o g count old reply new → w ≡ word reply
    → PrepareAnswered m x order groups count old w new
prepared-whole m x order groups count ed ey eo eg old h f =
    let k = rw (ed, ey, eo, eg) at h in
    record { returns = f ∙ ap word (k.replies ∙ reply-cut old m x order groups count); leaves = k.leaves ∙ left_cut old m x order groups count }
