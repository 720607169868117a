-- The checks of a call's lent lists, 5, 6, 8 in turn: what the code finds, and what an accepted job is.
use mathlib.Core.Path.{◌≡◌, sym, ◌∙◌}
use mathlib.Core.Bool.{Bool, true, false}
use mathlib.Core.List.{List, [], ◌∷◌}
use Prim.Native.Nat.{ℕ, ◌*◌}
use lib.IntN.{ℤ}
use lib.Dec.{leb}
use lib.ListN.{length}
use borrow.Author.Tests.{leb-true}
use Rattle.base.specs.Refusals as why
use Rattle.base.specs.Replies.{Reply, accepted, refused, Check, in_turn}
use Rattle.base.proofs.Booleans.{conj_first, conj_at}
use Rattle.base.proofs.Replies.{in_turn-pass, in_turn_fail, checked, checked_accepted, accepted-all}
use Rattle.matrix.specs.Matrix.{Matrix, is_matrix, matrix_check, displacement_check}
use Rattle.plan.specs.Groups.{width, plan_of}
use Rattle.plan.specs.Sound.{max_groups, is_sound, is_plan, plan_check}
use Rattle.run.specs.Job.{job_of}
use Rattle.run.specs.Calls.{job_checks}
use Rattle.layout.specs.Code.UpdateTable.{Given}
use Rattle.calls.proofs.InTurn.{turn-refused}

module _ (m : Matrix) (x : List ℤ) (order groups : List ℕ) (count : ℕ) where
  abbrev reply : Reply
  reply = in_turn refused (job_checks m x order groups count) (accepted 0)

  abbrev later : List Check
  later = displacement_check m.n x ∷ plan_check m order groups count ∷ []

  -- no matrix
  pub job_unmade : is_matrix m ≡ false → reply ≡ refused why.not_matrix 0
  unfolding job_checks matrix_check
  job_unmade h = in_turn_fail refused (matrix_check m) later (accepted 0) h

  module _ (h : is_matrix m ≡ true) where
    matrix-pass : reply ≡ in_turn refused later (accepted 0)
    unfolding job_checks matrix_check
    matrix-pass = in_turn-pass refused (matrix_check m) later (accepted 0) h

    -- displacements that are refused by themselves
    pub job-unmoved : (q p : ℕ) → refused q p ≡ checked (displacement_check m.n x) → reply ≡ refused q p
    unfolding in_turn
    job-unmoved q p e = matrix-pass ∙ turn-refused refused (in_turn refused (plan_check m order groups count ∷ []) (accepted 0)) (accepted 0) (displacement_check m.n x ∷ []) q p (λ u. cc) (sym e)

    module _ (k : ℕ) (e : accepted k ≡ checked (displacement_check m.n x)) where
      moved-pass : reply ≡ checked (plan_check m order groups count)
      moved-pass = matrix-pass ∙ in_turn-pass refused (displacement_check m.n x) (plan_check m order groups count ∷ []) (accepted 0) (checked_accepted (displacement_check m.n x) k e)

      -- no plan for it
      pub job-unsound : is_plan m order groups count ≡ false → reply ≡ refused why.unsound 0
      unfolding plan_check
      job-unsound s = moved-pass ∙ in_turn_fail refused (plan_check m order groups count) [] (accepted 0) s

      -- all is as it should be
      pub job-taken : is_plan m order groups count ≡ true → reply ≡ accepted 0
      unfolding plan_check in_turn
      job-taken s = moved-pass ∙ rw s

  -- lists that pass hold an accepted job
  pub job-given : (k : ℕ) → reply ≡ accepted k → Given m.n m.starts m.columns m.values x order groups count
  unfolding job_checks matrix_check displacement_check plan_check is_plan job_of
  job-given k e =
      let all = accepted-all (job_checks m x order groups count) (accepted 0) k e in
      let plan : is_plan m order groups count ≡ true = all.1.1.0 in
      let bs : List Bool = leb count max_groups ∷ leb (width * count) (length groups) ∷ is_sound m (plan_of m.n order groups count) ∷ [] in
      record {
        accepted = record { matrix = all.0; displacements = all.1.0; plan = conj_at (leb m.n (length order)) bs plan 2 };
        order_long = leb-true m.n (length order) (conj_first (leb m.n (length order)) bs plan);
        groups_long = leb-true (width * count) (length groups) (conj_at (leb m.n (length order)) bs plan 1);
      }
