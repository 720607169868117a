-- The check of a plan on lists that are cut.
use mathlib.Core.Path.{◌≡◌, ap, ◌∙◌, fun_ext}
use mathlib.Core.Bool.{Bool}
use mathlib.Core.List.{List, [], ◌∷◌}
use Prim.Native.Nat.{ℕ}
use lib.ListN.{take}
use Rattle.base.specs.Replies.{accepted, refused, check, in_turn}
use Rattle.base.specs.Refusals as why
use Rattle.base.proofs.Replies.{in_turn-same}
use Rattle.matrix.specs.Limits.{max_rows}
use Rattle.matrix.specs.Matrix.{Matrix, matrix_check}
use Rattle.matrix.proofs.Matrix.{matrix_facts}
use Rattle.matrix.proofs.Cut.{cut, cut-matrix}
use Rattle.plan.specs.Sound.{is_distance, is_sound_at, plan_lent, is_plan_at, check_reply}
use Rattle.plan.specs.Groups.{Plan}
use Rattle.plan.specs.Code.Room.{max_fields}
use Rattle.plan.proofs.Cut.{cut-lent, cut-sound_at}

module _ (m : Matrix) (order groups : List ℕ) (count k : ℕ) where
  matrix-cut : check_reply (cut m) order groups count k ≡ check_reply m order groups count k
  unfolding check_reply matrix_check is_plan_at
  matrix-cut = rw (cut-matrix m) (in_turn-same refused (matrix_check m) _ _ _ _ (λ ok. ap (λ (test : Plan → Bool). in_turn refused (check why.bad_parameter (is_distance k) ∷ check why.unsound (plan_lent test m order groups count) ∷ []) (accepted 0)) (fun_ext (λ o. cut-sound_at k m o ok))))

  plan-cut : check_reply m (take max_rows order) (take max_fields groups) count k ≡ check_reply m order groups count k
  unfolding check_reply matrix_check is_plan_at
  plan-cut = in_turn-same refused (matrix_check m) _ _ _ _ (λ ok. rw (cut-lent m order groups count (matrix_facts m ok).few (is_sound_at k m)))

-- the lists that a call decodes, cut, for the whole ones
pub decoded_lists : (m : Matrix) (order groups : List ℕ) (count k : ℕ) {c : Matrix} {o g : List ℕ} → c ≡ cut m → o ≡ take max_rows order → g ≡ take max_fields groups
    → check_reply c o g count k ≡ check_reply m order groups count k
decoded_lists m order groups count k ec eo eg = rw (ec, eo, eg) (matrix-cut m (take max_rows order) (take max_fields groups) count k ∙ plan-cut m order groups count k)
