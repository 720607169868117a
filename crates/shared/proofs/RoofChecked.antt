-- The checks of a call for both, 5; 6 of crew 0, of crew 1; 8 in turn: what the code finds, and what an accepted roof
-- is.
use mathlib.Core.Path.{◌≡◌, refl, sym, ◌∙◌}
use mathlib.Core.Bool.{true, false}
use mathlib.Core.List.{List, [], ◌∷◌}
use Prim.Native.Nat.{ℕ}
use lib.IntN.{ℤ}
use Rattle.base.specs.Refusals as why
use Rattle.base.specs.Replies.{Reply, accepted, refused, Check, in_turn}
use Rattle.base.proofs.Replies.{in_turn-pass, in_turn_fail, checked, checked_accepted, accepted-all}
use Rattle.matrix.specs.Matrix.{Matrix, is_matrix, matrix_check, displacement_check}
use Rattle.plan.specs.Sound.{is_plan, plan_check}
use Rattle.run.specs.Calls.{job_checks}
use Rattle.layout.specs.Code.UpdateTable.{Given}
use Rattle.calls.proofs.InTurn.{turn-refused}
use Rattle.calls.proofs.JobChecked.{job-given}
use Rattle.crews.specs.Crews.{Crew, crew0, crew1, Two, own_of}
use Rattle.crews.specs.Calls.{roof_checks}

-- a check that refuses by itself refuses before all later ones
refused-first : (c : Check) (cs : List Check) (q p : ℕ) → refused q p ≡ checked c → in_turn refused (c ∷ cs) (accepted 0) ≡ refused q p
unfolding in_turn
refused-first c cs q p e = turn-refused refused (in_turn refused cs (accepted 0)) (accepted 0) (c ∷ []) q p (λ u. cc) (sym e)

module _ (m : Matrix) (x : Two (List ℤ)) (order groups : List ℕ) (count : ℕ) where
  abbrev reply : Reply
  reply = in_turn refused (roof_checks m x order groups count) (accepted 0)

  abbrev moves0 : Check
  moves0 = displacement_check m.n x.of0

  abbrev moves1 : Check
  moves1 = displacement_check m.n x.of1

  abbrev planned : Check
  planned = plan_check m order groups count

  -- no matrix
  pub roof_unmade : is_matrix m ≡ false → reply ≡ refused why.not_matrix 0
  unfolding roof_checks matrix_check
  roof_unmade h = in_turn_fail refused (matrix_check m) (moves0 ∷ moves1 ∷ planned ∷ []) (accepted 0) h

  module _ (h : is_matrix m ≡ true) where
    matrix-pass : reply ≡ in_turn refused (moves0 ∷ moves1 ∷ planned ∷ []) (accepted 0)
    unfolding roof_checks matrix_check
    matrix-pass = in_turn-pass refused (matrix_check m) (moves0 ∷ moves1 ∷ planned ∷ []) (accepted 0) h

    -- crew 0's displacements are refused
    pub roof_unmoved0 : (q p : ℕ) → refused q p ≡ checked moves0 → reply ≡ refused q p
    roof_unmoved0 q p e = matrix-pass ∙ refused-first moves0 (moves1 ∷ planned ∷ []) q p e

    module _ (k : ℕ) (e : accepted k ≡ checked moves0) where
      pass0 : reply ≡ in_turn refused (moves1 ∷ planned ∷ []) (accepted 0)
      pass0 = matrix-pass ∙ in_turn-pass refused moves0 (moves1 ∷ planned ∷ []) (accepted 0) (checked_accepted moves0 k e)

      -- crew 1's are
      pub roof_unmoved1 : (q p : ℕ) → refused q p ≡ checked moves1 → reply ≡ refused q p
      roof_unmoved1 q p f = pass0 ∙ refused-first moves1 (planned ∷ []) q p f

      module _ (i : ℕ) (f : accepted i ≡ checked moves1) where
        pass1 : reply ≡ checked planned
        pass1 = pass0 ∙ in_turn-pass refused moves1 (planned ∷ []) (accepted 0) (checked_accepted moves1 i f)

        -- no plan for it
        pub roof_unsound : is_plan m order groups count ≡ false → reply ≡ refused why.unsound 0
        unfolding plan_check
        roof_unsound s = pass1 ∙ in_turn_fail refused planned [] (accepted 0) s

        -- all is as it should be
        pub roof_taken : is_plan m order groups count ≡ true → reply ≡ accepted 0
        unfolding plan_check in_turn
        roof_taken s = pass1 ∙ rw s

  -- lists that pass hold an accepted job for each crew
  pub roof_given : (k : ℕ) → reply ≡ accepted k → (c : Crew) → Given m.n m.starts m.columns m.values (own_of x c) order groups count
  unfolding roof_checks job_checks in_turn
  roof_given k e c = job-given m (own_of x c) order groups count 0 (own c)
    where
      own : (c : Crew) → in_turn refused (job_checks m (own_of x c) order groups count) (accepted 0) ≡ accepted 0
      own crew0 = let all = accepted-all (roof_checks m x order groups count) (accepted 0) k e in rw (all.0, all.1.0, all.1.1.1.0) refl
      own crew1 = let all = accepted-all (roof_checks m x order groups count) (accepted 0) k e in rw (all.0, all.1.1.0, all.1.1.1.0) refl
