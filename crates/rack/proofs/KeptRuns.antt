-- In bytes too the calls on the list that prepare leaves for a job are the calls on the job.
use mathlib.Core.Path.{◌≡◌, refl, sym, ap, ◌∙◌}
use mathlib.Core.Bool.{Bool, true, false}
use mathlib.Core.List.{List, ◌++◌}
use Prim.Native.Nat.{ℕ}
use lib.Dec.{eqb}
use lib.IntN.{ℤ}
use lib.ListN.{length}
use Rattle.base.specs.Refusals as why
use Rattle.base.specs.Replies.{in_turn}
use Rattle.base.proofs.Replies.{in_turn-all}
use Rattle.matrix.specs.Matrix.{Matrix}
use Rattle.run.specs.Answers.{Call, picks, rounds, Answer, denied}
use Rattle.run.specs.Calls.{job_checks, after_lent}
use Rattle.run.specs.Job.{job_of}
use Rattle.run.specs.LentRuns.{passed}
use Rattle.lent.specs.Word.{word}
use Rattle.answers.specs.Runs.{state_bytes, state_in, answer_in, reply_to, round_word, Moved}
use Rattle.answers.specs.Code.Ran.{Plain}
use Rattle.prepared.specs.Format.{prepared_bytes}
use Rattle.prepared.specs.PreparedRuns.{prepared_check, after_prepared, PreparedRun}
use Rattle.prepared.proofs.PreparedRuns.{prepared-runs}
use Rattle.rack.specs.Kept.{fitting, answer_kept, KeptMoved}
use Rattle.rack.specs.KeptRuns.{KeptRun, KeptRuns}
use Rattle.rack.proofs.Fitting.{told-fits, fitting-same, round_same}

module _ (m : Matrix) (x : List ℤ) (order groups : List ℕ) (count : ℕ) (ok : passed m x order groups count ≡ true) (rest : List ℕ) where
  run : PreparedRun m x order groups count
  run = prepared-runs.every m x order groups count ok

  abbrev list : List ℕ
  list = prepared_bytes (job_of m x order groups count) ++ rest

  -- a state of another length is refused with 11 by both
  refused : in_turn denied (prepared_check list) (denied why.not_state 0) ≡ in_turn denied (job_checks m x order groups count) (denied why.not_state 0)
  unfolding prepared_check in_turn passed
  refused = rw (run.prepared rest) (sym (in_turn-all denied (job_checks m x order groups count) (denied why.not_state 0) ok))

  answered : (state sums : List ℕ) (c : Call) → answer_kept list state sums c ≡ answer_in m x order groups count state sums c
  unfolding answer_kept answer_in
  answered state sums c = go (eqb (length state) state_bytes) refl
    where
      go : (b : Bool) → eqb (length state) state_bytes ≡ b → answer_kept list state sums c ≡ answer_in m x order groups count state sums c
      go true e = rw e (run.answered rest (state_in state sums) c)
      go false e = rw e refused

  left : (state sums : List ℕ) (c : Call) → after_prepared list (state_in state sums) c ≡ after_lent m x order groups count (state_in state sums) c
  left state sums c = run.left rest (state_in state sums) c

  -- a call that takes picks, whose word has room for what it tells
  taken : (told : Answer → ℕ) (state sums : List ℕ) (c : Call) → told (fitting (answer_in m x order groups count state sums c)) ≡ told (answer_in m x order groups count state sums c)
      → {returned : ℕ} {new_state new_sums : List ℕ} → KeptMoved told list state sums c returned new_state new_sums
      → Moved (told (answer_in m x order groups count state sums c)) (answer_in m x order groups count state sums c) (after_lent m x order groups count (state_in state sums) c) state sums returned new_state new_sums
  taken told state sums c room h =
      let g = rw (answered state sums c, left state sums c) at h in
      record { returns = g.returns ∙ room; state-left = g.state-left; sums_left = g.sums_left }

  kept_run : KeptRun m x order groups count rest
  unfolding Plain
  kept_run = record {
    answered = answered;
    left = left;
    picked = λ state sums ws returned new_state new_sums h.
        taken (λ a. word (reply_to a)) state sums (picks ws) (ap (λ (a : Answer). word (reply_to a)) (fitting-same (picks ws) tt _ (told-fits m x order groups count state sums (picks ws)))) h;
    rounded = λ state sums ws returned new_state new_sums h. taken round_word state sums (rounds ws) (round_same (rounds ws) _ (told-fits m x order groups count state sums (rounds ws))) h;
  }

-- the theorem
pub kept-runs : KeptRuns
kept-runs = record { every = kept_run }
