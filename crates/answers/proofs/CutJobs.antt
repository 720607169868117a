-- A job whose matrix's lists are cut: the same updates, so the same answers and states.
use mathlib.Core.Path.{◌≡◌, refl, sym, ap, ◌∙◌, fun_ext}
use mathlib.Core.Bool.{true}
use mathlib.Core.List.{List, [], ◌∷◌}
use Prim.Native.Nat.{ℕ, zero, suc}
use lib.IntN.{ℤ}
use Rattle.matrix.specs.Matrix.{Matrix, is_matrix, adjacent}
use Rattle.matrix.proofs.Cut.{cut, cut-entry, cut-neighbours}
use Rattle.plan.specs.Groups.{Plan}
use Rattle.run.specs.Job.{Job, row_at, workers}
use Rattle.run.specs.Updates.{entry_at, displacement_at, later, with_each, row_updates, owner, up_to, updates, accesses, finished, next, waits}
use Rattle.run.specs.Machine.{refusal, Outcome, moved, halted, step, Stepped, one_more, steps, ready_below, ready, all_made, over, original, counts_fine, is_state}
use Rattle.run.specs.State.{State}
use Rattle.run.specs.Schedule.{Passed, pass}
use Rattle.run.specs.Rounds.{skips, round}
use Rattle.run.specs.Calls.{ready_of, answer_of, after_of, state_check, answer, after}
use Rattle.run.specs.Answers.{Call, picks, ready_set, force_list, preview, rounds}
use Rattle.run.proofs.Schedule.{steps_on, steps_end}

module _ (m : Matrix) (ok : is_matrix m ≡ true) (x : List ℤ) (p : Plan) where
  abbrev whole : Job
  whole = record { matrix = m; displacements = x; plan = p }

  abbrev part : Job
  part = record { matrix = cut m; displacements = x; plan = p }

  -- ---- updates

  entry-same : entry_at part ≡ entry_at whole
  unfolding entry_at row_at
  entry-same = fun_ext (λ a. fun_ext (λ b. rw (cut-entry m ok)))

  later_same : (q : ℕ) → later part q ≡ later whole q
  unfolding later adjacent row_at
  later_same q = rw (cut-neighbours m ok)

  with_same : (q : ℕ) (qs : List ℕ) → with_each part q qs ≡ with_each whole q qs
  unfolding with_each displacement_at row_at
  with_same q [] = refl
  with_same q (r ∷ rs) = rw (entry-same, with_same q rs)

  row_same : (q : ℕ) → row_updates part q ≡ row_updates whole q
  unfolding row_updates displacement_at row_at
  row_same q = rw (entry-same, later_same q, with_same q (later whole q))

  before_same : (w e : ℕ) → up_to part w e ≡ up_to whole w e
  unfolding up_to owner
  before_same w zero = refl
  before_same w (suc e) = rw (before_same w e, row_same e)

  pub updates-same : up_to part ≡ up_to whole
  updates-same = fun_ext (λ w. fun_ext (before_same w))

  -- ---- steps

  accesses-same : (w : ℕ) → accesses part w ≡ accesses whole w
  unfolding accesses updates
  accesses-same w = rw updates-same

  finished-same : (made : List ℕ) → finished part made ≡ finished whole made
  unfolding finished
  finished-same made = fun_ext (λ g. rw updates-same)

  pub refusal-same : (made : List ℕ) (w : ℕ) → refusal part made w ≡ refusal whole made w
  unfolding refusal accesses updates waits next workers
  refusal-same made w = rw (updates-same, finished-same made)

  step_same : (s : State) (w : ℕ) → step part s w ≡ step whole s w
  unfolding step next updates
  step_same s w = rw (refusal-same s.made w, updates-same)

  steps-same : (s : State) (ws : List ℕ) → steps part s ws ≡ steps whole s ws
  unfolding steps
  steps-same s [] = refl
  steps-same s (w ∷ ws) = go (step whole s w) refl (λ t. steps-same t ws)
    where
      go : (o : Outcome State) → step whole s w ≡ o → ((t : State) → steps part t ws ≡ steps whole t ws) → steps part s (w ∷ ws) ≡ steps whole s (w ∷ ws)
      go (moved t) e ih = steps_on part s w ws t (step_same s w ∙ e) ∙ ap one_more (ih t) ∙ sym (steps_on whole s w ws t e)
      go (halted k) e ih = steps_end part s w ws k (step_same s w ∙ e) ∙ sym (steps_end whole s w ws k e)

  -- a round
  round_same : (s : State) (ws : List ℕ) → round part s ws ≡ round whole s ws
  round_same s ws = ap (λ (f : State → ℕ → Outcome State). pass skips f s ws) (fun_ext (λ t. fun_ext (step_same t)))

  -- ---- the other calls

  pub ready-same : (made : List ℕ) (k : ℕ) → ready_below part made k ≡ ready_below whole made k
  unfolding ready_below
  ready-same made zero = refl
  ready-same made (suc w) = rw (refusal-same made w, ready-same made w)

  over-same : (made : List ℕ) (k : ℕ) → all_made part made k ≡ all_made whole made k
  unfolding all_made
  over-same made zero = refl
  over-same made (suc w) = rw (accesses-same w, over-same made w)

  fine-same : (made : List ℕ) (k : ℕ) → counts_fine part made k ≡ counts_fine whole made k
  unfolding counts_fine
  fine-same made zero = refl
  fine-same made (suc w) = rw (accesses-same w, fine-same made w)

  pub state-same : (s : State) → is_state part s ≡ is_state whole s
  unfolding is_state
  state-same s = rw (fine-same s.made)

  call_same : (s : State) (c : Call) → answer_of part s c ≡ answer_of whole s c
  unfolding answer_of ready_of ready workers over original
  call_same s (picks ws) = rw (steps-same s ws)
  call_same s ready_set = rw (ready-same s.made)
  call_same s (force_list room) = rw (over-same s.made)
  call_same s (rounds ws) = rw (round_same s ws)
  call_same s (preview ws) = rw (steps-same s ws, ready-same (steps whole s ws).state.made)

  left-same : (s : State) (c : Call) → after_of part s c ≡ after_of whole s c
  unfolding after_of
  left-same s (picks ws) = ap (λ (r : Stepped). r.state) (steps-same s ws)
  left-same s ready_set = refl
  left-same s (force_list room) = refl
  left-same s (preview ws) = refl
  left-same s (rounds ws) = ap (λ (r : Passed State). r.state) (round_same s ws)

  pub answer-same : (s : State) (c : Call) → answer part s c ≡ answer whole s c
  unfolding answer state_check
  answer-same s c = rw (state-same s, call_same s c)

  pub after_same : (s : State) (c : Call) → after part s c ≡ after whole s c
  unfolding after state_check
  after_same s c = rw (state-same s, left-same s c)
