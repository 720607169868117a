-- A preview is the picks on a copy, and a look there.
use mathlib.Core.Path.{◌≡◌, refl, sym, ap, ◌∙◌}
use mathlib.Core.Bool.{Bool, true, false, ◌&&◌, cond}
use mathlib.Core.List.{List, [], ◌∷◌}
use Prim.Native.Nat.{ℕ}
use lib.IntN.{ℤ}
use Rattle.base.specs.Lists.{all}
use Rattle.base.specs.Replies.{Check, in_turn}
use Rattle.matrix.specs.Matrix.{Matrix}
use Rattle.run.specs.Job.{Job, job_of}
use Rattle.run.specs.State.{State}
use Rattle.run.specs.Machine.{steps, is_state}
use Rattle.run.specs.Calls.{state_check, answer_of, after_of, answer, after, job_checks, answer_lent, after_lent}
use Rattle.run.specs.Answers.{picks, ready_set, preview, Answer, denied, shown}
use Rattle.run.specs.LentRuns.{passed}
use Rattle.run.specs.OnCopy.{OnCopy}
use Rattle.run.proofs.LentRuns.{lent_runs}
use Rattle.run.proofs.Stays.{steps-stay}

-- checks that refuse picks refuse their preview
shown-turn : (cs : List Check) (a ended there : Answer) → (all (λ c. c.holds) cs ≡ true → a ≡ shown ended there) → in_turn denied cs a ≡ shown (in_turn denied cs ended) there
unfolding in_turn shown
shown-turn [] a ended there h = h refl
shown-turn (c ∷ cs) a ended there h = go c.holds (shown-turn cs a ended there) h
  where
    go : (b : Bool) → ((all (λ c. c.holds) cs ≡ true → a ≡ shown ended there) → in_turn denied cs a ≡ shown (in_turn denied cs ended) there)
        → (b && all (λ c. c.holds) cs ≡ true → a ≡ shown ended there)
        → cond b (in_turn denied cs a) (denied c.number c.place) ≡ shown (cond b (in_turn denied cs ended) (denied c.number c.place)) there
    go true ih h = ih h
    go false ih h = refl

-- checks that refuse or leave what is there
left-turn : {A : Type 0} (a : A) (cs : List Check) → in_turn (λ number place. a) cs a ≡ a
unfolding in_turn
left-turn a [] = refl
left-turn a (c ∷ cs) = go c.holds (left-turn a cs)
  where
    go : (b : Bool) → in_turn (λ number place. a) cs a ≡ a → cond b (in_turn (λ number place. a) cs a) a ≡ a
    go true e = e
    go false e = refl

-- on a job
pub on_job : (j : Job) (s : State) (ws : List ℕ) → answer j s (preview ws) ≡ shown (answer j s (picks ws)) (answer j (after j s (picks ws)) ready_set)
unfolding answer after state_check in_turn answer_of after_of shown
on_job j s ws = go (is_state j s) refl
  where
    go : (b : Bool) → is_state j s ≡ b → answer j s (preview ws) ≡ shown (answer j s (picks ws)) (answer j (after j s (picks ws)) ready_set)
    go true e = rw (e, steps-stay j s ws e) refl
    go false e = rw e refl

-- .. the state is left alone
pub job-left : (j : Job) (s : State) (ws : List ℕ) → after j s (preview ws) ≡ s
unfolding after after_of
job-left j s ws = left-turn s (state_check j s)

module _ (m : Matrix) (x : List ℤ) (order groups : List ℕ) (count : ℕ) (s : State) (ws : List ℕ) where
  abbrev j : Job
  j = job_of m x order groups count

  same : answer_lent m x order groups count s (preview ws)
      ≡ shown (answer_lent m x order groups count s (picks ws)) (answer_lent m x order groups count (after_lent m x order groups count s (picks ws)) ready_set)
  unfolding answer_lent passed
  same = shown-turn (job_checks m x order groups count) (answer j s (preview ws)) (answer j s (picks ws)) _ (λ h.
      let run = lent_runs.every m x order groups count h in
      on_job j s ws ∙ ap (λ (t : State). shown (answer j s (picks ws)) (answer j t ready_set)) (sym (run.left s (picks ws)))
      ∙ ap (shown (answer j s (picks ws))) (sym (run.answered (after_lent m x order groups count s (picks ws)) ready_set)))

  left_alone : after_lent m x order groups count s (preview ws) ≡ s
  unfolding after_lent
  left_alone = rw (job-left j s ws) (left-turn s (job_checks m x order groups count))

-- the theorem
pub on_copy : OnCopy
on_copy = record { same = same; left_alone = left_alone }
