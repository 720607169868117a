-- The model of a run (document 01's book): "fed the run's calls alone: their arguments without the state and sums, and
-- no answers". What a worker's accesses are and when it waits it takes from Updates.antt, as the machine does; of the
-- machine it takes nothing.
use Rattle.std.specs.Prelude.{Bool, cond, List, [], ◌∷◌, ◌++◌, map, ℕ, zero, suc, ◌^◌, length, take, set, replicate, eqb, ltb, leb}
use Rattle.base.specs.Lists.{filter, all, sum, range}
use Rattle.base.specs.Refusals as why
use Rattle.matrix.specs.Product.{product}
use Rattle.plan.specs.Sound.{max_workers}
use Rattle.run.specs.Job.{Job, workers}
use Rattle.run.specs.Updates.{count, accesses, waits}
use Rattle.run.specs.Machine.{Outcome, moved, halted}
use Rattle.run.specs.Schedule.{Passed, pass}
use Rattle.run.specs.Rounds.{skips, taken_by}
use Rattle.run.specs.Answers.{Call, picks, ready_set, force_list, preview, rounds, Answer, picked, is_ready, forces, denied, shown}

-- "It keeps a count for each worker, at first 0"
unfoldable pub no_counts : List ℕ
no_counts = replicate max_workers 0

-- "each adding 1 to its worker's count"
unfoldable pub added : (counts : List ℕ) → ℕ → List ℕ
added counts w = set counts w (suc (count counts w))

-- "One naming no worker of the plan ends its call with 10, one whose worker's count is all its moves with 12, .. waits
-- by these counts with 13"; 0: it is taken
unfoldable pub ending : Job → (counts : List ℕ) → ℕ → ℕ
ending j counts w = cond (ltb w (workers j)) (cond (eqb (count counts w) (accesses j w)) why.all_done (cond (waits j counts w) why.must_wait 0)) why.no_worker

-- what becomes of a list of picks: the counts, how many were taken, and the number that ended them
pub record Noted : Type 0 where
  pub counts : List ℕ
  pub taken : ℕ
  pub number : ℕ

unfoldable pub one_noted : Noted → Noted
one_noted r = record { counts = r.counts; taken = suc r.taken; number = r.number }

-- "Picks are taken in turn"
unfoldable pub note : Job → (counts schedule : List ℕ) → Noted
note j counts [] = record { counts = counts; taken = 0; number = 0 }
note j counts (w ∷ ws) =
    elim (ending j counts w) [ zero ↦ one_noted (note j (added counts w) ws) | suc k ↦ record { counts = counts; taken = 0; number = suc k } ]

-- "the workers whose pick would be taken"
unfoldable pub able : Job → (counts : List ℕ) → List ℕ
able j counts = filter (λ w. eqb (ending j counts w) 0) (range 0 (workers j))

-- "The run is finished when all counts are all their workers' moves"
unfoldable pub is_finished : Job → (counts : List ℕ) → Bool
is_finished j counts = all (λ w. eqb (count counts w) (accesses j w)) (range 0 (workers j))

-- "The answer is the number that the call took and that ending, or 0 at 0 as its ending if it took all" (those before
-- the pick's index were taken)
abbrev pub noted_answer : Noted → Answer
noted_answer r = picked r.taken r.number (cond (eqb r.number 0) 0 r.taken)

-- a bit for each worker "whose pick would be taken, and their count"
abbrev pub able_answer : Job → (counts : List ℕ) → Answer
able_answer j counts = is_ready (sum (map (◌^◌ 2) (able j counts))) (length (able j counts))

-- Q-14, which "stands in place of a run's book": a pick by the counts, as it is noted, and a list of picks of which 12
-- and 13 skip those that they refuse; its answer is the number of moves made, and the ending at the pick's index
unfoldable pub note_one : Job → (counts : List ℕ) → ℕ → Outcome (List ℕ)
note_one j counts w = elim (ending j counts w) [ zero ↦ moved (added counts w) | suc k ↦ halted (suc k) ]

abbrev pub note_round : Job → (counts schedule : List ℕ) → Passed (List ℕ)
note_round j counts ws = pass skips (note_one j) counts ws

abbrev pub round_answer : Passed (List ℕ) → Answer
round_answer r = picked r.taken r.number (cond (eqb r.number 0) 0 r.met)

-- .. and "15 until then, afterwards 9 at n .., else 0 with the full product in original order"; a preview (Q-7) is
-- answered from the counts that its picks would lead to
unfoldable pub model_answer : Job → (counts : List ℕ) → Call → Answer
model_answer j counts (picks ws) = noted_answer (note j counts ws)
model_answer j counts ready_set = able_answer j counts
model_answer j counts (force_list room) =
    cond (is_finished j counts) (cond (leb j.matrix.n room) (forces (product j.matrix j.displacements)) (denied why.too_short j.matrix.n)) (denied why.too_early 0)
model_answer j counts (preview ws) = shown (noted_answer (note j counts ws)) (able_answer j (note j counts ws).counts)
model_answer j counts (rounds ws) = round_answer (note_round j counts ws)

-- "It and the ready set change no count"
unfoldable pub model_after : Job → (counts : List ℕ) → Call → List ℕ
model_after j counts (picks ws) = (note j counts ws).counts
model_after j counts ready_set = counts
model_after j counts (force_list room) = counts
model_after j counts (preview ws) = counts
model_after j counts (rounds ws) = (note_round j counts ws).state

unfoldable pub model_answers : Job → (counts : List ℕ) → List Call → List Answer
model_answers j counts [] = []
model_answers j counts (c ∷ cs) = model_answer j counts c ∷ model_answers j (model_after j counts c) cs

unfoldable pub model_counts : Job → (counts : List ℕ) → List Call → List ℕ
model_counts j counts [] = counts
model_counts j counts (c ∷ cs) = model_counts j (model_after j counts c) cs

-- the picks that are taken of a call, and of a list of calls, in their order
unfoldable pub taken_now : Job → (counts : List ℕ) → Call → List ℕ
taken_now j counts (picks ws) = take (note j counts ws).taken ws
taken_now j counts ready_set = []
taken_now j counts (force_list room) = []
taken_now j counts (preview ws) = []
taken_now j counts (rounds ws) = taken_by (note_one j) counts ws

unfoldable pub taken_picks : Job → (counts : List ℕ) → List Call → List ℕ
taken_picks j counts [] = []
taken_picks j counts (c ∷ cs) = taken_now j counts c ++ taken_picks j (model_after j counts c) cs
