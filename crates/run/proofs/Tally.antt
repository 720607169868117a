-- The model's counts together are the steps that its answers say were taken.
use mathlib.Core.Path.{◌≡◌, refl, ◌∙◌}
use mathlib.Core.Bool.{Bool, true, false, cond}
use mathlib.Core.List.{List, [], ◌∷◌}
use Prim.Native.Nat.{ℕ, zero, suc, ◌+◌, ◌≤◌, ◌<◌}
use native.Mathlib.Omega.{arith}
use lib.ListN.{length, set, replicate, length-set}
use lib.Seq.{get_or-set_same, get_or-set_other}
use lib.Dec.{leb}
use Rattle.base.specs.Lists.{sum_below}
use Rattle.base.specs.Refusals as why
use Rattle.base.proofs.Sums.{sum-below_more}
use Rattle.matrix.specs.Product.{product}
use Rattle.plan.specs.Sound.{max_workers}
use Rattle.run.specs.Job.{Job, workers}
use Rattle.run.specs.Updates.{count}
use Rattle.run.specs.Answers.{Call, picks, ready_set, force_list, preview, rounds, forces, denied, shown}
use Rattle.run.specs.Schedule.{pass, one_taken, one_skipped}
use Rattle.run.specs.Rounds.{skips}
use Rattle.run.specs.Model.{no_counts, added, ending, one_noted, note, note_one, note_round, is_finished, model_answer, model_after, model_answers, model_counts}
use Rattle.run.specs.EveryRun.{taken_of, taken_in}
use Rattle.run.proofs.Invariant.{zero-count}
use Rattle.run.proofs.Book.{ending_in}
use Rattle.run.proofs.Passes.{pass_on, pass_skip, pass_end}
use Rattle.run.proofs.Rounds.{noted_on, noted_end}
use Rattle.run.proofs.Schedule.{note_on, note_end}

module _ (j : Job) (few : workers j ≤ max_workers) where
  -- how many accesses the plan's workers have made
  abbrev pub made_in : List ℕ → ℕ
  made_in made = sum_below (count made) (workers j)

  -- from the counts `made` to `new` by k steps
  record Tally (made new : List ℕ) (k : ℕ) : Type 0 where
    more : made_in new ≡ made_in made + k
    long : length new ≡ max_workers

  one_more : (made : List ℕ) (w : ℕ) → length made ≡ max_workers → w < workers j → made_in (added made w) ≡ made_in made + 1
  unfolding added
  one_more made w l h =
      sum-below_more (count made) (count (set made w (suc (count made w)))) 1 (workers j) w h
      (get_or-set_same made w (suc (count made w)) 0 (omega arith) ∙ (let e : suc (count made w) ≡ count made w + 1 = omega arith in e))
      (λ v d. get_or-set_other made w v (suc (count made w)) 0 d)

  -- a schedule
  noted : (made ws : List ℕ) → length made ≡ max_workers → Tally made (note j made ws).counts (note j made ws).taken
  unfolding note one_noted added
  noted made [] l = record { more = omega arith; long = l }
  noted made (w ∷ ws) l = go (ending j made w) refl (noted (added made w) ws (length-set made w (suc (count made w)) ∙ l))
    where
      go : (k : ℕ) → ending j made w ≡ k → Tally (added made w) (note j (added made w) ws).counts (note j (added made w) ws).taken
          → Tally made (note j made (w ∷ ws)).counts (note j made (w ∷ ws)).taken
      go zero e ih = rw (note_on j made w ws e) (record { more = omega (arith, ih.more, one_more made w l (ending_in j made w e)); long = ih.long })
      go (suc k) e ih = rw (note_end j made w ws k e) (record { more = omega arith; long = l })

  -- a round
  passed : (made ws : List ℕ) → length made ≡ max_workers → Tally made (note_round j made ws).state (note_round j made ws).taken
  unfolding pass one_taken one_skipped added
  passed made [] l = record { more = omega arith; long = l }
  passed made (w ∷ ws) l = go (ending j made w) refl (λ m. passed m ws)
    where
      go : (k : ℕ) → ending j made w ≡ k → ((m : List ℕ) → length m ≡ max_workers → Tally m (note_round j m ws).state (note_round j m ws).taken)
          → Tally made (note_round j made (w ∷ ws)).state (note_round j made (w ∷ ws)).taken
      go zero e ih =
          let t = ih (added made w) (length-set made w (suc (count made w)) ∙ l) in
          rw (pass_on skips (note_one j) made w ws (added made w) (noted_on j made w e)) (record { more = omega (arith, t.more, one_more made w l (ending_in j made w e)); long = t.long })
      go (suc k) e ih = by (skips (suc k)) refl
        where
          by : (b : Bool) → skips (suc k) ≡ b → Tally made (note_round j made (w ∷ ws)).state (note_round j made (w ∷ ws)).taken
          by true h = rw (pass_skip skips (note_one j) made w ws (suc k) (noted_end j made w k e) h) (ih made l)
          by false h = rw (pass_end skips (note_one j) made w ws (suc k) (noted_end j made w k e) h) (record { more = omega arith; long = l })

  -- a call
  called : (made : List ℕ) (c : Call) → length made ≡ max_workers → Tally made (model_after j made c) (taken_of (model_answer j made c))
  unfolding model_after model_answer taken_of shown
  called made (picks ws) l = noted made ws l
  called made ready_set l = record { more = omega arith; long = l }
  called made (preview ws) l = record { more = omega arith; long = l }
  called made (rounds ws) l = passed made ws l
  called made (force_list room) l =
      record { more = omega (arith, none (is_finished j made) (leb j.matrix.n room)); long = l }
    where
      none : (a b : Bool) → taken_of (cond a (cond b (forces (product j.matrix j.displacements)) (denied why.too_short j.matrix.n)) (denied why.too_early 0)) ≡ 0
      none false b = refl
      none true false = refl
      none true true = refl

  -- a list of calls
  tallied : (made : List ℕ) (cs : List Call) → length made ≡ max_workers → made_in (model_counts j made cs) ≡ made_in made + taken_in (model_answers j made cs)
  unfolding model_counts model_answers taken_in
  tallied made [] l = omega arith
  tallied made (c ∷ cs) l = let t = called made c l in omega (arith, t.more, tallied (model_after j made c) cs t.long)

  -- .. from the start
  pub taken-all : (cs : List Call) → made_in (model_counts j no_counts cs) ≡ taken_in (model_answers j no_counts cs)
  unfolding no_counts sum_below
  taken-all cs = omega (arith, tallied (replicate max_workers 0) cs refl, none (workers j))
    where
      none : (k : ℕ) → sum_below (count (replicate max_workers 0)) k ≡ 0
      none zero = refl
      none (suc k) = omega (arith, none k, zero-count k)
