-- The state of each crew is that of a run of its own, by the picks taken for it.
use mathlib.Core.Path.{◌≡◌, refl, sym, ap, ◌∙◌, subst}
use mathlib.Core.Bool.{Bool, true, false, cond}
use mathlib.Core.List.{List, [], ◌∷◌, ◌++◌, map, map-append}
use Prim.Native.Nat.{ℕ, ◌/◌, ◌%◌}
use lib.Dec.{eqb}
use lib.ListN.{length, take}
use lib.Seq.{take-length}
use Rattle.base.specs.Lists.{filter}
use Rattle.base.specs.Refusals as why
use Rattle.base.specs.Replies.{in_turn}
use Rattle.base.proofs.Lists.{filter-append}
use Rattle.plan.specs.Sound.{max_workers}
use Rattle.run.specs.Job.{Job, Accepted}
use Rattle.run.specs.State.{State, fresh}
use Rattle.run.specs.Machine.{moved, step, Stepped, steps, is_state, Outcome, halted}
use Rattle.run.specs.Machine as machine
use Rattle.run.specs.Schedule.{one_taken, pass, skips_none}
use Rattle.run.specs.Answers.{picks, picked}
use Rattle.run.specs.Calls.{place_of, picked_of, state_check, answer_of, after_of, answer, after}
use Rattle.run.specs.Sequence.{answers_from, state_after}
use Rattle.run.specs.OneAccess.{Walk}
use Rattle.run.specs.EveryRun.{taken_of, run_state, run_answers}
use Rattle.run.proofs.Invariant.{inv_fresh}
use Rattle.run.proofs.Schedule.{steps_on}
use Rattle.run.proofs.Taken.{walks_taken}
use Rattle.run.proofs.Passes.{pass_on, pass_end}
use Rattle.run.proofs.AsModel.{fine}
use Rattle.run.proofs.Accepted.{facts}
use Rattle.crews.specs.Crews.{Crew, crew0, crew1, crew_number, Two, own_of, put_for, Roof, job_for, crew_step, turn, named_for, turns}
use Rattle.crews.specs.Calls.{BothCall, picks_both, ready_sets, forces_for, BothAnswer, one, denied_both, state_checks, answer_both, after_both}
use Rattle.crews.specs.TwoCrews.{both_fresh, both_state, taken_of_both, picks_taken, all_taken, taken_for}
use Rattle.crews.proofs.Turns.{crew-moved, took}

-- from s to e by steps of these workers, all taken
abbrev pub Follows : Job → State → List ℕ → State → Type 0
Follows j s ws e = steps j s ws ≡ record { state = e; taken = length ws; number = 0 }

follows_on : (j : Job) (s : State) (w : ℕ) (ws : List ℕ) (t e : State) → step j s w ≡ moved t → Follows j t ws e → Follows j s (w ∷ ws) e
unfolding machine.one_more
follows_on j s w ws t e m f = steps_on j s w ws t m ∙ ap machine.one_more f

-- the workers that picks name for a crew, in two lists
named-append : (c : Crew) (xs ys : List ℕ) → named_for c (xs ++ ys) ≡ named_for c xs ++ named_for c ys
unfolding named_for
named-append c xs ys =
    ap (map (λ b. b % max_workers)) (filter-append (λ b. eqb (b / max_workers) (crew_number c)) xs ys)
    ∙ map-append (λ b. b % max_workers) (filter (λ b. eqb (b / max_workers) (crew_number c)) xs) (filter (λ b. eqb (b / max_workers) (crew_number c)) ys)

module _ (r : Roof) where
  -- a pick that is taken for crew d, seen by crew c
  follow_one : (s : Two State) (c d : Crew) (b : ℕ) (t : State) → b / max_workers ≡ crew_number d → crew_step r s d (b % max_workers) ≡ moved t
      → (bs vs : List ℕ) (e : State) → Follows (job_for r c) (own_of (put_for s d t) c) (named_for c bs ++ vs) e → Follows (job_for r c) (own_of s c) (named_for c (b ∷ bs) ++ vs) e
  unfolding named_for
  follow_one s crew0 crew0 b t n m bs vs e f = rw n (follows_on (job_for r crew0) s.of0 (b % max_workers) (named_for crew0 bs ++ vs) t e (crew-moved r s crew0 (b % max_workers) t m).own f)
  follow_one s crew0 crew1 b t n m bs vs e f = rw n f
  follow_one s crew1 crew0 b t n m bs vs e f = rw n f
  follow_one s crew1 crew1 b t n m bs vs e f = rw n (follows_on (job_for r crew1) s.of1 (b % max_workers) (named_for crew1 bs ++ vs) t e (crew-moved r s crew1 (b % max_workers) t m).own f)

  module _ (c : Crew) where
    abbrev j : Job
    j = job_for r c

    -- a schedule for both, before what follows
    follow_turns : (s : Two State) (bs vs : List ℕ) (e : State) → Follows j (own_of (turns r s bs).state c) vs e → Follows j (own_of s c) (named_for c (take (turns r s bs).taken bs) ++ vs) e
    unfolding pass one_taken
    follow_turns s [] vs e = λ f. unfold named_for in f
    follow_turns s (b ∷ bs) vs e = go (turn r s b) refl (λ t. follow_turns t bs vs e)
      where
        go : (o : Outcome (Two State)) → turn r s b ≡ o → ((t : Two State) → Follows j (own_of (turns r t bs).state c) vs e → Follows j (own_of t c) (named_for c (take (turns r t bs).taken bs) ++ vs) e)
            → Follows j (own_of (turns r s (b ∷ bs)).state c) vs e → Follows j (own_of s c) (named_for c (take (turns r s (b ∷ bs)).taken (b ∷ bs)) ++ vs) e
        go (moved t) m ih =
            let k = took r s b t m in
            rw (pass_on skips_none (turn r) s b bs t m)
            (λ f. follow_one s c k.crew b k.state k.named k.moves (take (turns r t bs).taken bs) vs e
            (subst (λ (u : Two State). Follows j (own_of u c) (named_for c (take (turns r t bs).taken bs) ++ vs) e) k.is (ih t f)))
        go (halted k) m ih = rw (pass_end skips_none (turn r) s b bs k m refl) (λ f. unfold named_for in f)

    -- a call for both
    follow_call : (s : Two State) (call : BothCall) (vs : List ℕ) (e : State) → Follows j (own_of (after_both r s call) c) vs e → Follows j (own_of s c) (named_for c (picks_taken r s call) ++ vs) e
    unfolding picks_taken answer_both after_both state_checks in_turn taken_of_both taken_of picked_of named_for
    follow_call s (picks_both bs) vs e = by (is_state (job_for r crew0) s.of0) (is_state (job_for r crew1) s.of1)
      where
        told : BothAnswer
        told = one (picked_of (turns r s bs).taken (turns r s bs).number)

        by : (x y : Bool) → Follows j (own_of (cond x (cond y (turns r s bs).state s) s) c) vs e
            → Follows j (own_of s c) (named_for c (take (taken_of_both (cond x (cond y told (denied_both why.not_state 0)) (denied_both why.not_state 0))) bs) ++ vs) e
        by true true f = follow_turns s bs vs e f
        by true false f = f
        by false y f = f
    follow_call s ready_sets vs e = λ f. f
    follow_call s (forces_for d room) vs e = λ f. f

    -- a list of calls
    follow_all : (s : Two State) (cs : List BothCall) → Follows j (own_of s c) (named_for c (all_taken r s cs)) (own_of (state_after (after_both r) s cs) c)
    unfolding all_taken state_after
    follow_all s [] = unfold named_for steps in refl
    follow_all s (call ∷ cs) =
        rw (named-append c (picks_taken r s call) (all_taken r (after_both r s call) cs))
        (follow_call s call (named_for c (all_taken r (after_both r s call) cs)) (own_of (state_after (after_both r) (after_both r s call) cs) c) (follow_all (after_both r s call) cs))

    -- .. from fresh
    followed : (cs : List BothCall) → Follows j (fresh r.matrix.n) (taken_for r cs c) (own_of (both_state r cs) c)
    unfolding taken_for both_state
    followed cs = subst (λ (s : State). Follows j s (named_for c (all_taken r (both_fresh r.matrix.n) cs)) (own_of (state_after (after_both r) (both_fresh r.matrix.n) cs) c)) (same c) (follow_all (both_fresh r.matrix.n) cs)
      where
        same : (c : Crew) → own_of (both_fresh r.matrix.n) c ≡ fresh r.matrix.n
        same crew0 = unfold both_fresh in refl
        same crew1 = unfold both_fresh in refl

    module _ (ok : Accepted j) (cs : List BothCall) where
      -- so the crew's own run comes to the same state
      pub reached : own_of (both_state r cs) c ≡ run_state j (picks (taken_for r cs c) ∷ [])
      unfolding run_state state_after after after_of state_check in_turn
      reached = rw (fine j (facts j ok) (fresh r.matrix.n) (inv_fresh j)) (sym (ap (λ (k : Stepped). k.state) (followed cs)))

      -- .. and takes all these picks
      pub answered : run_answers j (picks (taken_for r cs c) ∷ []) ≡ picked (length (taken_for r cs c)) 0 0 ∷ []
      unfolding run_answers answers_from answer answer_of state_check in_turn picked_of place_of
      answered = rw (fine j (facts j ok) (fresh r.matrix.n) (inv_fresh j), followed cs) refl

      -- each makes its one access
      pub walked : Walk j (fresh r.matrix.n) (taken_for r cs c) (own_of (both_state r cs) c)
      walked = subst (λ (ws : List ℕ). Walk j (fresh r.matrix.n) ws (own_of (both_state r cs) c)) (take-length (taken_for r cs c))
          (subst (λ (k : Stepped). Walk j (fresh r.matrix.n) (take k.taken (taken_for r cs c)) k.state) (followed cs) (walks_taken j (facts j ok) (fresh r.matrix.n) (inv_fresh j) (taken_for r cs c)))
