-- Request Q-14 holds.
use mathlib.Core.Path.{◌≡◌, refl, sym, ap, ◌∙◌, subst}
use mathlib.Core.Bool.{Bool, true, false}
use mathlib.Core.List.{List, [], ◌∷◌, ◌++◌, map, append-nil, append_assoc}
use Prim.Native.Nat.{ℕ, ◌+◌, ◌≤◌}
use native.Mathlib.Omega.{arith}
use lib.ListN.{length}
use lib.Dec.{ltb}
use Rattle.base.specs.Lists.{all, is_in, range}
use Rattle.base.specs.Refusals as why
use Rattle.base.specs.Replies.{in_turn}
use Rattle.base.proofs.Booleans.{and_left, and_right}
use Rattle.base.proofs.Lists.{all-range}
use Rattle.run.specs.Job.{Job, Accepted, workers}
use Rattle.run.specs.State.{State, fresh}
use Rattle.run.specs.Rounds.{round}
use Rattle.run.specs.Calls.{place_of, passed_of, answer_of, state_check, answer, after}
use Rattle.run.specs.Answers.{Call, rounds, picked, forces}
use Rattle.run.specs.Sequence.{answers_from, state_after}
use Rattle.run.specs.EveryRun.{taken_of, taken_in, run_state, run_answers, finished_run, whole_run, EveryRun}
use Rattle.run.proofs.Able.{able-refusal}
use Rattle.run.proofs.Accepted.{tree_of, facts}
use Rattle.run.proofs.AsModel.{fine}
use Rattle.run.proofs.Progress.{some-able}
use Rattle.run.proofs.EveryRun.{inv, finished-over, every_run}
use Rattle.run.proofs.Consequences.{consequences}
use Rattle.rounds.specs.Rounds.{is_round, Rounds, AlwaysGetOn}
use Rattle.rounds.proofs.Skipping.{skipping}
use Rattle.rounds.proofs.Through.{through, stops, moves}

-- one call more
taken_more : (j : Job) (s : State) (cs : List Call) (c : Call)
    → taken_in (answers_from (answer j) (after j) s (cs ++ (c ∷ []))) ≡ taken_in (answers_from (answer j) (after j) s cs) + taken_of (answer j (state_after (after j) s cs) c)
unfolding answers_from state_after taken_in
taken_more j s [] c = omega arith
taken_more j s (d ∷ cs) c = omega (arith, taken_more j (after j s d) cs c)

module _ (j : Job) (ok : Accepted j) where
  module _ (cs : List Call) where
    abbrev s : State
    s = run_state j cs

    run : EveryRun j cs
    run = every_run.every_run j ok cs

    -- no check refuses a round
    told : (ws : List ℕ) → answer j s (rounds ws) ≡ passed_of (round j s ws)
    unfolding answer state_check in_turn answer_of
    told ws = rw (fine j (facts j ok) s (inv j ok cs))

    -- its answer tells the moves that it makes
    moves-told : (ws : List ℕ) → taken_of (answer j s (rounds ws)) ≡ (round j s ws).taken
    unfolding passed_of taken_of
    moves-told ws = ap taken_of (told ws)

    gets_on : (ws : List ℕ) → is_round j ws ≡ true → finished_run j cs ≡ false → 1 ≤ taken_of (answer j s (rounds ws))
    unfolding is_round
    gets_on ws h o =
        let (w, a) = some-able j s.made (tree_of j ok) (sym (finished-over j ok cs) ∙ o) in
        let known = all (λ w. ltb w (workers j)) ws in
        let everyone = all (is_in ws) (range 0 (workers j)) in
        let m = moves j (facts j ok) s (inv j ok cs) w (able-refusal j s.made w a) ws (and_left known everyone h) (all-range (is_in ws) (workers j) w (and_right known everyone h) a.in_plan) in
        omega (arith, moves-told ws)

    go_through : (ws : List ℕ) → all (λ w. ltb w (workers j)) ws ≡ true → answer j s (rounds ws) ≡ picked (round j s ws).taken 0 0
    unfolding passed_of place_of
    go_through ws h = told ws ∙ rw (through j (facts j ok) s (inv j ok cs) ws h) refl

    stop : (ws vs : List ℕ) (w : ℕ) → all (λ w. ltb w (workers j)) ws ≡ true → workers j ≤ w → answer j s (rounds (ws ++ (w ∷ vs))) ≡ picked (round j s (ws ++ (w ∷ vs))).taken why.no_worker (length ws)
    unfolding passed_of place_of
    stop ws vs w h l = let e = stops j (facts j ok) s (inv j ok cs) ws vs w h l in told (ws ++ (w ∷ vs)) ∙ rw (e.0, e.1) refl

    one_more : (ws : List ℕ) → taken_in (run_answers j (cs ++ (rounds ws ∷ []))) ≡ taken_in (run_answers j cs) + taken_of (answer j s (rounds ws))
    unfolding run_answers run_state
    one_more ws = taken_more j (fresh j.matrix.n) cs (rounds ws)

  -- as many rounds as there are accesses left
  finishes : (cs : List Call) (rs : List (List ℕ)) → all (is_round j) rs ≡ true → whole_run j ≤ taken_in (run_answers j cs) + length rs → finished_run j (cs ++ map rounds rs) ≡ true
  finishes cs [] h l = subst (λ (ds : List Call). finished_run j ds ≡ true) (sym (append-nil cs)) ((run cs).only_then (omega (arith, (consequences.every j ok cs).at_most)))
  finishes cs (r ∷ rs) h l =
      subst (λ (ds : List Call). finished_run j ds ≡ true) (append_assoc cs (rounds r ∷ []) (map rounds rs))
      (finishes (cs ++ (rounds r ∷ [])) rs (and_right (is_round j r) (all (is_round j) rs) h) (left (finished_run j cs) refl))
    where
      left : (b : Bool) → finished_run j cs ≡ b → whole_run j ≤ taken_in (run_answers j (cs ++ (rounds r ∷ []))) + length rs
      left true o = omega (arith, one_more cs r, (run cs).enough o)
      left false o = omega (arith, one_more cs r, gets_on cs r (and_left (is_round j r) (all (is_round j) rs) h) o)

  one-run : (cs : List Call) → Rounds j cs
  one-run cs = record {
    gets_on = gets_on cs;
    finishes = finishes cs;
    finished_list = λ rs h l room m.
        (let ds = cs ++ map rounds rs in
        let o = finishes cs rs h l in
        (run ds).forced o room m ∙ ap forces ((run ds).whole o));
    through = go_through cs;
    stops = stop cs;
  }

-- every list of calls on every accepted job, and any state
pub always_get_on : AlwaysGetOn
always_get_on = record { every_run = one-run; skipping = skipping }
