-- Both states keep the invariant of their runs: 11 and 14 are never met.
use mathlib.Core.Path.{◌≡◌, refl, sym, ap, ◌∙◌, subst}
use mathlib.Core.Logic.{◌⊎◌, inl, inr}
use mathlib.Core.Bool.{Bool, true, false}
use mathlib.Core.List.{List, [], ◌∷◌, map}
use Prim.Native.Nat.{ℕ, zero, suc, ◌/◌, ◌%◌, ◌≤◌}
use lib.Dec.{ltb, leb}
use Rattle.base.specs.Lists.{all, is_in}
use Rattle.base.specs.Refusals as why
use Rattle.base.specs.Replies.{in_turn}
use Rattle.base.proofs.Lists.{is_in-append}
use Rattle.plan.specs.Sound.{max_workers}
use Rattle.run.specs.Job.{Job, workers}
use Rattle.run.specs.Updates.{count, accesses, waits}
use Rattle.run.specs.State.{State}
use Rattle.run.specs.Machine.{reason, moved, refusal, onward}
use Rattle.run.specs.Schedule.{one_taken, pass, skips_none}
use Rattle.run.specs.Answers.{force_list}
use Rattle.run.specs.Calls.{picked_of}
use Rattle.run.specs.Calls as calls
use Rattle.run.specs.Sequence.{answers_from}
use Rattle.run.specs.Consequences as answer
use Rattle.run.proofs.Invariant.{Inv, inv_fresh}
use Rattle.run.proofs.Passes.{pass_on, pass_end}
use Rattle.run.proofs.Taken.{taken}
use Rattle.run.proofs.AsModel.{fine, call_model}
use Rattle.run.proofs.Accepted.{facts}
use Rattle.run.proofs.Consequences.{known, known_call}
use Rattle.crews.specs.Crews.{Crew, crew0, crew1, crew_number, Two, own_of, put_for, Roof, job_for, is_away, unless_away, crew_refusal, crew_step, for_both, turn, turns}
use Rattle.crews.specs.Calls.{BothCall, picks_both, ready_sets, forces_for, one, ready_both, state_checks, denied_both, answer_both, after_both}
use Rattle.crews.specs.TwoCrews.{AcceptedRoof, both_fresh, number_of_both}
use Rattle.crews.proofs.Turns.{not_away, crew_end, crew-own, crew-moved, who, turn-for, turn-none, call_keeps}

-- what holds of each crew's, if one gets another thing
pub put_each : {A : Type 0} (P : Crew → A → Type 0) (s : Two A) (c : Crew) (t : A) → P c t → ((d : Crew) → P d (own_of s d)) → (d : Crew) → P d (own_of (put_for s c t) d)
put_each P s crew0 t p h crew0 = p
put_each P s crew0 t p h crew1 = h crew1
put_each P s crew1 t p h crew0 = h crew0
put_each P s crew1 t p h crew1 = p

-- the only numbers of the answers to calls for both
abbrev both_known : ℕ → Bool
both_known = is_in (0 ∷ why.too_short ∷ why.no_worker ∷ why.all_done ∷ why.must_wait ∷ why.too_early ∷ why.no_crew ∷ why.elsewhere ∷ [])

known_both : (k : ℕ) → known k ≡ true → both_known k ≡ true
known_both k h = is_in-append (0 ∷ why.too_short ∷ why.no_worker ∷ why.all_done ∷ why.must_wait ∷ why.too_early ∷ []) (why.no_crew ∷ why.elsewhere ∷ []) k ∙ rw h refl

known_unless : (k : ℕ) (away : Bool) → known k ≡ true → both_known (unless_away k away) ≡ true
unfolding unless_away
known_unless zero true h = refl
known_unless zero false h = refl
known_unless (suc k) away h = known_both (suc k) h

known-refusal : (j : Job) (made : List ℕ) (w : ℕ) → known (refusal j made w) ≡ true
unfolding refusal reason
known-refusal j made w = go (ltb w (workers j)) (leb (accesses j w) (count made w)) (waits j made w)
  where
    go : (a b c : Bool) → known (reason a b c) ≡ true
    go false b c = refl
    go true true c = refl
    go true false true = refl
    go true false false = refl

known-crew : (r : Roof) (s : Two State) (c : Crew) (w : ℕ) → both_known (crew_refusal r s c w) ≡ true
unfolding crew_refusal
known-crew r s c w = known_unless (refusal (job_for r c) (own_of s c).made w) (is_away r s c w) (known-refusal (job_for r c) (own_of s c).made w)

-- both states have the invariant of their runs
abbrev pub InvBoth : Roof → Two State → Type 0
InvBoth r s = (c : Crew) → Inv (job_for r c) (own_of s c)

module _ (r : Roof) where
  pub fresh-both : InvBoth r (both_fresh r.matrix.n)
  unfolding both_fresh
  fresh-both crew0 = inv_fresh (job_for r crew0)
  fresh-both crew1 = inv_fresh (job_for r crew1)

  -- a step for crew c that is taken, to states that have the invariant
  pub record Step (s : Two State) (c : Crew) (w : ℕ) : Type 0 where
    pub state : State
    pub is : crew_step r s c w ≡ moved state
    pub made : state.made ≡ onward (own_of s c).made w
    pub inv : InvBoth r (put_for s c state)

  module _ (ok : AcceptedRoof r) where
    -- a step that the counts do not refuse is taken
    pub step-taken : (s : Two State) → InvBoth r s → (c : Crew) (w : ℕ) → crew_refusal r s c w ≡ 0 → Step s c w
    unfolding crew_refusal
    step-taken s I c w e =
        let t = taken (job_for r c) (facts (job_for r c) (ok c)) (own_of s c) (I c) w (not_away _ (is_away r s c w) e).0 in
        record { state = t.state; is = crew-own r s c w e ∙ t.is; made = t.made; inv = put_each (λ d u. Inv (job_for r d) u) s c t.state t.inv I }

    -- every step that is taken keeps the invariant
    step_inv : (s : Two State) (c : Crew) (w : ℕ) (t : State) → crew_step r s c w ≡ moved t → InvBoth r s → InvBoth r (put_for s c t)
    step_inv s c w t h I =
        let k = step-taken s I c w (crew-moved r s c w t h).free in
        subst (λ (u : State). InvBoth r (put_for s c u)) (let e : moved k.state ≡ moved t = sym k.is ∙ h in let y : k.state ≡ t = cc in y) k.inv

    -- .. and so every call
    pub call_inv : (s : Two State) (c : BothCall) → InvBoth r s → InvBoth r (after_both r s c)
    call_inv = call_keeps r (InvBoth r) step_inv

    -- 11 is never met
    pub both-fine : (s : Two State) → InvBoth r s → {A : Type 0} (refuse : (number place : ℕ) → A) (a : A) → in_turn refuse (state_checks r s) a ≡ a
    unfolding state_checks in_turn
    both-fine s I refuse a =
        rw (fine (job_for r crew0) (facts (job_for r crew0) (ok crew0)) s.of0 (I crew0), fine (job_for r crew1) (facts (job_for r crew1) (ok crew1)) s.of1 (I crew1)) refl

    -- ---- the numbers met

    turns-known : (s : Two State) → InvBoth r s → (bs : List ℕ) → both_known (turns r s bs).number ≡ true
    unfolding pass one_taken for_both
    turns-known s I [] = refl
    turns-known s I (b ∷ bs) = go (who b) (λ t K. turns-known t K bs)
      where
        go : ((c : Crew) × (b / max_workers ≡ crew_number c)) ⊎ (2 ≤ b / max_workers) → ((t : Two State) → InvBoth r t → both_known (turns r t bs).number ≡ true) → both_known (turns r s (b ∷ bs)).number ≡ true
        go (inr l) ih = rw (pass_end skips_none (turn r) s b bs why.no_crew (turn-none r s b l) refl) refl
        go (inl (c, n)) ih = by (crew_refusal r s c (b % max_workers)) refl
          where
            by : (k : ℕ) → crew_refusal r s c (b % max_workers) ≡ k → both_known (turns r s (b ∷ bs)).number ≡ true
            by zero e =
                let t = step-taken s I c (b % max_workers) e in
                rw (pass_on skips_none (turn r) s b bs (put_for s c t.state) (turn-for r s b c n ∙ ap (for_both s c) t.is)) (ih (put_for s c t.state) t.inv)
            by (suc k) e =
                rw (pass_end skips_none (turn r) s b bs (suc k) (turn-for r s b c n ∙ ap (for_both s c) (crew_end r s c (b % max_workers) k e)) refl) (subst (λ (y : ℕ). both_known y ≡ true) e (known-crew r s c (b % max_workers)))

    call_known : (s : Two State) → InvBoth r s → (c : BothCall) → both_known (number_of_both (answer_both r s c)) ≡ true
    unfolding answer_both ready_both number_of_both answer.number_of picked_of
    call_known s I (picks_both bs) = rw (both-fine s I denied_both (one (picked_of (turns r s bs).taken (turns r s bs).number))) (turns-known s I bs)
    call_known s I ready_sets = rw (both-fine s I denied_both (ready_both r s)) refl
    call_known s I (forces_for c room) =
        known_both (answer.number_of (calls.answer (job_for r c) (own_of s c) (force_list room)))
        (rw (call_model (job_for r c) (facts (job_for r c) (ok c)) (own_of s c) (I c) (force_list room)).same (known_call (job_for r c) (own_of s c).made (force_list room)))

    pub all_known : (s : Two State) → InvBoth r s → (cs : List BothCall) → all both_known (map number_of_both (answers_from (answer_both r) (after_both r) s cs)) ≡ true
    unfolding answers_from
    all_known s I [] = refl
    all_known s I (c ∷ cs) = rw (call_known s I c) (all_known (after_both r s c) (call_inv s c I) cs)
