-- What a call for both on an accepted roof comes to, and one on lent lists.
use mathlib.Core.Path.{◌≡◌, refl, sym, ap, ◌∙◌}
use mathlib.Core.Logic.{◌≢◌}
use mathlib.Core.Bool.{Bool, true, false, ◌&&◌, not, cond}
use mathlib.Core.List.{List, ◌∷◌}
use Prim.Native.Nat.{ℕ, zero, suc, ◌*◌, ◌/◌, ◌≤◌}
use native.Mathlib.Omega.{arith}
use lib.Count.{ones}
use lib.Dec.{eqb}
use lib.IntN.{ℤ}
use lib.ListN.{length, take}
use borrow.Author.Tests.{ne_eqb}
use Rattle.base.specs.Lists.{filter}
use Rattle.base.specs.Refusals as why
use Rattle.base.specs.Replies.{Reply, accepted, refused, in_turn}
use Rattle.matrix.specs.Matrix.{Matrix}
use Rattle.plan.specs.Groups.{width}
use Rattle.run.specs.Job.{Job, job_of, workers}
use Rattle.run.specs.State.{State}
use Rattle.run.specs.Machine.{refusal, ready_below, ready, bits, is_state}
use Rattle.run.specs.Schedule.{Passed}
use Rattle.run.specs.Answers.{picked}
use Rattle.run.specs.Calls.{place_of, picked_of}
use Rattle.calls.proofs.InTurn.{turn-refused, turn-accepted}
use Rattle.calls.proofs.Prepared.{cut-job}
use Rattle.calls.proofs.Performing.{state-size}
use Rattle.machine.proofs.ReadyBits.{passing, bits-count}
use Rattle.crews.specs.Crews.{Crew, crew0, crew1, Two, own_of, Roof, job_for, is_away, unless_away, crew_refusal, turns, crew_ready}
use Rattle.crews.specs.Calls.{picks_both, ready_sets, BothAnswer, one, ready_for, ready_both, denied_both, state_checks, answer_both, after_both, roof_of, roof_checks, answer_both_lent, after_both_lent}

-- ---- on an accepted roof

module _ (q : Roof) (S : Two State) where
  abbrev pub are_states : Bool
  are_states = is_state (job_for q crew0) S.of0 && is_state (job_for q crew1) S.of1

  module _ {A : Type 0} (refuse : (number place : ℕ) → A) (a : A) where
    -- one of them is no state
    pub states_refused : are_states ≡ false → in_turn refuse (state_checks q S) a ≡ refuse why.not_state 0
    unfolding state_checks in_turn
    states_refused = go (is_state (job_for q crew0) S.of0) refl (is_state (job_for q crew1) S.of1) refl
      where
        go : (x : Bool) → is_state (job_for q crew0) S.of0 ≡ x → (y : Bool) → is_state (job_for q crew1) S.of1 ≡ y → x && y ≡ false → in_turn refuse (state_checks q S) a ≡ refuse why.not_state 0
        go false e y f h = rw e refl
        go true e false f h = rw (e, f) refl
        go true e true f h = cc

    pub states_fine : are_states ≡ true → in_turn refuse (state_checks q S) a ≡ a
    unfolding state_checks in_turn
    states_fine = go (is_state (job_for q crew0) S.of0) refl (is_state (job_for q crew1) S.of1) refl
      where
        go : (x : Bool) → is_state (job_for q crew0) S.of0 ≡ x → (y : Bool) → is_state (job_for q crew1) S.of1 ≡ y → x && y ≡ true → in_turn refuse (state_checks q S) a ≡ a
        go true e true f h = rw (e, f) refl
        go true e false f h = cc
        go false e y f h = cc

  -- a list of sums has another length
  pub states_short0 : length S.of0.sums ≢ q.matrix.n → are_states ≡ false
  states_short0 d = rw (state-size (job_for q crew0) S.of0 d) refl

  pub states_short1 : length S.of1.sums ≢ q.matrix.n → are_states ≡ false
  states_short1 d = rw (state-size (job_for q crew1) S.of1 d) (go (is_state (job_for q crew0) S.of0))
    where
      go : (b : Bool) → b && false ≡ false
      go true = refl
      go false = refl

  -- picks that are refused with 11
  module _ (no : are_states ≡ false) (bs : List ℕ) where
    pub picks-refused : denied_both why.not_state 0 ≡ answer_both q S (picks_both bs)
    unfolding answer_both
    picks-refused = sym (states_refused denied_both _ no)

    pub picks-stay : S ≡ after_both q S (picks_both bs)
    unfolding after_both
    picks-stay = sym (states_refused (λ number place. S) _ no)

  -- picks that are taken
  module _ (yes : are_states ≡ true) (bs : List ℕ) (r : Passed (Two State)) (is : r ≡ turns q S bs) where
    pub picks-answered : (place : ℕ) → place ≡ place_of r.number r.taken → one (picked r.taken r.number place) ≡ answer_both q S (picks_both bs)
    unfolding answer_both picked_of
    picks-answered place e =
        ap (λ (p : ℕ). one (picked r.taken r.number p)) e ∙ ap (λ (y : Passed (Two State)). one (picked y.taken y.number (place_of y.number y.taken))) is
        ∙ sym (states_fine denied_both _ yes)

    pub picks-left : r.state ≡ after_both q S (picks_both bs)
    unfolding after_both
    picks-left = ap (λ (y : Passed (Two State)). y.state) is ∙ sym (states_fine (λ number place. S) _ yes)

-- ---- on lent lists

-- the plan's records, cut from a longer list
pub cut_roof : (groups : List ℕ) (count : ℕ) (fits : width * count ≤ length groups) (m : Matrix) (x : Two (List ℤ)) (order : List ℕ)
    → roof_of m x order (take (width * count) groups) (length (take (width * count) groups) / width) ≡ roof_of m x order groups count
unfolding roof_of job_of
cut_roof groups count fits m x order = ap (λ (j : Job). record { matrix = m; displacements = x; plan = j.plan }) (cut-job groups count fits m x.of0 order)

module _ (m : Matrix) (x : Two (List ℤ)) (order groups : List ℕ) (count : ℕ) (S : Two State) where
  abbrev pub roof_reply : Reply
  roof_reply = in_turn refused (roof_checks m x order groups count) (accepted 0)

  abbrev roof : Roof
  roof = roof_of m x order groups count

  -- picks on lists that are refused
  module _ (n p : ℕ) (e : refused n p ≡ roof_reply) (bs : List ℕ) where
    pub lent-refused : denied_both n p ≡ answer_both_lent m x order groups count S (picks_both bs)
    unfolding answer_both_lent
    lent-refused = sym (turn-refused denied_both (answer_both roof S (picks_both bs)) (accepted 0) (roof_checks m x order groups count) n p (λ u. cc) (sym e))

    pub lent-stay : S ≡ after_both_lent m x order groups count S (picks_both bs)
    unfolding after_both_lent
    lent-stay = sym (turn-refused (λ number place. S) (after_both roof S (picks_both bs)) (accepted 0) (roof_checks m x order groups count) n p (λ u. cc) (sym e))

  -- .. that pass: the call is the one on their roof
  module _ (k : ℕ) (e : accepted k ≡ roof_reply) (bs : List ℕ) where
    pub lent-answered : {q : Roof} → q ≡ roof → {a : BothAnswer} → a ≡ answer_both q S (picks_both bs) → a ≡ answer_both_lent m x order groups count S (picks_both bs)
    unfolding answer_both_lent
    lent-answered is f =
        f ∙ ap (λ (y : Roof). answer_both y S (picks_both bs)) is ∙ sym (turn-accepted denied_both (answer_both roof S (picks_both bs)) (accepted 0) (roof_checks m x order groups count) k (sym e)).1

    pub lent-left : {q : Roof} → q ≡ roof → {t : Two State} → t ≡ after_both q S (picks_both bs) → t ≡ after_both_lent m x order groups count S (picks_both bs)
    unfolding after_both_lent
    lent-left is f =
        f ∙ ap (λ (y : Roof). after_both y S (picks_both bs)) is ∙ sym (turn-accepted (λ number place. S) (after_both roof S (picks_both bs)) (accepted 0) (roof_checks m x order groups count) k (sym e)).1

-- ---- the ready sets

-- 11 refuses them
pub sets-refused : (q : Roof) (S : Two State) → are_states q S ≡ false → denied_both why.not_state 0 ≡ answer_both q S ready_sets
unfolding answer_both
sets-refused q S h = sym (states_refused q S denied_both _ h)

pub sets-answered : (q : Roof) (S : Two State) → are_states q S ≡ true → {a : BothAnswer} → a ≡ ready_both q S → a ≡ answer_both q S ready_sets
unfolding answer_both
sets-answered q S h e = e ∙ sym (states_fine q S denied_both _ h)

module _ (m : Matrix) (x : Two (List ℤ)) (order groups : List ℕ) (count : ℕ) (S : Two State) where
  -- .. on lists that are refused
  pub lent-sets-refused : (n p : ℕ) → refused n p ≡ roof_reply m x order groups count S → denied_both n p ≡ answer_both_lent m x order groups count S ready_sets
  unfolding answer_both_lent
  lent-sets-refused n p e = sym (turn-refused denied_both (answer_both (roof_of m x order groups count) S ready_sets) (accepted 0) (roof_checks m x order groups count) n p (λ u. cc) (sym e))

  -- .. on those that pass
  pub lent-sets : (k : ℕ) → accepted k ≡ roof_reply m x order groups count S → {q : Roof} → q ≡ roof_of m x order groups count → {a : BothAnswer} → a ≡ answer_both q S ready_sets → a ≡ answer_both_lent m x order groups count S ready_sets
  unfolding answer_both_lent
  lent-sets k e is f =
      f ∙ ap (λ (y : Roof). answer_both y S ready_sets) is ∙ sym (turn-accepted denied_both (answer_both (roof_of m x order groups count) S ready_sets) (accepted 0) (roof_checks m x order groups count) k (sym e)).1

-- the workers of a crew's ready set pass the test of its refusals
pub crew_passing : (q : Roof) (S : Two State) (c : Crew) (k : ℕ) → passing (λ w. eqb (crew_refusal q S c w) 0) k ≡ filter (λ w. not (is_away q S c w)) (ready_below (job_for q c) (own_of S c).made k)
unfolding passing ready_below crew_refusal unless_away
crew_passing q S c zero = refl
crew_passing q S c (suc w) = rw (crew_passing q S c w) (go (refusal (job_for q c) (own_of S c).made w) (is_away q S c w) refl)
  where
    rest : List ℕ
    rest = ready_below (job_for q c) (own_of S c).made w

    go : (k : ℕ) (b : Bool) → is_away q S c w ≡ b → cond (eqb (unless_away k b) 0) (w ∷ filter (λ v. not (is_away q S c v)) rest) (filter (λ v. not (is_away q S c v)) rest) ≡ filter (λ v. not (is_away q S c v)) (cond (eqb k 0) (w ∷ rest) rest)
    go zero true e = rw e refl
    go zero false e = rw e refl
    go (suc k) b e = rw (ne_eqb (suc k) 0 (λ z. omega arith)) refl

-- the answer of the bits, and the count of those set
pub ready-set : (q : Roof) (S : Two State) (c : Crew) (b : ℕ) → b ≡ bits (crew_ready q S c) → record { bits = b; count = ones b } ≡ ready_for q S c
unfolding ready_for crew_ready ready
ready-set q S c b e =
    let all = crew_passing q S c (workers (job_for q c)) in
    rw (e, ← all, bits-count (λ w. eqb (crew_refusal q S c w) 0) (workers (job_for q c))) refl
