-- The answer to a call for both ready sets: no count is above the sixteen workers of a plan.
use mathlib.Core.Path.{◌≡◌, refl, sym, ap, ◌∙◌}
use mathlib.Core.Bool.{Bool, true, false, not}
use mathlib.Core.List.{List}
use Prim.Native.Nat.{ℕ, ◌≤◌}
use native.Mathlib.Omega.{arith}
use lib.IntN.{ℤ}
use lib.ListN.{length}
use Rattle.base.specs.Refusals as why
use Rattle.base.specs.Replies.{Reply, accepted, refused}
use Rattle.base.proofs.Lists.{length-filter-le}
use Rattle.matrix.specs.Matrix.{Matrix}
use Rattle.plan.specs.Sound.{max_workers}
use Rattle.run.specs.Job.{job_of, workers}
use Rattle.run.specs.Machine.{ready}
use Rattle.run.specs.State.{State}
use Rattle.run.proofs.Accepted.{facts}
use Rattle.answers.proofs.TakenFew.{ready-few}
use Rattle.crews.specs.Crews.{Crew, crew0, crew1, Two, own_of, Roof, job_for, is_away, crew_ready}
use Rattle.crews.specs.Calls.{ready_sets, ReadySet, BothAnswer, one, sets, denied_both, ready_for, ready_both, answer_both, roof_of, answer_both_lent}
use Rattle.crews.specs.TwoCrews.{AcceptedRoof}
use Rattle.shared.specs.Performed.{as_sets}
use Rattle.std.proofs.Common.{Result}
use Rattle.base.specs.declared.Refusal.{Refusal}
use Rattle.shared.specs.declared.Sets.{Sets}
use Rattle.shared.proofs.RoofChecked.{roof_given}
use Rattle.shared.proofs.Sharing.{are_states, states_fine, roof_reply, sets-refused, lent-sets-refused, lent-sets}
use Rattle.quarters.specs.Code.Loaded.{FewReady}

pub crew-few : (q : Roof) (s : Two State) (c : Crew) → length (crew_ready q s c) ≤ workers (job_for q c)
unfolding crew_ready ready
crew-few q s c =
    let all = ready (job_for q c) (own_of s c).made in
    omega (arith, length-filter-le (λ w. not (is_away q s c w)) all, ready-few (job_for q c) (own_of s c).made (workers (job_for q c)))

-- a crew's count in an answer
abbrev count_in : Crew → BothAnswer → ℕ
count_in c (one a) = 0
count_in c (sets t) = (own_of t c).count

module _ (m : Matrix) (x : Two (List ℤ)) (order groups : List ℕ) (count : ℕ) (s : Two State) {t : Two ReadySet} (e : sets t ≡ answer_both_lent m x order groups count s ready_sets) where
  abbrev roof : Roof
  roof = roof_of m x order groups count

  passed : (k : ℕ) × (accepted k ≡ roof_reply m x order groups count s)
  passed = go (roof_reply m x order groups count s) refl
    where
      go : (y : Reply) → roof_reply m x order groups count s ≡ y → (k : ℕ) × (accepted k ≡ roof_reply m x order groups count s)
      go (accepted k) f = (k, sym f)
      go (refused n p) f =
          let z : sets t ≡ denied_both n p = e ∙ sym (lent-sets-refused m x order groups count s n p (sym f)) in
          absurd (let y : ◌≡◌ {A = ℕ} 0 1 = cc in omega arith)

  ok : AcceptedRoof roof
  unfolding roof_of job_of
  ok c = (roof_given m x order groups count passed.0 (sym passed.1) c).accepted

  on_roof : sets t ≡ answer_both roof s ready_sets
  on_roof = e ∙ sym (lent-sets m x order groups count s passed.0 passed.1 refl refl)

  are : are_states roof s ≡ true
  are = go (are_states roof s) refl
    where
      go : (b : Bool) → are_states roof s ≡ b → are_states roof s ≡ true
      go true f = f
      go false f =
          let z : sets t ≡ denied_both why.not_state 0 = on_roof ∙ sym (sets-refused roof s f) in
          absurd (let y : ◌≡◌ {A = ℕ} 0 1 = cc in omega arith)

  -- they are the ready sets of states on an accepted roof
  pub both-ready : (AcceptedRoof roof) × (sets t ≡ ready_both roof s)
  unfolding answer_both
  both-ready = (ok, on_roof ∙ states_fine roof s denied_both _ are)

  pub counts-few : (t.of0.count ≤ max_workers) × (t.of1.count ≤ max_workers)
  unfolding ready_both ready_for
  counts-few =
      let is : sets t ≡ ready_both roof s = both-ready.1 in
      let first : t.of0.count ≡ length (crew_ready roof s crew0) = ap (count_in crew0) is in
      let second : t.of1.count ≡ length (crew_ready roof s crew1) = ap (count_in crew1) is in
      (omega (arith, first, crew-few roof s crew0, (facts (job_for roof crew0) (ok crew0)).few), omega (arith, second, crew-few roof s crew1, (facts (job_for roof crew1) (ok crew1)).few))

pub few-ready : (m : Matrix) (x : Two (List ℤ)) (order groups : List ℕ) (count : ℕ) (s : Two State) {r : Result Sets Refusal} → as_sets r ≡ answer_both_lent m x order groups count s ready_sets → FewReady r
few-ready m x order groups count s h t e =
    let few = counts-few m x order groups count s (ap as_sets (sym e) ∙ h) in
    (omega (arith, few.0), omega (arith, few.1))
