-- A roof whose lists are cut: the same turns, so the same answers and states.
use mathlib.Core.Path.{◌≡◌, refl, ap, ◌∙◌, fun_ext}
use mathlib.Core.Bool.{true}
use mathlib.Core.List.{List, []}
use Prim.Native.Nat.{ℕ, zero, suc, ◌/◌, ◌%◌}
use lib.IntN.{ℤ}
use lib.ListN.{take}
use Rattle.base.specs.Replies.{in_turn}
use Rattle.base.proofs.Replies.{in_turn-same}
use Rattle.matrix.specs.Limits.{max_rows}
use Rattle.matrix.specs.Code.Room.{max_starts}
use Rattle.matrix.specs.Matrix.{Matrix, is_matrix, matrix_check, displacement_check}
use Rattle.matrix.proofs.Matrix.{matrix_facts}
use Rattle.matrix.proofs.Cut.{cut, cut-matrix, cut-displacements, displacements-kept}
use Rattle.plan.specs.Groups.{Plan, plan_of}
use Rattle.plan.specs.Sound.{max_workers, plan_check}
use Rattle.plan.specs.Code.Room.{max_fields}
use Rattle.plan.proofs.Cut.{plan-kept}
use Rattle.run.specs.Job.{workers}
use Rattle.run.specs.Updates.{updates, accesses, next}
use Rattle.run.specs.Machine.{ready}
use Rattle.run.specs.State.{State}
use Rattle.lent.proofs.Loads.{plan-of-cut}
use Rattle.answers.proofs.CutJobs.{updates-same, refusal-same, ready-same, state-same}
use Rattle.answers.proofs.RunCalls.{records_fit, displaced, cut-plan}
use Rattle.crews.specs.Crews.{Crew, crew0, crew1, other, Two, own_of, Roof, in_row, is_away, crew_refusal, crew_step, turn_for, turn, crew_ready}
use Rattle.crews.specs.Calls.{picks_both, ready_sets, ready_for, ready_both, state_checks, denied_both, answer_both, after_both, roof_of, roof_checks, answer_both_lent, after_both_lent}
use Rattle.std.proofs.Common.{Result}
use Rattle.base.specs.declared.Refusal.{Refusal}
use Rattle.calls.specs.declared.Response.{Response}
use Rattle.shared.specs.Performed.{PicksMade}

module _ (m : Matrix) (ok : is_matrix m ≡ true) (x : Two (List ℤ)) (p : Plan) where
  abbrev whole : Roof
  whole = record { matrix = m; displacements = x; plan = p }

  abbrev part : Roof
  part = record { matrix = cut m; displacements = x; plan = p }

  away_same : (s : Two State) (c : Crew) → is_away part s c ≡ is_away whole s c
  unfolding is_away in_row accesses updates next
  away_same s c = fun_ext (λ w. rw (updates-same m ok (own_of x (other c)) p))

  crew-same : (s : Two State) (c : Crew) (w : ℕ) → crew_step part s c w ≡ crew_step whole s c w
  unfolding crew_step crew_refusal next updates
  crew-same s c w = rw (refusal-same m ok (own_of x c) p (own_of s c).made w, away_same s c, updates-same m ok (own_of x c) p)

  turn-same : turn part ≡ turn whole
  unfolding turn turn_for
  turn-same = fun_ext (λ s. fun_ext (λ b. go s (b / max_workers) (b % max_workers)))
    where
      go : (s : Two State) (k w : ℕ) → turn_for part s k w ≡ turn_for whole s k w
      go s zero w = rw (crew-same s crew0 w)
      go s (suc zero) w = rw (crew-same s crew1 w)
      go s (suc (suc k)) w = refl

  checks_same : (s : Two State) → state_checks part s ≡ state_checks whole s
  unfolding state_checks
  checks_same s = rw (state-same m ok x.of0 p s.of0, state-same m ok x.of1 p s.of1)

  ready_for_same : (s : Two State) (c : Crew) → ready_for part s c ≡ ready_for whole s c
  unfolding ready_for crew_ready ready workers
  ready_for_same s c = rw (away_same s c, ready-same m ok (own_of x c) p (own_of s c).made)

  picks-same : (s : Two State) (bs : List ℕ) → answer_both part s (picks_both bs) ≡ answer_both whole s (picks_both bs)
  unfolding answer_both
  picks-same s bs = rw (checks_same s, turn-same)

  sets_same : (s : Two State) → answer_both part s ready_sets ≡ answer_both whole s ready_sets
  unfolding answer_both ready_both
  sets_same s = rw (checks_same s, ready_for_same s crew0, ready_for_same s crew1)

  left-same : (s : Two State) (bs : List ℕ) → after_both part s (picks_both bs) ≡ after_both whole s (picks_both bs)
  unfolding after_both
  left-same s bs = rw (checks_same s, turn-same)

-- both lists of displacements, as far as any matrix reaches
abbrev pub cut_two : Two (List ℤ) → Two (List ℤ)
cut_two x = record { of0 = take max_starts x.of0; of1 = take max_starts x.of1 }

-- what a call makes of a roof, f, is the same of cut lists, if it is of a matrix whose lists are cut
module _ {A : Type 0} (refuse : (number place : ℕ) → A) (f : Roof → A)
    (same : (m : Matrix) → is_matrix m ≡ true → (x : Two (List ℤ)) (p : Plan) → f (record { matrix = cut m; displacements = x; plan = p }) ≡ f (record { matrix = m; displacements = x; plan = p }))
    (m : Matrix) (x : Two (List ℤ)) (order groups : List ℕ) (count : ℕ) where
  abbrev made : Matrix → Two (List ℤ) → (order groups : List ℕ) → A
  made m x order groups = in_turn refuse (roof_checks m x order groups count) (f (roof_of m x order groups count))

  roof_cut : made (cut m) (cut_two x) (take max_rows order) (take max_fields groups) ≡ made m x order groups
  unfolding roof_checks matrix_check plan_check roof_of
  roof_cut =
      rw (cut-matrix m)
      (in_turn-same refuse (matrix_check m) _ _ _ _ (λ ok.
      let few = (matrix_facts m ok).few in
      rw (cut-displacements m.n x.of0 few, cut-displacements m.n x.of1 few)
      (in_turn-same refuse (displacement_check m.n x.of0) _ _ _ _ (λ are0.
      in_turn-same refuse (displacement_check m.n x.of1) _ _ _ _ (λ are1.
      rw (
        displacements-kept m.n x.of0 few (displaced m.n x.of0 are0),
        displacements-kept m.n x.of1 few (displaced m.n x.of1 are1),
        plan-of-cut m (take max_rows order) (take max_fields groups) count ok,
        cut-plan m order groups count few,
      )
      (in_turn-same refuse (plan_check m order groups count) _ _ _ _ (λ is.
      rw (plan-kept m order groups count few (records_fit m order groups count is)) (ap (λ (a : A). in_turn refuse [] a) (same m ok x (plan_of m.n order groups count))))))))))

-- a call on the lists that are decoded is the call on the whole ones
module _ (m : Matrix) (x : Two (List ℤ)) (order groups : List ℕ) (count : ℕ) {d : Matrix} {y : Two (List ℤ)} {o g : List ℕ}
    (ed : d ≡ cut m) (ey : y ≡ cut_two x) (eo : o ≡ take max_rows order) (eg : g ≡ take max_fields groups) (s : Two State) where
  pub picks-whole : (bs : List ℕ) {answer : Result Response Refusal} {after : Two State} → PicksMade d y o g count s bs answer after → PicksMade m x order groups count s bs answer after
  unfolding answer_both_lent after_both_lent
  picks-whole bs h =
      let k = rw (ed, ey, eo, eg) at h in
      record {
        answers = k.answers ∙ roof_cut denied_both (λ q. answer_both q s (picks_both bs)) (λ m ok x p. picks-same m ok x p s bs) m x order groups count;
        leaves = k.leaves ∙ roof_cut (λ number place. s) (λ q. after_both q s (picks_both bs)) (λ m ok x p. left-same m ok x p s bs) m x order groups count;
      }

  pub sets-whole : answer_both_lent d y o g count s ready_sets ≡ answer_both_lent m x order groups count s ready_sets
  unfolding answer_both_lent
  sets-whole = rw (ed, ey, eo, eg) (roof_cut denied_both (λ q. answer_both q s ready_sets) (λ m ok x p. sets_same m ok x p s) m x order groups count)
