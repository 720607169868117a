-- The words of the calls for two crews tell their replies.
use mathlib.Core.Path.{◌≡◌, refl}
use mathlib.Core.Bool.{Bool, true, false, cond}
use mathlib.Core.List.{List, []}
use Prim.Native.Nat.{ℕ, ◌^◌, ◌≤◌, ◌<◌}
use native.Mathlib.Nat.{pow-le-pow_right}
use native.Mathlib.Omega.{arith}
use lib.Dec.{eqb}
use lib.IntN.{ℤ}
use lib.ListN.{length, take}
use lib.Seq.{length-take-le}
use borrow.Author.Tests.{eqb-true}
use Rattle.base.specs.Refusals as why
use Rattle.base.specs.Replies.{in_turn}
use Rattle.base.proofs.Booleans.{and_left, and_right}
use Rattle.matrix.specs.Matrix.{Matrix, matrix_check, displacement_check}
use Rattle.matrix.proofs.Matrix.{matrix_facts}
use Rattle.plan.specs.Sound.{max_workers, plan_check}
use Rattle.run.specs.Job.{workers}
use Rattle.run.specs.Machine.{ready, bits}
use Rattle.run.specs.State.{State}
use Rattle.run.proofs.Accepted.{facts}
use Rattle.machine.proofs.ReadyBits.{bits_below}
use Rattle.words.specs.LittleEndian.{number}
use Rattle.words.proofs.Blocks.{length_decoded}
use Rattle.lent.specs.Word.{word}
use Rattle.answers.specs.Runs.{state_bytes, count_bytes, Bytes, reply_to}
use Rattle.crews.specs.Crews.{Crew, crew0, crew1, Two, Roof, job_for, crew_refusal, turns, crew_ready}
use Rattle.crews.specs.Calls.{picks_both, ready_sets, BothAnswer, denied_both, ready_for, ready_both, state_checks, answer_both, roof_of, roof_checks, answer_both_lent}
use Rattle.crews.specs.TwoCrews.{AcceptedRoof, passed_both}
use Rattle.crews.proofs.LentBoth.{lent_both}
use Rattle.shared.proofs.Sharing.{crew_passing}
use Rattle.quarters.specs.Both.{states_in, are_whole, if_whole, answer_both_in, reply_to_both}
use Rattle.quarters.proofs.TurnsFew.{Sixteen, turns-few}
use Rattle.quarters.proofs.ReadyFew.{crew-few}
use Rattle.meaning.specs.Words.{Told, SetsTold, BothWords}
use Rattle.meaning.proofs.Words.{told-refused, turn, last, place_low, picked_tells}

-- what any word tells of a refusal
module _ (Tells : BothAnswer → Type 0) (refusal-tells : (q p : ℕ) → 1 ≤ q → p < 2 ^ 32 → Tells (denied_both q p)) where
  -- 11 of crew 0, of crew 1, and then an answer that tells
  states_tell : (r : Roof) (s : Two State) (a : BothAnswer) → Tells a → Tells (in_turn denied_both (state_checks r s) a)
  unfolding state_checks
  states_tell r s a h =
      turn Tells denied_both _ _ _ (refusal-tells why.not_state 0 (omega arith) (omega arith)) (λ e.
      turn Tells denied_both _ [] _ (refusal-tells why.not_state 0 (omega arith) (omega arith)) (λ f. last Tells denied_both a h))

  module _ (m : Matrix) (x : Two (List ℤ)) (order groups : List ℕ) (count : ℕ) where
    -- 5; 6 of crew 0, of crew 1; 8
    roof_tells : (a : BothAnswer) → (passed_both m x order groups count ≡ true → Tells a) → Tells (in_turn denied_both (roof_checks m x order groups count) a)
    unfolding roof_checks matrix_check displacement_check plan_check passed_both
    roof_tells a h =
        turn Tells denied_both (matrix_check m) _ _ (refusal-tells why.not_matrix 0 (omega arith) (omega arith)) (λ e.
        turn Tells denied_both (displacement_check m.n x.of0) _ _ (refusal-tells why.bad_displacement _ (omega arith) (omega (arith, place_low m x.of0 (matrix_facts m e).few))) (λ f.
        turn Tells denied_both (displacement_check m.n x.of1) _ _ (refusal-tells why.bad_displacement _ (omega arith) (omega (arith, place_low m x.of1 (matrix_facts m e).few))) (λ g.
        turn Tells denied_both (plan_check m order groups count) [] _ (refusal-tells why.unsound 0 (omega arith) (omega arith)) (λ i. last Tells denied_both a (h (rw (e, f, g, i)))))))

-- sixteen counts stand in bytes of a state's length
sixteen : (b : Two Bytes) → are_whole b ≡ true → Sixteen (states_in b)
unfolding are_whole
sixteen b w = go
  where
    is0 : Bool
    is0 = eqb (length b.of0.state) state_bytes

    is1 : Bool
    is1 = eqb (length b.of1.state) state_bytes

    go : Sixteen (states_in b)
    go crew0 = rw (length_decoded number 4 (take count_bytes b.of0.state), length-take-le count_bytes b.of0.state (omega (arith, eqb-true (length b.of0.state) state_bytes (and_left is0 is1 w))))
    go crew1 = rw (length_decoded number 4 (take count_bytes b.of1.state), length-take-le count_bytes b.of1.state (omega (arith, eqb-true (length b.of1.state) state_bytes (and_right is0 is1 w))))

-- a crew's bits are sixteen
bits_low : (r : Roof) (s : Two State) (c : Crew) → workers (job_for r c) ≤ max_workers → bits (crew_ready r s c) < 2 ^ 16
unfolding crew_ready ready
bits_low r s c few =
    let most : 2 ^ workers (job_for r c) ≤ 2 ^ 16 = pow-le-pow_right (omega arith) few in
    let below = bits_below (λ w. eqb (crew_refusal r s c w) 0) (workers (job_for r c)) in
    omega (arith, rw (crew_passing r s c (workers (job_for r c))) at below)

module _ (m : Matrix) (x : Two (List ℤ)) (order groups : List ℕ) (count : ℕ) (b : Two Bytes) where
  abbrev roof : Roof
  roof = roof_of m x order groups count

  refused_tells : (q p : ℕ) → 1 ≤ q → p < 2 ^ 32 → Told (reply_to_both (denied_both q p))
  unfolding reply_to_both reply_to
  refused_tells q p h l = told-refused q p h l

  sets-refused_tells : (q p : ℕ) → 1 ≤ q → p < 2 ^ 32 → SetsTold (denied_both q p)
  unfolding reply_to
  sets-refused_tells q p h l = told-refused q p h l

  accepted : passed_both m x order groups count ≡ true → AcceptedRoof roof
  accepted h = (lent_both m x order groups count h).accepted

  picks_tell : (bs : List ℕ) → Told (reply_to_both (answer_both_in m x order groups count b (picks_both bs)))
  unfolding answer_both_in if_whole answer_both_lent answer_both reply_to_both
  picks_tell bs = go (are_whole b) refl
    where
      go : (t : Bool) → are_whole b ≡ t → Told (reply_to_both (cond t (answer_both_lent m x order groups count (states_in b) (picks_both bs)) (in_turn denied_both (roof_checks m x order groups count) (denied_both why.not_state 0))))
      go true w = roof_tells (λ a. Told (reply_to_both a)) refused_tells m x order groups count _ (λ h.
          states_tell (λ a. Told (reply_to_both a)) refused_tells roof (states_in b) _
          (picked_tells (job_for roof crew0) (accepted h crew0) (states_in b).of0 (sixteen b w crew0) (turns roof (states_in b) bs).taken (turns roof (states_in b) bs).number (turns-few roof (accepted h) (states_in b) bs (sixteen b w))))
      go false w = roof_tells (λ a. Told (reply_to_both a)) refused_tells m x order groups count _ (λ h. refused_tells why.not_state 0 (omega arith) (omega arith))

  ready_tells : AcceptedRoof roof → SetsTold (ready_both roof (states_in b))
  unfolding ready_both ready_for word reply_to_both
  ready_tells ok =
      let few0 = (facts (job_for roof crew0) (ok crew0)).few in
      let few1 = (facts (job_for roof crew1) (ok crew1)).few in
      let low0 = bits_low roof (states_in b) crew0 few0 in
      let low1 = bits_low roof (states_in b) crew1 few1 in
      let most0 = crew-few roof (states_in b) crew0 in
      let most1 = crew-few roof (states_in b) crew1 in
      record {
        bits0 = omega (arith, low0, low1, most0, most1, few0, few1);
        bits1 = omega (arith, low0, low1, most0, most1, few0, few1);
        number = omega (arith, low0, low1, most0, most1, few0, few1);
        count0 = omega (arith, low0, low1, most0, most1, few0, few1);
        count1 = omega (arith, low0, low1, most0, most1, few0, few1);
      }

  sets_tell : SetsTold (answer_both_in m x order groups count b ready_sets)
  unfolding answer_both_in if_whole answer_both_lent answer_both
  sets_tell = go (are_whole b) refl
    where
      go : (t : Bool) → are_whole b ≡ t → SetsTold (cond t (answer_both_lent m x order groups count (states_in b) ready_sets) (in_turn denied_both (roof_checks m x order groups count) (denied_both why.not_state 0)))
      go true w = roof_tells SetsTold sets-refused_tells m x order groups count _ (λ h. states_tell SetsTold sets-refused_tells roof (states_in b) _ (ready_tells (accepted h)))
      go false w = roof_tells SetsTold sets-refused_tells m x order groups count _ (λ h. sets-refused_tells why.not_state 0 (omega arith) (omega arith))

-- the theorem
pub both_words : BothWords
both_words = record { picks-both = picks_tell; ready-both = sets_tell }
