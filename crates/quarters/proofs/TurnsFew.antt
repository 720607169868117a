-- Picks for both take no more turns than the accesses that are left to either: their number fits a word's low half.
use mathlib.Core.Path.{◌≡◌, refl, sym, ap, ◌∙◌}
use mathlib.Core.List.{List, [], ◌∷◌}
use Prim.Native.Nat.{ℕ, suc, ◌+◌, ◌^◌, ◌≤◌, ◌<◌, ◌%◌}
use native.Mathlib.Omega.{arith}
use lib.ListN.{length, length-set}
use Rattle.plan.specs.Sound.{max_workers}
use Rattle.run.specs.Updates.{count}
use Rattle.run.specs.Machine.{Outcome, moved, halted, refusal, onward}
use Rattle.run.specs.State.{State}
use Rattle.run.specs.Schedule.{skips_none, pass, one_taken}
use Rattle.run.proofs.Able.{able}
use Rattle.run.proofs.Passes.{pass_on, pass_end}
use Rattle.answers.proofs.TakenFew.{left, one_less, left-few}
use Rattle.crews.specs.Crews.{Crew, crew0, crew1, Two, own_of, put_for, Roof, job_for, is_away, crew_refusal, turn, turns}
use Rattle.crews.specs.TwoCrews.{AcceptedRoof}
use Rattle.crews.proofs.Turns.{not_away, CrewMoved, crew-moved, took}

-- sixteen counts for each
abbrev pub Sixteen : Two State → Type 0
Sixteen s = (c : Crew) → length (own_of s c).made ≡ max_workers

module _ (r : Roof) (ok : AcceptedRoof r) where
  -- how many are left to one crew, and to both
  abbrev left_to : Two State → Crew → ℕ
  left_to s c = left (job_for r c) (ok c) (own_of s c).made

  abbrev left_to_both : Two State → ℕ
  left_to_both s = left_to s crew0 + left_to s crew1

  -- a turn leaves its crew one less
  module _ (s : Two State) (long : Sixteen s) (c : Crew) (w : ℕ) (t : State) (k : CrewMoved r s c w t) where
    own_less : left_to s c ≡ left (job_for r c) (ok c) t.made + 1
    unfolding crew_refusal
    own_less =
        let a = able (job_for r c) (own_of s c).made w (not_away (refusal (job_for r c) (own_of s c).made w) (is_away r s c w) k.free).0 in
        one_less (job_for r c) (ok c) (own_of s c).made w (long c) a.in_plan a.left ∙ ap (λ (made : List ℕ). left (job_for r c) (ok c) made + 1) (sym k.made)

    own-long : length t.made ≡ max_workers
    unfolding onward
    own-long = ap length k.made ∙ length-set (own_of s c).made w (suc (count (own_of s c).made w)) ∙ long c

  -- .. and so leaves both one less
  one-turn : (s : Two State) → Sixteen s → (b : ℕ) (t : Two State) → turn r s b ≡ moved t → (Sixteen t) × (left_to_both s ≡ left_to_both t + 1)
  one-turn s long b t e =
      let k = took r s b t e in
      rw k.is (by k.crew k.state (crew-moved r s k.crew (b % max_workers) k.state k.moves))
    where
      by : (c : Crew) (u : State) → CrewMoved r s c (b % max_workers) u → (Sixteen (put_for s c u)) × (left_to_both s ≡ left_to_both (put_for s c u) + 1)
      by crew0 u k = (sixteen, omega (arith, own_less s long crew0 (b % max_workers) u k))
        where
          sixteen : Sixteen (put_for s crew0 u)
          sixteen crew0 = own-long s long crew0 (b % max_workers) u k
          sixteen crew1 = long crew1
      by crew1 u k = (sixteen, omega (arith, own_less s long crew1 (b % max_workers) u k))
        where
          sixteen : Sixteen (put_for s crew1 u)
          sixteen crew0 = long crew0
          sixteen crew1 = own-long s long crew1 (b % max_workers) u k

  taken-left : (s : Two State) (bs : List ℕ) → Sixteen s → (turns r s bs).taken ≤ left_to_both s
  unfolding pass one_taken
  taken-left s [] long = omega arith
  taken-left s (b ∷ bs) long = go (turn r s b) refl (λ t. taken-left t bs)
    where
      go : (o : Outcome (Two State)) → turn r s b ≡ o → ((t : Two State) → Sixteen t → (turns r t bs).taken ≤ left_to_both t) → (turns r s (b ∷ bs)).taken ≤ left_to_both s
      go (halted k) e ih = rw (pass_end skips_none (turn r) s b bs k e refl) (omega arith)
      go (moved t) e ih = let d = one-turn s long b t e in rw (pass_on skips_none (turn r) s b bs t e) (omega (arith, ih t d.0, d.1))

  pub turns-few : (s : Two State) (bs : List ℕ) → Sixteen s → (turns r s bs).taken < 2 ^ 32
  turns-few s bs long = omega (arith, taken-left s bs long, left-few (job_for r crew0) (ok crew0) s.of0.made, left-few (job_for r crew1) (ok crew1) s.of1.made)
