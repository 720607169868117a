-- What fits the parts of a word, whatever the schedule and the state: the number that ends a schedule, how many are
-- ready, and the steps taken, which are no more than the accesses that are left.
use mathlib.Core.Path.{◌≡◌, refl, ap, ◌∙◌}
use mathlib.Core.Bool.{Bool, true, false, cond}
use mathlib.Core.List.{List, [], ◌∷◌}
use Prim.Native.Nat.{ℕ, zero, suc, ◌+◌, ◌*◌, ◌-◌, ◌%◌, ◌^◌, ◌≤◌, ◌<◌}
use native.Mathlib.Nat.{pow-le-pow_right}
use native.Mathlib.Omega.{arith}
use lib.Dec.{eqb, ltb, leb}
use lib.ListN.{length, set, length-set}
use lib.Seq.{get_or-set_same, get_or-set_other}
use Rattle.base.specs.Integers.{fits64}
use Rattle.base.specs.Lists.{sum_below}
use Rattle.base.specs.Refusals as why
use Rattle.base.proofs.Sums.{sum-below_more, sum-below_bound}
use Rattle.plan.specs.Sound.{max_workers}
use Rattle.run.specs.Job.{Job, Accepted, workers}
use Rattle.run.specs.Updates.{Update, count, updates, accesses, next, waits}
use Rattle.run.specs.Machine.{reason, refusal, Outcome, moved, halted, onward, total, access, move, step_if, step, steps, ready_below, ready, bits}
use Rattle.run.specs.Schedule.{Passed, pass, one_taken, one_skipped, skips_none}
use Rattle.run.specs.Rounds.{skips, round}
use Rattle.run.specs.State.{State}
use Rattle.tables.specs.Code.Laid.{max_updates}
use Rattle.run.proofs.Able.{able}
use Rattle.run.proofs.Accepted.{facts}
use Rattle.run.proofs.Passes.{pass_on, pass_skip, pass_end}
use Rattle.run.proofs.Rounds.{no_skips}
use Rattle.run.proofs.Schedule.{step-moved, step-made}
use Rattle.layout.proofs.UpdateRoom.{room}
use Rattle.machine.proofs.ReadyBits.{low_bits}

-- ---- the number that ends a schedule

reason-low : (a b c : Bool) → reason a b c < 2 ^ 8
unfolding reason
reason-low false b c = omega arith
reason-low true true c = omega arith
reason-low true false true = omega arith
reason-low true false false = omega arith

module _ (j : Job) where
  halted-low : (s : State) (w k : ℕ) → step j s w ≡ halted k → k < 2 ^ 8
  unfolding step step_if move access refusal
  halted-low s w k e = go (refusal j s.made w) (reason-low (ltb w (workers j)) (leb (accesses j w) (count s.made w)) (waits j s.made w)) e
    where
      u : Update
      u = next j s.made w

      by : (even fitting : Bool) → access even fitting s w u ≡ halted k → k < 2 ^ 8
      by true f x = absurd (let z : ◌≡◌ {A = ℕ} 0 1 = cc in omega arith)
      by false true x = absurd (let z : ◌≡◌ {A = ℕ} 0 1 = cc in omega arith)
      by false false x = let z : why.overflow ≡ k = cc in omega arith

      go : (n : ℕ) → n < 2 ^ 8 → step_if n s w u ≡ halted k → k < 2 ^ 8
      go zero l x = by (eqb (count s.made w % 2) 0) (fits64 (total s w u)) x
      go (suc n) l x = let z : suc n ≡ k = cc in omega arith

  -- of a schedule that skips what it likes
  pass-number : (f : ℕ → Bool) (s : State) (ws : List ℕ) → (pass f (step j) s ws).number < 2 ^ 8
  unfolding pass one_taken one_skipped
  pass-number f s [] = omega arith
  pass-number f s (w ∷ ws) = go (step j s w) refl (λ t. pass-number f t ws)
    where
      go : (o : Outcome State) → step j s w ≡ o → ((t : State) → (pass f (step j) t ws).number < 2 ^ 8) → (pass f (step j) s (w ∷ ws)).number < 2 ^ 8
      go (moved t) e ih = rw (pass_on f (step j) s w ws t e) (ih t)
      go (halted k) e ih = by (f k) refl
        where
          by : (b : Bool) → f k ≡ b → (pass f (step j) s (w ∷ ws)).number < 2 ^ 8
          by true h = rw (pass_skip f (step j) s w ws k e h) (ih s)
          by false h = rw (pass_end f (step j) s w ws k e h) (halted-low s w k e)

  pub number_low : (s : State) (ws : List ℕ) → (steps j s ws).number < 2 ^ 8
  number_low s ws = omega (arith, pass-number skips_none s ws, ap (λ (r : Passed State). r.number) (no_skips j s ws))

  pub round-number-low : (s : State) (ws : List ℕ) → (round j s ws).number < 2 ^ 8
  round-number-low s ws = pass-number skips s ws

-- ---- how many are ready

pub ready-few : (j : Job) (made : List ℕ) (k : ℕ) → length (ready_below j made k) ≤ k
unfolding ready_below
ready-few j made zero = omega arith
ready-few j made (suc w) = go (eqb (refusal j made w) 0) (ready-few j made w)
  where
    go : (b : Bool) → length (ready_below j made w) ≤ w → length (cond b (w ∷ ready_below j made w) (ready_below j made w)) ≤ suc w
    go true l = omega arith
    go false l = omega arith

pub few-ready : (j : Job) → Accepted j → (made : List ℕ) → length (ready j made) ≤ max_workers
unfolding ready
few-ready j ok made = omega (arith, ready-few j made (workers j), (facts j ok).few)

-- .. and their bits are the low sixteen
pub ready-low : (j : Job) → Accepted j → (made : List ℕ) → bits (ready j made) < 2 ^ 16
unfolding ready
ready-low j ok made = let most : 2 ^ workers j ≤ 2 ^ 16 = pow-le-pow_right (omega arith) (facts j ok).few in omega (arith, low_bits j made (workers j))

-- ---- how many steps are taken

module _ (j : Job) (ok : Accepted j) where
  -- how many accesses of the plan's workers are left
  abbrev pub left : List ℕ → ℕ
  left made = sum_below (λ w. accesses j w - count made w) (workers j)

  pub one_less : (made : List ℕ) (w : ℕ) → length made ≡ max_workers → w < workers j → count made w < accesses j w → left made ≡ left (onward made w) + 1
  unfolding onward
  one_less made w long h l =
      sum-below_more (λ v. accesses j v - count (set made w (suc (count made w))) v) (λ v. accesses j v - count made v) 1 (workers j) w h
      (omega (arith, get_or-set_same made w (suc (count made w)) 0 (omega (arith, (facts j ok).few))))
      (λ v d. rw (get_or-set_other made w v (suc (count made w)) 0 d))

  -- each step that is taken leaves one less, whatever is skipped
  taken-left : (f : ℕ → Bool) (s : State) (ws : List ℕ) → length s.made ≡ max_workers → (pass f (step j) s ws).taken ≤ left s.made
  unfolding pass one_taken one_skipped onward
  taken-left f s [] long = omega arith
  taken-left f s (w ∷ ws) long = go (step j s w) refl (λ t. taken-left f t ws)
    where
      go : (o : Outcome State) → step j s w ≡ o → ((t : State) → length t.made ≡ max_workers → (pass f (step j) t ws).taken ≤ left t.made) → (pass f (step j) s (w ∷ ws)).taken ≤ left s.made
      go (moved t) e ih =
          let a = able j s.made w (step-moved j s w t e).free in
          let made : t.made ≡ onward s.made w = step-made j s w t e in
          let long' : length t.made ≡ max_workers = ap length made ∙ length-set s.made w (suc (count s.made w)) ∙ long in
          rw (pass_on f (step j) s w ws t e) (omega (arith, ih t long', ap left made, one_less s.made w long a.in_plan a.left))
      go (halted k) e ih = by (f k) refl
        where
          by : (b : Bool) → f k ≡ b → (pass f (step j) s (w ∷ ws)).taken ≤ left s.made
          by true h = rw (pass_skip f (step j) s w ws k e h) (ih s long)
          by false h = rw (pass_end f (step j) s w ws k e h) (omega arith)

  -- no worker has more than the tables have room for
  accesses-few : (w : ℕ) → w < workers j → accesses j w ≤ 2 * max_updates
  unfolding accesses updates
  accesses-few w l = omega (arith, room j ok w j.matrix.n (omega (arith, (facts j ok).few)) (omega arith))

  pub left-few : (made : List ℕ) → left made < 2 ^ 24
  left-few made = omega (
    arith,
    sum-below_bound (λ w. accesses j w - count made w) (workers j) (2 * max_updates) (λ w l. omega (arith, accesses-few w l)),
    (facts j ok).few,
  )

  pub taken-few : (s : State) (ws : List ℕ) → length s.made ≡ max_workers → (steps j s ws).taken < 2 ^ 24
  taken-few s ws long = omega (arith, taken-left skips_none s ws long, left-few s.made, ap (λ (r : Passed State). r.taken) (no_skips j s ws))

  pub moves-few : (s : State) (ws : List ℕ) → length s.made ≡ max_workers → (round j s ws).taken < 2 ^ 24
  moves-few s ws long = omega (arith, taken-left skips s ws long, left-few s.made)
