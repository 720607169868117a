-- What a call on an accepted job comes to, and one on lent lists: a check refuses it, or it is the call on their job.
use mathlib.Core.Path.{◌≡◌, refl, sym, ap, ◌∙◌}
use mathlib.Core.Logic.{◌⊎◌, inl, inr, ◌≢◌}
use mathlib.Core.Bool.{Bool, true, false, cond}
use mathlib.Core.List.{List}
use Prim.Native.Nat.{ℕ, zero, suc}
use lib.IntN.{ℤ}
use lib.Count.{ones}
use lib.Dec.{leb}
use lib.ListN.{length}
use borrow.Author.Tests.{ne_eqb}
use Rattle.base.specs.Refusals as why
use Rattle.base.proofs.Booleans.{clash}
use Rattle.base.specs.Replies.{Reply, accepted, refused, in_turn}
use Rattle.matrix.specs.Matrix.{Matrix}
use Rattle.run.specs.Job.{Job, job_of}
use Rattle.run.specs.Machine.{step, steps, ready, bits, over, original, is_state}
use Rattle.run.specs.Schedule.{Passed}
use Rattle.run.specs.State.{State}
use Rattle.run.specs.Calls as calls
use Rattle.run.specs.Answers as answers
use Rattle.run.specs.Calls.{place_of, picked_of, passed_of, ready_of, forces_of, answer_of, after_of, state_check, job_checks, answer_lent, after_lent, forces_lent}
use Rattle.run.proofs.OnCopy.{on_job, job-left}
use Rattle.run.proofs.Passes.{pass-keeps}
use Rattle.run.proofs.Rounds.{all_taken}
use Rattle.run.proofs.Stays.{step_stays}
use Rattle.run.specs.Answers.{Call, picks, ready_set, force_list, preview, rounds, shown}
use Rattle.machine.specs.Code.Stepped.{passes_over, walk}
use Rattle.machine.specs.declared.state.Rule.{Rule}
use Rattle.machine.specs.declared.state.Rule.TheVariants.{Stop}
use Rattle.machine.proofs.ReadyBits.{ready-bits}
use Rattle.machine.proofs.UnderRules.{stop_steps, skip_round}
use Rattle.calls.specs.declared.Call as code
use Rattle.calls.specs.declared.Call.TheVariants as asked
use Rattle.calls.specs.Performed.{as_call, Performed}
use Rattle.calls.specs.Code.Listed.{Listed}
use Rattle.calls.specs.Code.Made.{Made, is_taken, rule_of, taking, told_by, Taken}
use Rattle.calls.proofs.InTurn.{turn-refused, turn-accepted}

-- another number of sums
pub state-size : (j : Job) (s : State) → length s.sums ≢ j.matrix.n → is_state j s ≡ false
unfolding is_state
state-size j s d = rw (ne_eqb (length s.sums) j.matrix.n d)

-- the place of an ending
pub place_none : (number past : ℕ) → number ≡ 0 → 0 ≡ place_of number past
unfolding place_of
place_none number past e = sym (ap (λ (k : ℕ). place_of k past) e)

pub place-some : (number past : ℕ) → number ≢ 0 → past ≡ place_of number past
unfolding place_of
place-some zero past d = absurd (d refl)
place-some (suc k) past d = refl

-- ---- what is asked

-- it takes picks, or not
pub takes_some : (c : code.Call) → (c ≡ asked.Picks) ⊎ (c ≡ asked.Rounds) → true ≡ is_taken c
unfolding is_taken
takes_some c (inl e) = rw e
takes_some c (inr e) = rw e

pub takes_none : (c : code.Call) → c ≢ asked.Picks → c ≢ asked.Rounds → false ≡ is_taken c
unfolding is_taken
takes_none asked.Picks p r = absurd (p refl)
takes_none asked.ReadySet p r = refl
takes_none asked.ForceList p r = refl
takes_none asked.Preview p r = refl
takes_none asked.Rounds p r = absurd (r refl)

-- it takes no picks, and is neither a force list nor a preview
pub asks_ready : (c : code.Call) → c ≢ asked.ForceList → is_taken c ≡ false → c ≢ asked.Preview → c ≡ asked.ReadySet
unfolding is_taken
asks_ready asked.Picks h d f = absurd (clash refl d)
asks_ready asked.ReadySet h d f = refl
asks_ready asked.ForceList h d f = absurd (h refl)
asks_ready asked.Preview h d f = absurd (f refl)
asks_ready asked.Rounds h d f = absurd (clash refl d)

-- other calls than a preview tell of picks what ended them
pub told-picks : (c : code.Call) → c ≢ asked.Preview → (ended there : answers.Answer) → ended ≡ told_by c ended there
unfolding told_by
told-picks asked.Picks h ended there = refl
told-picks asked.ReadySet h ended there = refl
told-picks asked.ForceList h ended there = refl
told-picks asked.Preview h ended there = absurd (h refl)
told-picks asked.Rounds h ended there = refl

-- other calls than rounds stop at every refused pick
pub rule_stops : (c : code.Call) → c ≢ asked.Rounds → Stop ≡ rule_of c
unfolding rule_of
rule_stops asked.Picks h = refl
rule_stops asked.ReadySet h = refl
rule_stops asked.ForceList h = refl
rule_stops asked.Preview h = refl
rule_stops asked.Rounds h = absurd (h refl)

-- ---- on an accepted job

module _ (j : Job) (s : State) (old : List ℤ) where
  -- there is no state
  pub made-refused : (c : Call) → is_state j s ≡ false → Made j s c old (answers.denied why.not_state 0) s old
  unfolding calls.answer calls.after state_check in_turn forces_lent
  made-refused c f = record { answers = rw f; leaves = rw f; forces = refl }

  module _ (is : is_state j s ≡ true) where
    made : (c : Call) {a : answers.Answer} {t : State} {new : List ℤ} → a ≡ answer_of j s c → t ≡ after_of j s c → new ≡ forces_lent a old → Made j s c old a t new
    unfolding calls.answer calls.after state_check in_turn
    made c ea et en = record { answers = rw is ea; leaves = rw is et; forces = en }

    -- the workers that are ready
    pub made-ready : (a : answers.Answer) → a ≡ ready_of j s.made → Made j s ready_set old a s old
    unfolding answer_of after_of ready_of forces_lent
    made-ready a f = made ready_set f refl (sym (ap (λ (z : answers.Answer). forces_lent z old) f))

    -- the forces
    pub made-forces : (is_over : Bool) → is_over ≡ over j s.made → (a : answers.Answer) (new : List ℤ) → Listed j is_over s.sums old a new → Made j s (force_list (length old)) old a s new
    unfolding answer_of after_of
    made-forces is_over o a new h =
        made (force_list (length old))
        (h.answers ∙ ap (λ (b : Bool). forces_of b (leb j.matrix.n (length old)) j.matrix.n (original j s.sums)) o) refl h.forces

-- ---- picks

module _ (j : Job) (s : State) where
  -- there is no state: they are refused, and so is their preview
  pub taken_refused : (call : code.Call) (ws : List ℕ) → is_state j s ≡ false → Taken j s call ws (answers.denied why.not_state 0) s
  unfolding calls.answer calls.after state_check in_turn told_by shown
  taken_refused call ws f = record { answers = go call; leaves = rw f }
    where
      go : (c : code.Call) → answers.denied why.not_state 0 ≡ told_by c (calls.answer j s (taking call ws)) (calls.answer j (calls.after j s (taking call ws)) ready_set)
      go asked.Picks = rw f
      go asked.ReadySet = rw f
      go asked.ForceList = rw f
      go asked.Preview = rw f
      go asked.Rounds = rw f

  -- what a schedule under the call's rule comes to
  record Gone (call : code.Call) (ws : List ℕ) : Type 0 where
    ended : let r = walk (rule_of call) j s ws in answers.picked r.taken r.number (place_of r.number r.met) ≡ answer_of j s (taking call ws)
    left : (walk (rule_of call) j s ws).state ≡ after_of j s (taking call ws)

  gone : (call : code.Call) (ws : List ℕ) → Gone call ws
  unfolding rule_of taking answer_of after_of picked_of passed_of
  gone call ws = go call
    where
      stops : (r : Passed State) → r ≡ all_taken (steps j s ws) → (answers.picked r.taken r.number (place_of r.number r.met) ≡ answer_of j s (picks ws)) × (r.state ≡ after_of j s (picks ws))
      stops r e = (ap (λ (y : Passed State). answers.picked y.taken y.number (place_of y.number y.met)) e, ap (λ (y : Passed State). y.state) e)

      plain : (answers.picked (walk Stop j s ws).taken (walk Stop j s ws).number (place_of (walk Stop j s ws).number (walk Stop j s ws).met) ≡ answer_of j s (picks ws)) × ((walk Stop j s ws).state ≡ after_of j s (picks ws))
      plain = stops (walk Stop j s ws) (stop_steps j s ws)

      go : (c : code.Call) → Gone c ws
      go asked.Picks = record { ended = plain.0; left = plain.1 }
      go asked.ReadySet = record { ended = plain.0; left = plain.1 }
      go asked.ForceList = record { ended = plain.0; left = plain.1 }
      go asked.Preview = record { ended = plain.0; left = plain.1 }
      go asked.Rounds = record {
        ended = ap (λ (y : Passed State). answers.picked y.taken y.number (place_of y.number y.met)) (skip_round j s ws);
        left = ap (λ (y : Passed State). y.state) (skip_round j s ws);
      }

  -- there is one: the steps that are taken, why they end, and who is ready then
  pub taken-picks : (call : code.Call) (ws : List ℕ) → is_state j s ≡ true → {rule : Rule} → rule ≡ rule_of call → (r : Passed State) → r ≡ walk rule j s ws → (set : ℕ) → set ≡ bits (ready j r.state.made)
      → {a : answers.Answer} → a ≡ told_by call (answers.picked r.taken r.number (place_of r.number r.met)) (answers.is_ready set (ones set)) → Taken j s call ws a r.state
  unfolding calls.answer calls.after state_check in_turn
  taken-picks call ws is {rule} same r f₀ set b e =
      let f : r ≡ walk (rule_of call) j s ws = f₀ ∙ ap (λ (k : Rule). walk k j s ws) same in
      let g = gone call ws in
      let c : Call = taking call ws in
      let state : r.state ≡ after_of j s c = ap (λ (y : Passed State). y.state) f ∙ g.left in
      let left : r.state ≡ calls.after j s c = rw is state in
      let told : answers.picked r.taken r.number (place_of r.number r.met) ≡ answer_of j s c = ap (λ (y : Passed State). answers.picked y.taken y.number (place_of y.number y.met)) f ∙ g.ended in
      let ended : answers.picked r.taken r.number (place_of r.number r.met) ≡ calls.answer j s c = rw is told in
      let still : is_state j r.state ≡ true = rw f (pass-keeps (passes_over (rule_of call)) (step j) (λ t. is_state j t ≡ true) (λ t w u m. step_stays j t w u m) s ws is) in
      let now : answers.is_ready set (ones set) ≡ calls.answer j r.state ready_set = rw still (unfold answer_of in ready-bits j r.state.made set b) in
      let there : answers.is_ready set (ones set) ≡ calls.answer j (calls.after j s c) ready_set = now ∙ ap (λ (t : State). calls.answer j t ready_set) left in
      record { answers = e ∙ ap (λ (y : answers.Answer). told_by call y (answers.is_ready set (ones set))) ended ∙ ap (told_by call (calls.answer j s c)) there; leaves = left }

  module _ (old : List ℤ) where
    -- a call that tells of no forces leaves their list
    kept : (c : Call) → forces_lent (answer_of j s c) old ≡ old → forces_lent (calls.answer j s c) old ≡ old
    unfolding calls.answer state_check in_turn forces_lent
    kept c h = go (is_state j s)
      where
        go : (b : Bool) → forces_lent (cond b (answer_of j s c) (answers.denied why.not_state 0)) old ≡ old
        go true = h
        go false = refl

    made_with : (c : Call) {a : answers.Answer} {t : State} → forces_lent (answer_of j s c) old ≡ old → a ≡ calls.answer j s c → t ≡ calls.after j s c → Made j s c old a t old
    made_with c k e l = record { answers = e; leaves = l; forces = sym (ap (λ (z : answers.Answer). forces_lent z old) e ∙ kept c k) }

    -- they are taken
    pub made-picks : (call : code.Call) (ws : List ℕ) (room : ℕ) {a : answers.Answer} {t : State} → is_taken call ≡ true → Taken j s call ws a t → Made j s (as_call call ws room) old a t old
    unfolding is_taken taking told_by answer_of picked_of passed_of forces_lent
    made-picks asked.Picks ws room i h = made_with (picks ws) refl h.answers h.leaves
    made-picks asked.ReadySet ws room i h = absurd (clash i refl)
    made-picks asked.ForceList ws room i h = absurd (clash i refl)
    made-picks asked.Preview ws room i h = absurd (clash i refl)
    made-picks asked.Rounds ws room i h = made_with (rounds ws) refl h.answers h.leaves

    -- what they would do
    pub made-preview : (ws : List ℕ) {a : answers.Answer} {t : State} → Taken j s asked.Preview ws a t → Made j s (preview ws) old a s old
    unfolding taking told_by answer_of picked_of shown forces_lent
    made-preview ws h = made_with (preview ws) refl (h.answers ∙ sym (on_job j s ws)) (sym (job-left j s ws))

-- ---- on lent lists

module _ (m : Matrix) (x : List ℤ) (order groups : List ℕ) (count : ℕ) (s : State) (old : List ℤ) where
  abbrev job_reply : Reply
  job_reply = in_turn refused (job_checks m x order groups count) (accepted 0)

  -- the lists are refused
  pub lists-refused : (c : Call) (q p : ℕ) → refused q p ≡ job_reply → Performed m x order groups count s c old (answers.denied q p) s old
  unfolding answer_lent after_lent forces_lent
  lists-refused c q p e =
      let j : Job = job_of m x order groups count in
      let a = turn-refused answers.denied (calls.answer j s c) (accepted 0) (job_checks m x order groups count) q p (λ u. cc) (sym e) in
      record {
        answers = sym a;
        leaves = sym (turn-refused (λ number place. s) (calls.after j s c) (accepted 0) (job_checks m x order groups count) q p (λ u. cc) (sym e));
        forces = sym (ap (λ (z : answers.Answer). forces_lent z old) a);
      }

  -- they are not: the call is the one on their job
  pub performed : (c : Call) {k : ℕ} → accepted k ≡ job_reply → {j : Job} → j ≡ job_of m x order groups count → {a : answers.Answer} {t : State} {new : List ℤ} → Made j s c old a t new
      → Performed m x order groups count s c old a t new
  unfolding answer_lent after_lent
  performed c {k} e {j} is {a} {t} {new} h =
      let f : a ≡ answer_lent m x order groups count s c =
      h.answers ∙ ap (λ (y : Job). calls.answer y s c) is
      ∙ sym (turn-accepted answers.denied (calls.answer (job_of m x order groups count) s c) (accepted 0) (job_checks m x order groups count) k (sym e)).1 in
      record {
        answers = f;
        leaves = h.leaves ∙ ap (λ (y : Job). calls.after y s c) is
            ∙ sym (turn-accepted (λ number place. s) (calls.after (job_of m x order groups count) s c) (accepted 0) (job_checks m x order groups count) k (sym e)).1;
        forces = h.forces ∙ ap (λ (z : answers.Answer). forces_lent z old) f;
      }
