-- The calls on a run with lists that are cut, and with a state that is decoded.
use mathlib.Core.Path.{◌≡◌, refl, ap, ◌∙◌}
use mathlib.Core.Logic.{◌≢◌}
use mathlib.Core.Bool.{Bool, true, false, cond}
use mathlib.Core.List.{List, [], ◌∷◌}
use Prim.Native.Nat.{ℕ, ◌*◌, ◌/◌, ◌≤◌, min}
use native.Mathlib.Nat.{min_comm}
use native.Mathlib.Omega.{arith}
use lib.Dec.{eqb, leb}
use lib.IntN.{ℤ}
use lib.ListN.{length, take, drop}
use lib.Seq.{take-nil, take_all, length-take-le}
use borrow.Author.Tests.{eqb-true, ne_eqb, leb-true, leb-false}
use Rattle.base.specs.Refusals as why
use Rattle.base.specs.Replies.{Check, in_turn}
use Rattle.base.proofs.Booleans.{conj_at, leb-min}
use Rattle.base.proofs.Replies.{in_turn-same}
use Rattle.matrix.specs.Limits.{max_rows}
use Rattle.matrix.specs.Code.Room.{max_starts}
use Rattle.matrix.specs.Matrix.{Matrix, is_matrix, matrix_check, are_displacements, displacement_check}
use Rattle.matrix.proofs.Matrix.{matrix_facts}
use Rattle.matrix.proofs.Cut.{cut, cut-matrix, cut-displacements, displacements-kept}
use Rattle.plan.specs.Groups.{Plan, width, plan_of}
use Rattle.plan.specs.Sound.{max_groups, is_sound, is_plan, plan_check}
use Rattle.plan.specs.Code.Room.{max_fields}
use Rattle.plan.proofs.Cut.{cut-lent, plan-kept}
use Rattle.words.specs.LittleEndian.{signed_number, blocks, unsigned, signed, stored}
use Rattle.run.specs.Job.{Job, job_of}
use Rattle.run.specs.Machine.{is_state}
use Rattle.run.specs.State.{State}
use Rattle.run.specs.Calls.{answer_of, after_of, state_check, answer, after, job_checks, answer_lent, after_lent, forces_lent}
use Rattle.run.specs.Answers.{Call, Answer, denied}
use Rattle.calls.specs.Performed.{as_call, Performed}
use Rattle.calls.specs.declared.Call as asked
use Rattle.calls.specs.declared.Call.TheVariants.{Picks, ReadySet, ForceList, Preview, Rounds}
use Rattle.machine.specs.Record.{state_of}
use Rattle.machine.specs.declared.state.State as code
use Rattle.answers.specs.Runs.{state_bytes, count_bytes, state_in, answer_in}
use Rattle.answers.specs.Code.Ran.{StateIs}
use Rattle.lent.proofs.Loads.{loaded_is, plan-of-cut}
use Rattle.answers.proofs.CutJobs.{answer-same, after_same}

-- ---- the lists of the job

-- the records of a plan are no more than 512
pub records_fit : (m : Matrix) (order groups : List ℕ) (count : ℕ) → is_plan m order groups count ≡ true → width * count ≤ max_fields
unfolding is_plan
records_fit m order groups count h =
    let bs : List Bool = leb count max_groups ∷ leb (width * count) (length groups) ∷ is_sound m (plan_of m.n order groups count) ∷ [] in
    omega (arith, leb-true count max_groups (conj_at (leb m.n (length order)) bs h 0))

-- lists that are cut are a plan if and only if they were
pub cut-plan : (m : Matrix) (order groups : List ℕ) (count : ℕ) → m.n ≤ max_rows → is_plan m (take max_rows order) (take max_fields groups) count ≡ is_plan m order groups count
unfolding is_plan
cut-plan m order groups count few = cut-lent m order groups count few (is_sound m)

-- displacements that pass their check
pub displaced : (n : ℕ) (x : List ℤ) → (displacement_check n x).holds ≡ true → are_displacements n x ≡ true
unfolding displacement_check
displaced n x h = h

-- what a call makes of a job, f, is the same of cut lists, if it is of a matrix whose lists are cut
module _ {A : Type 0} (refuse : (number place : ℕ) → A) (f : Job → A)
    (same : (m : Matrix) → is_matrix m ≡ true → (x : List ℤ) (p : Plan) → f (record { matrix = cut m; displacements = x; plan = p }) ≡ f (record { matrix = m; displacements = x; plan = p }))
    (m : Matrix) (x : List ℤ) (order groups : List ℕ) (count : ℕ) where
  abbrev made : Matrix → List ℤ → (order groups : List ℕ) → A
  made m x order groups = in_turn refuse (job_checks m x order groups count) (f (job_of m x order groups count))

  pub job-cut : made (cut m) (take max_starts x) (take max_rows order) (take max_fields groups) ≡ made m x order groups
  unfolding job_checks matrix_check plan_check job_of
  job-cut =
      rw (cut-matrix m)
      (in_turn-same refuse (matrix_check m) _ _ _ _ (λ ok.
      let few = (matrix_facts m ok).few in
      rw (cut-displacements m.n x few)
      (in_turn-same refuse (displacement_check m.n x) _ _ _ _ (λ are.
      rw (displacements-kept m.n x few (displaced m.n x are), plan-of-cut m (take max_rows order) (take max_fields groups) count ok, cut-plan m order groups count few)
      (in_turn-same refuse (plan_check m order groups count) _ _ _ _ (λ is.
      rw (plan-kept m order groups count few (records_fit m order groups count is)) (ap (λ (a : A). in_turn refuse [] a) (same m ok x (plan_of m.n order groups count)))))))))

module _ (m : Matrix) (x : List ℤ) (order groups : List ℕ) (count : ℕ) (c : Call) where
  -- cut, the lists give the same answer
  lent_cut : (s : State) → answer_lent (cut m) (take max_starts x) (take max_rows order) (take max_fields groups) count s c ≡ answer_lent m x order groups count s c
  unfolding answer_lent
  lent_cut s = job-cut denied (λ j. answer j s c) (λ m ok x p. answer-same m ok x p s c) m x order groups count

  -- .. and leave the same state
  left_cut : (s : State) → after_lent (cut m) (take max_starts x) (take max_rows order) (take max_fields groups) count s c ≡ after_lent m x order groups count s c
  unfolding after_lent
  left_cut s = job-cut (λ number place. s) (λ j. after j s c) (λ m ok x p. after_same m ok x p s c) m x order groups count

-- room for forces that is cut to the rows of the longest matrix gives the same answer, and leaves the same state
module _ (m : Matrix) (x : List ℤ) (order groups : List ℕ) (count : ℕ) (s : State) (room : ℕ) where
  room_cut : (call : asked.Call) (ws : List ℕ) → answer_lent m x order groups count s (as_call call ws (min room max_rows)) ≡ answer_lent m x order groups count s (as_call call ws room)
  unfolding answer_lent answer answer_of job_checks matrix_check job_of
  room_cut Picks ws = refl
  room_cut ReadySet ws = refl
  room_cut Preview ws = refl
  room_cut Rounds ws = refl
  room_cut ForceList ws = in_turn-same denied (matrix_check m) _ _ _ _ (λ ok. rw (min_comm room max_rows, leb-min m.n max_rows room (matrix_facts m ok).few))

  left-room : (call : asked.Call) (ws : List ℕ) → after_lent m x order groups count s (as_call call ws (min room max_rows)) ≡ after_lent m x order groups count s (as_call call ws room)
  unfolding after_lent after after_of
  left-room Picks ws = refl
  left-room ReadySet ws = refl
  left-room Preview ws = refl
  left-room Rounds ws = refl
  left-room ForceList ws = refl

-- a call on the lists that are decoded, and with the room that is lent on, is the call on the whole ones
pub performed_whole : (m : Matrix) (x : List ℤ) (order groups : List ℕ) {count : ℕ} {d : Matrix} {y : List ℤ} {o g : List ℕ} → d ≡ cut m → y ≡ take max_starts x → o ≡ take max_rows order → g ≡ take max_fields groups
    → (call : asked.Call) (ws : List ℕ) {size : ℕ} (room : ℕ) → size ≡ min room max_rows → {s : State} {old : List ℤ} {a : Answer} {t : State} {new : List ℤ}
    → Performed d y o g count s (as_call call ws size) old a t new → Performed m x order groups count s (as_call call ws room) old a t new
performed_whole m x order groups {count} ed ey eo eg call ws room e {s} {old} h =
    let k = rw (ed, ey, eo, eg, e) at h in
    let c = as_call call ws (min room max_rows) in
    let same = lent_cut m x order groups count c s ∙ room_cut m x order groups count s room call ws in
    record { answers = k.answers ∙ same; leaves = k.leaves ∙ left_cut m x order groups count c s ∙ left-room m x order groups count s room call ws; forces = k.forces ∙ ap (λ (b : Answer). forces_lent b old) same }

-- ---- the state

-- without n sums there is none
no-sums : (j : Job) (s : State) (c : Call) → length s.sums ≢ j.matrix.n → answer j s c ≡ denied why.not_state 0
unfolding answer state_check is_state in_turn
no-sums j s c h = rw (ne_eqb (length s.sums) j.matrix.n h)

module _ (m : Matrix) (x : List ℤ) (order groups : List ℕ) (count : ℕ) (c : Call) where
  abbrev with : List ℕ → List ℤ → List ℤ → Answer
  with made held sums = answer_lent m x order groups count (record { made = made; held = held; sums = sums }) c

  -- sums that are cut to one more than any matrix has rows stay too many
  sums-cut : (made : List ℕ) (held sums : List ℤ) → with made held (take max_starts sums) ≡ with made held sums
  unfolding answer_lent job_checks matrix_check job_of
  sums-cut made held sums = in_turn-same denied (matrix_check m) _ _ _ _ (λ ok. go (matrix_facts m ok).few (leb (length sums) max_starts) refl)
    where
      go : m.n ≤ max_rows → (b : Bool) → leb (length sums) max_starts ≡ b
          → in_turn denied (displacement_check m.n x ∷ plan_check m order groups count ∷ []) (answer (job_of m x order groups count) (record { made = made; held = held; sums = take max_starts sums }) c)
          ≡ in_turn denied (displacement_check m.n x ∷ plan_check m order groups count ∷ []) (answer (job_of m x order groups count) (record { made = made; held = held; sums = sums }) c)
      go few true e = rw (take_all max_starts sums (leb-true (length sums) max_starts e))
      go few false e =
          let long = leb-false (length sums) max_starts e in
          let size : length (take max_starts sums) ≡ max_starts = length-take-le max_starts sums (omega arith) in
          rw (
            no-sums (job_of m x order groups count) (record { made = made; held = held; sums = take max_starts sums }) c (λ q. omega arith),
            no-sums (job_of m x order groups count) (record { made = made; held = held; sums = sums }) c (λ q. omega arith),
          )

  -- with no sums there is none
  none_lent : (made : List ℕ) (held : List ℤ) → with made held [] ≡ in_turn denied (job_checks m x order groups count) (denied why.not_state 0)
  unfolding answer_lent job_checks matrix_check job_of
  none_lent made held = in_turn-same denied (matrix_check m) _ _ _ _ (λ ok.
      let some = (matrix_facts m ok).some in
      rw (no-sums (job_of m x order groups count) (record { made = made; held = held; sums = [] }) c (λ q. omega arith)))

  -- the state that a call decodes, with sums that are cut; with none, where the bytes are no state
  module _ (state sums : List ℕ) (r : code.State) {zs : List ℤ} (is : length state ≡ state_bytes → StateIs r state) (lent : zs ≡ cond (eqb (length state) state_bytes) (take max_starts (signed 8 sums)) []) where
    pub decoded : answer_lent m x order groups count (state_of r zs) c ≡ answer_in m x order groups count state sums c
    unfolding answer_in
    decoded = go (eqb (length state) state_bytes) refl lent
      where
        go : (b : Bool) → eqb (length state) state_bytes ≡ b → zs ≡ cond b (take max_starts (signed 8 sums)) []
            → with r.made r.held zs ≡ cond b (answer_lent m x order groups count (state_in state sums) c) (in_turn denied (job_checks m x order groups count) (denied why.not_state 0))
        go true e ez = let d = is (eqb-true (length state) state_bytes e) in rw (d.made, d.held, ez) (sums-cut (unsigned 4 (take count_bytes state)) (signed 8 (drop count_bytes state)) (signed 8 sums))
        go false e ez = rw ez (none_lent r.made r.held)

-- the sums that are decoded into an array: those beside a state, as far as it reaches
module _ (b : Bool) (sums bytes : List ℕ) (old : List ℤ) {count : ℕ} {array : List ℤ} (are : bytes ≡ cond b sums []) (long : length old ≡ max_starts)
    (e : count ≡ min (length bytes / 8) (length old)) (f : array ≡ stored (take count (signed 8 bytes)) old) where
  pub sums_decoded : take count array ≡ cond b (take max_starts (signed 8 sums)) []
  unfolding blocks
  sums_decoded = loaded_is (signed_number 8) 8 bytes old e f ∙ ap (λ (k : ℕ). take k (signed 8 bytes)) long ∙ ap (λ (l : List ℕ). take max_starts (signed 8 l)) are ∙ go b
    where
      go : (t : Bool) → take max_starts (signed 8 (cond t sums [])) ≡ cond t (take max_starts (signed 8 sums)) []
      go true = refl
      go false = take-nil max_starts

-- a call that ends in a refusal is refused in any case
pub always_refused : (cs : List Check) (q p : ℕ) → (number : ℕ) × (place : ℕ) × (in_turn denied cs (denied q p) ≡ denied number place)
unfolding in_turn
always_refused [] q p = (q, p, refl)
always_refused (c ∷ cs) q p = go c.holds (always_refused cs q p)
  where
    go : (b : Bool) → ((number : ℕ) × (place : ℕ) × (in_turn denied cs (denied q p) ≡ denied number place))
        → (number : ℕ) × (place : ℕ) × (cond b (in_turn denied cs (denied q p)) (denied c.number c.place) ≡ denied number place)
    go true r = r
    go false r = (c.number, c.place, refl)
