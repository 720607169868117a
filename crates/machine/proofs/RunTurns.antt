-- One pick, and one turn of the loop over a schedule: the step is the machine's, and who is blocked is as before until
-- a count reaches its stop.
use mathlib.Core.Path.{◌≡◌, refl, sym, ap, ◌∙◌, subst}
use mathlib.Core.Logic.{◌⊎◌, inl, inr, ◌≢◌}
use mathlib.Core.Bool.{Bool, true, false}
use mathlib.Core.List.{List}
use Prim.Native.Nat.{ℕ, zero, suc, ◌+◌, ◌*◌, ◌/◌, ◌≤◌, ◌<◌}
use native.Mathlib.Numerals.{add-one}
use native.Mathlib.Omega.{arith}
use lib.IntN.{ℤ}
use lib.ListN.{length, get_or, replicate}
use lib.Seq.{get_or-set_same, get_or-set_other}
use Rattle.base.proofs.Booleans.{same_or}
use Rattle.matrix.specs.Limits.{max_rows}
use Rattle.plan.specs.Sound.{max_workers}
use Rattle.plan.specs.Groups.{width, records}
use Rattle.plan.specs.Code.Checks.{record_at}
use Rattle.run.specs.Job.{Job, Accepted, workers}
use Rattle.run.specs.Updates.{Update, count, accesses, next}
use Rattle.run.specs.Machine.{refusal, halted, onward, step_if, step}
use Rattle.run.specs.State.{State}
use Rattle.tables.specs.Code.Laid.{max_updates, updates_in, Laid, Waits, LaidIn}
use Rattle.waits.specs.Code.Waits.{Recorded, Current}
use Rattle.steps.specs.Code.Steps.{reason_at, outcome_of, PickMade, AheadBy}
use Rattle.steps.specs.Code.Work.{cause_in, update_in_work}
use Rattle.steps.specs.declared.course.Work.{Work}
use Rattle.steps.specs.Code.AtHand.{AtHand, Entered, AccessMade}
use Rattle.machine.specs.Code.Stepped.{passes_over, walk}
use Rattle.machine.specs.declared.state.Rule.{Rule}
use Rattle.run.proofs.Able.{able}
use Rattle.machine.proofs.TableWaits.{table-reason}
use Rattle.steps.proofs.TableSteps.{reason-none, pick_worker, pick_refused}
use Rattle.steps.proofs.UpdatesAtHand.{none_at_hand, access-ready, access-picks, access-keeps, steps_steady}
use Rattle.machine.proofs.BlockedLeaves.{whole-crew, waits-of}
use Rattle.run.proofs.Passes.{Left, left-start, left_step, left_skip, left_halt, left-none}

-- ---- a step is the machine's

module _ (j : Job) {first row begins leaves ends : List ℕ} (laid : Laid j first row begins leaves ends) where
  -- .. with an update that is its worker's next, if nothing refuses it
  table_step : (crew : ℕ) → crew ≡ workers j → crew ≤ max_workers → (s : State) (blocks : List Bool) → Waits j s.made blocks → (w : ℕ) (u : Update)
      → (w < max_workers → count s.made w < accesses j w → u ≡ next j s.made w) → step_if (reason_at crew first row leaves blocks s.made w) s w u ≡ step j s w
  unfolding step step_if
  table_step crew e few s blocks waiting w u is = rw (table-reason j laid s.made blocks waiting crew e few w) (go (refusal j s.made w) refl)
    where
      go : (why : ℕ) → refusal j s.made w ≡ why → step_if why s w u ≡ step_if why s w (next j s.made w)
      go (suc k) y = refl
      go zero y = let a = able j s.made w y in ap (λ (v : Update). step_if 0 s w v) (is (omega (arith, a.in_plan)) a.left)

  -- what the code answers and leaves is the machine's outcome
  step-answer : {crew : ℕ} → crew ≡ workers j → crew ≤ max_workers → {s : State} {blocks : List Bool} → Waits j s.made blocks → {w number : ℕ} {u : Update} {t : State}
      → (w < max_workers → count s.made w < accesses j w → u ≡ next j s.made w) → PickMade (reason_at crew first row leaves blocks s.made w) s w u number t → step j s w ≡ outcome_of number t
  step-answer {crew} e few {s} {blocks} waiting {w} {number} {u} is h = sym (table_step crew e few s blocks waiting w u is) ∙ sym h.is

-- a pick that is refused
outcome_halted : (number : ℕ) (t : State) → number ≢ 0 → outcome_of number t ≡ halted number
unfolding outcome_of
outcome_halted zero t d = absurd (d refl)
outcome_halted (suc k) t d = refl

-- ---- the loop

module _ (T : Work) where
  -- the update of worker w's next access
  abbrev update_of : (made : List ℕ) → ℕ → Update
  update_of = update_in_work T

  -- why its next step is refused
  abbrev cause_of : (blocks : List Bool) (made : List ℕ) → ℕ → ℕ
  cause_of = cause_in T.course

  -- a pick of worker w in this state: its answer, and what it leaves
  pub record Picked (blocks : List Bool) (s : State) (w number : ℕ) (new : State) (targets : List ℕ) (adds : List ℤ) : Type 0 where
    pub made : PickMade (cause_of blocks s.made w) s w (update_of s.made w) number new
    pub hand : AtHand (cause_of blocks) update_of new.made targets adds

  -- of every job that they stand for, as far as the picks of a schedule reach
  abbrev EachJob : (s₀ : State) (schedule : List ℕ) → (Job → Type 0) → Type 0
  EachJob s₀ schedule P =
      (j : Job) → Accepted j → j.plan.groups ≡ records (length T.course.tables.groups.now / width) T.course.tables.groups.now → LaidIn j T.course.tables
      → AheadBy j s₀.made (length schedule) T.course.tables T.entries T.displaced.now → P j

  -- k picks of the schedule, n of them taken, led from s₀ to s; these groups are blocked now, and until a count reaches
  -- its stop; these updates are at hand
  pub record Running (rule : Rule) (s₀ : State) (schedule : List ℕ) (n k : ℕ) (s : State) (blocks : List Bool) (stops targets : List ℕ) (adds : List ℤ) : Type 0 where
    pub current : Current (length T.course.tables.groups.now / width) T.course.tables.groups.now T.course.tables.ends.now s.made blocks stops
    pub hand : AtHand (cause_of blocks) update_of s.made targets adds
    pub grown : (w : ℕ) → (count s₀.made w ≤ count s.made w) × (count s.made w ≤ count s₀.made w + k)
    pub left : EachJob s₀ schedule (λ j. Left (passes_over rule) (step j) s₀ schedule k n s)

module _ {T : Work} {rule : Rule} {s₀ : State} {schedule : List ℕ} where
  -- at first
  pub running_start : {blocks : List Bool} {stops : List ℕ} → Current (length T.course.tables.groups.now / width) T.course.tables.groups.now T.course.tables.ends.now s₀.made blocks stops
      → {adds : List ℤ} → length adds ≡ max_workers → Running T rule s₀ schedule 0 0 s₀ blocks stops (replicate max_workers max_rows) adds
  running_start h f = record {
    current = h;
    hand = none_at_hand h.long f;
    grown = λ w. (omega arith, omega arith);
    left = λ j ok is laid t. left-start (passes_over rule) (step j) s₀ schedule;
  }

  module _ {n k : ℕ} {s : State} {blocks : List Bool} {stops targets : List ℕ} {adds : List ℤ} (r : Running T rule s₀ schedule n k s blocks stops targets adds) where
    -- all picks are gone through
    pub running_none : k ≡ length schedule → EachJob T s₀ schedule (λ j. record { state = s; taken = n; met = length schedule; number = 0 } ≡ walk rule j s₀ schedule)
    running_none l j ok is laid t = ap (λ (y : ℕ). record { state = s; taken = n; met = y; number = 0 }) (sym l) ∙ left-none (passes_over rule) (step j) s₀ schedule k n s (r.left j ok is laid t) l

    -- worker w's step is looked at
    module _ {w number : ℕ} {targets' : List ℕ} {adds' : List ℤ} (e : Entered (cause_of T blocks) (update_of T) s.made w number targets' adds') where
      -- the counts refuse it
      pub entered-refused : number ≢ 0 → Picked T blocks s w number s targets' adds'
      entered-refused d = record { made = pick_refused _ number _ _ _ e.told d; hand = e.hand }

      -- .. or do not
      module _ (z : number ≡ 0) where
        free : cause_of T blocks s.made w ≡ 0
        free = sym e.told ∙ z

        pub entered-worker : w < max_workers
        entered-worker = omega (arith, T.course.few, (reason-none w T.course.workers (count s.made w) (2 * updates_in T.course.tables.first.now w) _ free).0)

        -- what its access needs
        pub entered-ready : (count s.made w < 2 * max_updates) × (get_or targets' w 0 < T.course.rows)
        entered-ready =
            access-ready T.course.workers T.course.tables.first.now T.course.tables.row.now T.course.tables.begins.now T.entries.parts.now T.course.tables.leaves.now blocks T.displaced.now T.entries.at.now T.entries.beside.now T.placed s.made w entered-worker free
            (e.hand.is w entered-worker (e.known z)).target_is

        pub entered-made : {number' : ℕ} {new : State} {targets'' : List ℕ} → AccessMade s w targets' adds' number' new targets'' → Picked T blocks s w number' new targets'' adds'
        entered-made a =
            let steady = steps_steady T.course.workers T.course.tables.first.now T.course.tables.row.now T.course.tables.begins.now T.entries.parts.now T.course.tables.leaves.now blocks T.displaced.now T.entries.at.now T.entries.beside.now in
            record { made = access-picks steady entered-worker (e.known z) e.hand a; hand = access-keeps steady entered-worker (e.known z) e.hand a }

    -- the next pick
    module _ (crew : T.course.workers ≡ (record_at T.course.tables.groups.now 0).workers) (recorded : Recorded (length T.course.tables.groups.now / width) T.course.tables.groups.now) (l : k < length schedule) {number : ℕ} {new : State} {targets' : List ℕ} {adds' : List ℤ}
        (p : Picked T blocks s (get_or schedule k 0) number new targets' adds') where
      abbrev w : ℕ
      w = get_or schedule k 0

      is-step : EachJob T s₀ schedule (λ j. step j s w ≡ outcome_of number new)
      is-step j ok is laid t =
          step-answer j laid (crew ∙ whole-crew j (length T.course.tables.groups.now / width) T.course.tables.groups.now recorded.some is) T.course.few (waits-of j ok (length T.course.tables.groups.now / width) T.course.tables.groups.now is laid s.made blocks r.current.blocked recorded)
          (λ low left. t.is s.made w low (r.grown w).0 (omega (arith, l, (r.grown w).1)) left) p.made

      module _ (q : number ≢ 0) where
        halts : EachJob T s₀ schedule (λ j. step j s w ≡ halted number)
        halts j ok is laid t = is-step j ok is laid t ∙ outcome_halted number new q

        -- it is refused, and ends the schedule
        pub running_halt : passes_over rule number ≡ false → EachJob T s₀ schedule (λ j. record { state = new; taken = n; met = k; number = number } ≡ walk rule j s₀ schedule)
        running_halt f j ok is laid t =
            ap (λ (y : State). record { state = y; taken = n; met = k; number = number }) (p.made.kept q)
            ∙ left_halt (passes_over rule) (step j) s₀ schedule k n s (r.left j ok is laid t) l number (halts j ok is laid t) f

        -- .. or is passed over
        pub running_past : passes_over rule number ≡ true → Running T rule s₀ schedule n (k + 1) new blocks stops targets' adds'
        running_past f = subst (λ (y : State). Running T rule s₀ schedule n (k + 1) y blocks stops targets' adds') (sym (p.made.kept q)) (record {
          current = r.current;
          hand = rw (p.made.kept q) at p.hand;
          grown = λ v. ((r.grown v).0, omega (arith, (r.grown v).1));
          left = λ j ok is laid t. subst (λ (y : ℕ). Left (passes_over rule) (step j) s₀ schedule y n s) (sym (add-one k)) (left_skip (passes_over rule) (step j) s₀ schedule k n s (r.left j ok is laid t) l number (halts j ok is laid t) f);
        })

      -- it is taken
      module _ (q : number ≡ 0) {blocks' : List Bool} {stops' : List ℕ}
          (renew : (before : List ℕ) → new.made ≡ onward before w → Current (length T.course.tables.groups.now / width) T.course.tables.groups.now T.course.tables.ends.now before blocks stops → Current (length T.course.tables.groups.now / width) T.course.tables.groups.now T.course.tables.ends.now new.made blocks' stops') where
        next-current : Current (length T.course.tables.groups.now / width) T.course.tables.groups.now T.course.tables.ends.now new.made blocks' stops'
        next-current = renew s.made (p.made.counted q) r.current

        -- one count has risen by one
        next_grown : (v : ℕ) → (count s₀.made v ≤ count new.made v) × (count new.made v ≤ count s₀.made v + (k + 1))
        unfolding onward
        next_grown v = go (same_or v w)
          where
            go : (v ≡ w) ⊎ (v ≢ w) → (count s₀.made v ≤ count new.made v) × (count new.made v ≤ count s₀.made v + (k + 1))
            go (inl e) =
                let x : count new.made w ≡ suc (count s.made w) = ap (λ (xs : List ℕ). get_or xs w 0) (p.made.counted q) ∙ get_or-set_same s.made w (suc (get_or s.made w 0)) 0 (omega (arith, r.hand.made_long, pick_worker T.course.tables.first.now T.course.tables.row.now T.course.tables.leaves.now blocks T.course.few p.made q)) in
                rw e (omega (arith, x, (r.grown w).0), omega (arith, x, (r.grown w).1))
            go (inr d) =
                let x : count new.made v ≡ count s.made v = ap (λ (xs : List ℕ). get_or xs v 0) (p.made.counted q) ∙ get_or-set_other s.made w v (suc (get_or s.made w 0)) 0 d in
                (omega (arith, x, (r.grown v).0), omega (arith, x, (r.grown v).1))

        next-left : EachJob T s₀ schedule (λ j. Left (passes_over rule) (step j) s₀ schedule (k + 1) (n + 1) new)
        unfolding outcome_of
        next-left j ok is laid t =
            rw (add-one k, add-one n) (left_step (passes_over rule) (step j) s₀ schedule k n s (r.left j ok is laid t) l new (is-step j ok is laid t ∙ ap (λ (y : ℕ). outcome_of y new) q))

        -- the blocked groups are found anew
        pub running_renewed : Running T rule s₀ schedule (n + 1) (k + 1) new blocks' stops' (replicate max_workers max_rows) adds'
        running_renewed = record { current = next-current; hand = none_at_hand next-current.long p.hand.adds_long; grown = next_grown; left = next-left }

        -- .. or are as they were
        pub running_on : blocks' ≡ blocks → Running T rule s₀ schedule (n + 1) (k + 1) new blocks' stops' targets' adds'
        running_on e = record { current = next-current; hand = rw e p.hand; grown = next_grown; left = next-left }
