-- The loop over a schedule for both: what is left of it decides, and who is blocked, in each crew's run, is as before
-- until a count reaches its stop.
use mathlib.Core.Path.{◌≡◌, refl, sym, ap, ◌∙◌, subst}
use mathlib.Core.Logic.{◌⊎◌, inl, inr, ◌≢◌}
use mathlib.Core.Bool.{Bool, false}
use mathlib.Core.List.{List}
use Prim.Native.Nat.{ℕ, ◌+◌, ◌*◌, ◌/◌, ◌%◌, ◌≤◌, ◌<◌}
use native.Mathlib.Numerals.{add-one}
use native.Mathlib.Omega.{arith}
use lib.IntN.{ℤ}
use lib.ListN.{length, get_or, replicate}
use Rattle.base.proofs.Booleans.{same_or}
use Rattle.matrix.specs.Limits.{max_rows}
use Rattle.plan.specs.Sound.{max_workers}
use Rattle.plan.specs.Groups.{width, records}
use Rattle.plan.specs.Code.Checks.{record_at}
use Rattle.run.specs.Job.{workers}
use Rattle.run.specs.Updates.{Update, count}
use Rattle.run.specs.State.{State}
use Rattle.run.specs.Schedule.{skips_none}
use Rattle.run.proofs.Passes.{Left, left-start, left_step, left_halt, left-none}
use Rattle.tables.specs.Code.Laid.{max_updates, Laid}
use Rattle.waits.specs.Code.Waits.{Recorded, Blocks, Ahead, Current}
use Rattle.steps.specs.Code.Updates.{Triangle}
use Rattle.steps.specs.Code.Steps.{reason_at, update_next, update_by, outcome_of, StepTables, PickMade}
use Rattle.steps.specs.Code.AtHand.{AtHand, Entered}
use Rattle.steps.proofs.TableSteps.{pick_refused}
use Rattle.steps.proofs.UpdatesAtHand.{Steady, none_at_hand, access-ready, access-picks, access-keeps}
use Rattle.crews.proofs.Turns.{not_away}
use Rattle.machine.proofs.BlockedLeaves.{whole-crew, waits-of}
use Rattle.crews.specs.Crews.{Crew, crew0, crew1, other, crew_number, Two, own_of, put_for, Roof, job_for, crew_step, turn, turns}
use Rattle.crews.specs.TwoCrews.{AcceptedRoof}
use Rattle.turns.specs.Code.Inside.{inside_at, cause_at, cause_in}
use Rattle.steps.specs.Code.Work.{update_in_work}
use Rattle.steps.specs.declared.course.Course.{Course}
use Rattle.steps.specs.declared.course.Work.{Work}
use Rattle.tables.specs.declared.Entries.{Entries}
use Rattle.turns.specs.Code.Both.{work_for, both_moves, Begun, AccessFor, RenewedFor}
use Rattle.turns.specs.Code.Turned.{misnamed}
use Rattle.turns.proofs.CrewBytes.{crew-of}
use Rattle.turns.proofs.CrewHands.{crew_steady, other-moved}
use Rattle.turns.proofs.CrewTurns.{turn-answer, turn_halts, turn-moves, name_halts, named-low}

-- the tables that the picks are taken by
pub record Tables : Type 0 where
  pub workers : ℕ
  pub count : ℕ
  pub groups : List ℕ
  pub ends : List ℕ
  pub first : List ℕ
  pub row : List ℕ
  pub begins : List ℕ
  pub parts : List ℕ
  pub leaves : List ℕ
  pub displaced : Two (List ℤ)
  pub at : List ℕ
  pub beside : List ℤ

-- .. that the code holds
abbrev pub tables_in : (work0 work1 : Work) → Tables
tables_in work0 work1 =
    let t = work0.course.tables in
    record {
      workers = work0.course.workers;
      count = length t.groups.now / width;
      groups = t.groups.now;
      ends = t.ends.now;
      first = t.first.now;
      row = t.row.now;
      begins = t.begins.now;
      parts = work0.entries.parts.now;
      leaves = t.leaves.now;
      displaced = both_moves work0 work1;
      at = work0.entries.at.now;
      beside = work0.entries.beside.now;
    }

-- both crews' counts
abbrev counts_of : Two State → Two (List ℕ)
counts_of S = record { of0 = S.of0.made; of1 = S.of1.made }

-- nothing is at hand
abbrev nobody : Two (List ℕ)
nobody = record { of0 = replicate max_workers max_rows; of1 = replicate max_workers max_rows }

own_put : (S : Two State) (c : Crew) → put_for S c (own_of S c) ≡ S
own_put S crew0 = refl
own_put S crew1 = refl

put_same : (S T : Two State) (c : Crew) → own_of T (other c) ≡ own_of S (other c) → put_for S c (own_of T c) ≡ T
put_same S T crew0 e = ap (λ (s : State). record { of0 = T.of0; of1 = s }) (sym e)
put_same S T crew1 e = ap (λ (s : State). record { of0 = s; of1 = T.of1 }) (sym e)

module _ (T : Tables) where
  -- of every roof that they stand for
  abbrev EachRoof : (Roof → Type 0) → Type 0
  EachRoof P =
      (q : Roof) → AcceptedRoof q → q.plan.groups ≡ records T.count T.groups → ((c : Crew) → Laid (job_for q c) T.first T.row T.begins T.leaves T.ends)
      → ((c : Crew) → Triangle (job_for q c) T.parts (own_of T.displaced c) T.at T.beside) → P q

  abbrev CurrentOf : (made : List ℕ) (blocks : List Bool) (stops : List ℕ) → Type 0
  CurrentOf made blocks stops = Current T.count T.groups T.ends made blocks stops

  -- why a pick of a worker of the plan is refused, for a crew beside the other's counts, and its update
  abbrev cause_of : (blocks : List Bool) (other made : List ℕ) → ℕ → ℕ
  cause_of blocks other = cause_at T.first T.row T.begins T.leaves blocks other

  abbrev update_of : Crew → (made : List ℕ) → ℕ → Update
  update_of c = update_next T.first T.row T.begins T.parts (own_of T.displaced c) T.at T.beside

  -- these updates of crew c are at hand
  abbrev Hand : Two State → Crew → (blocks : List Bool) (targets : List ℕ) (adds : List ℤ) → Type 0
  Hand S c blocks targets adds = AtHand (cause_of blocks (own_of S (other c)).made) (update_of c) (own_of S c).made targets adds

  -- k picks of the schedule, all taken, led from S₀ to S
  pub record Sharing (S₀ : Two State) (schedule : List ℕ) (k : ℕ) (S : Two State) (blocks : Two (List Bool)) (stops targets : Two (List ℕ)) (adds : Two (List ℤ)) : Type 0 where
    pub crew : T.workers ≡ (record_at T.groups 0).workers
    pub hand : (c : Crew) → Hand S c (own_of blocks c) (own_of targets c) (own_of adds c)
    pub current : (c : Crew) → CurrentOf (own_of S c).made (own_of blocks c) (own_of stops c)
    pub left : EachRoof (λ q. Left skips_none (turn q) S₀ schedule k k S)

  -- a pick of worker w for crew c by the tables, with this answer, that leaves this state
  abbrev Made : Two State → Crew → (blocks : List Bool) (w number : ℕ) → State → Type 0
  Made S c blocks w number new = PickMade (cause_of blocks (own_of S (other c)).made (own_of S c).made w) (own_of S c) w (update_of c (own_of S c).made w) number new

  none_for : {S : Two State} {blocks : Two (List Bool)} {stops : Two (List ℕ)} {adds : Two (List ℤ)} → ((c : Crew) → CurrentOf (own_of S c).made (own_of blocks c) (own_of stops c)) → ((c : Crew) → length (own_of adds c) ≡ max_workers)
      → (c : Crew) → Hand S c (own_of blocks c) (own_of nobody c) (own_of adds c)
  none_for h f crew0 = none_at_hand (h crew0).long (f crew0)
  none_for h f crew1 = none_at_hand (h crew1).long (f crew1)

-- crew c's steps are taken by these, if the tables and entries are those of both
module _ (work0 work1 : Work) (course : work1.course ≡ work0.course) (entries : work1.entries ≡ work0.entries) where
  module _ (blocks : List Bool) (other : List ℕ) {made targets : List ℕ} {adds : List ℤ} where
    pub hand-same : (c : Crew) → AtHand (cause_of (tables_in work0 work1) blocks other) (update_of (tables_in work0 work1) c) made targets adds
        → AtHand (cause_in (work_for work0 work1 c).course blocks other) (update_in_work (work_for work0 work1 c)) made targets adds
    hand-same crew0 h = h
    hand-same crew1 h =
        subst (λ (k : Course). AtHand (cause_in k blocks other) (update_by k.tables work1.entries work1.displaced.now) made targets adds) (sym course)
        (subst (λ (e : Entries). AtHand (cause_in work0.course blocks other) (update_by work0.course.tables e work1.displaced.now) made targets adds) (sym entries) h)

    entered-same : (c : Crew) {w number : ℕ} → Entered (cause_in (work_for work0 work1 c).course blocks other) (update_in_work (work_for work0 work1 c)) made w number targets adds
        → Entered (cause_of (tables_in work0 work1) blocks other) (update_of (tables_in work0 work1) c) made w number targets adds
    entered-same crew0 e = e
    entered-same crew1 {w} {number} e =
        subst (λ (x : Entries). Entered (cause_in work0.course blocks other) (update_by work0.course.tables x work1.displaced.now) made w number targets adds) entries
        (subst (λ (k : Course). Entered (cause_in k blocks other) (update_by k.tables work1.entries work1.displaced.now) made w number targets adds) course e)

  pub begun-same : (blocks : Two (List Bool)) {made : Two (List ℕ)} {byte workers number : ℕ} {targets : Two (List ℕ)} {adds : Two (List ℤ)} {targets' : Two (List ℕ)} {adds' : Two (List ℤ)}
      → Begun (λ c. cause_in (work_for work0 work1 c).course (own_of blocks c) (own_of made (other c))) (λ c. update_in_work (work_for work0 work1 c)) made byte workers number targets adds targets' adds'
      → Begun (λ c. cause_of (tables_in work0 work1) (own_of blocks c) (own_of made (other c))) (update_of (tables_in work0 work1)) made byte workers number targets adds targets' adds'
  begun-same blocks {made} b = record { halted = b.halted; entered = λ z c n. entered-same (own_of blocks c) (own_of made (other c)) c (b.entered z c n); gone = b.gone; adds_kept = b.adds_kept }

-- of crew 0, and of crew 1
pub of_both : (P : Crew → Type 0) → P crew0 → P crew1 → (c : Crew) → P c
of_both P x y crew0 = x
of_both P x y crew1 = y

module _ {T : Tables} {S₀ : Two State} {schedule : List ℕ} where
  -- at first
  pub sharing_start : {blocks : Two (List Bool)} {stops : Two (List ℕ)} {adds : Two (List ℤ)} → T.workers ≡ (record_at T.groups 0).workers → length S₀.of0.made ≡ max_workers → length S₀.of1.made ≡ max_workers
      → ((c : Crew) → Blocks T.count T.groups T.ends (own_of (counts_of S₀) c) (own_of blocks c)) → ((c : Crew) → Ahead T.count T.groups T.ends (own_of (counts_of S₀) c) (own_of stops c))
      → length adds.of0 ≡ max_workers → length adds.of1 ≡ max_workers → Sharing T S₀ schedule 0 S₀ blocks stops nobody adds
  sharing_start {blocks} {stops} {adds} e f g b a x y = record { crew = e; current = current; hand = none_for T current long; left = λ q ok is laid t. left-start skips_none (turn q) S₀ schedule }
    where
      current : (c : Crew) → CurrentOf T (own_of S₀ c).made (own_of blocks c) (own_of stops c)
      current crew0 = record { long = f; blocked = b crew0; ahead = a crew0 }
      current crew1 = record { long = g; blocked = b crew1; ahead = a crew1 }

      long : (c : Crew) → length (own_of adds c) ≡ max_workers
      long crew0 = x
      long crew1 = y

  module _ {k : ℕ} {S : Two State} {blocks : Two (List Bool)} {stops targets : Two (List ℕ)} {adds : Two (List ℤ)} (r : Sharing T S₀ schedule k S blocks stops targets adds) where
    -- all picks are taken
    pub sharing_none : k ≡ length schedule → EachRoof T (λ q. record { state = S; taken = length schedule; met = length schedule; number = 0 } ≡ turns q S₀ schedule)
    sharing_none l q ok is laid t = ap (λ (y : ℕ). record { state = S; taken = y; met = y; number = 0 }) (sym l) ∙ left-none skips_none (turn q) S₀ schedule k k S (r.left q ok is laid t) l

    -- what is at hand
    pub sharing_hand : (c : Crew) → AtHand (cause_of T (own_of blocks c) (own_of (counts_of S) (other c))) (update_of T c) (own_of (counts_of S) c) (own_of targets c) (own_of adds c)
    sharing_hand crew0 = r.hand crew0
    sharing_hand crew1 = r.hand crew1

    module _ (R : Recorded T.count T.groups) (few : T.workers ≤ max_workers) (l : k < length schedule) where
      abbrev byte : ℕ
      byte = get_or schedule k 0

      abbrev w : ℕ
      w = byte % max_workers

      crew_is : (q : Roof) → q.plan.groups ≡ records T.count T.groups → (c : Crew) → T.workers ≡ workers (job_for q c)
      crew_is q is c = r.crew ∙ whole-crew (job_for q c) T.count T.groups R.some is

      -- the next pick is for crew c, of a worker of the plan
      module _ (c : Crew) (named : byte / max_workers ≡ crew_number c) (low : w < T.workers) {number : ℕ} {new : State} (h : Made T S c (own_of blocks c) w number new) where
        is-step : EachRoof T (λ q. crew_step q S c w ≡ outcome_of number new)
        is-step q ok is laid t =
            turn-answer q S c laid (t c) (omega (arith, few, crew_is q is c)) (waits-of (job_for q c) (ok c) T.count T.groups is (laid c) (own_of S c).made (own_of blocks c) (r.current c).blocked R) w
            (omega (arith, low, crew_is q is c)) h

        halts : number ≢ 0 → EachRoof T (λ q. record { state = S; taken = k; met = k; number = number } ≡ turns q S₀ schedule)
        halts d q ok is laid t = left_halt skips_none (turn q) S₀ schedule k k S (r.left q ok is laid t) l number (turn_halts q S c byte named new (is-step q ok is laid t) d) refl

        moves : number ≡ 0 → EachRoof T (λ q. Left skips_none (turn q) S₀ schedule (k + 1) (k + 1) (put_for S c new))
        moves z q ok is laid t =
            subst (λ (y : ℕ). Left skips_none (turn q) S₀ schedule y y (put_for S c new)) (sym (add-one k))
            (left_step skips_none (turn q) S₀ schedule k k S (r.left q ok is laid t) l (put_for S c new) (turn-moves q S c byte named new (is-step q ok is laid t) z))

      -- it is looked at
      module _ {number : ℕ} {targets' : Two (List ℕ)} {adds' : Two (List ℤ)}
          (b : Begun (λ c. cause_of T (own_of blocks c) (own_of (counts_of S) (other c))) (update_of T) (counts_of S) byte T.workers number targets adds targets' adds') where
        its : misnamed byte T.workers ≡ 0 → (c : Crew) × (byte / max_workers ≡ crew_number c)
        its e = crew-of byte (named-low byte T.workers e).0

        own : misnamed byte T.workers ≡ 0 → (c : Crew) → byte / max_workers ≡ crew_number c
            → Entered (cause_of T (own_of blocks c) (own_of S (other c)).made) (update_of T c) (own_of S c).made w number (own_of targets' c) (own_of adds' c)
        own e crew0 n = b.entered e crew0 n
        own e crew1 n = b.entered e crew1 n

        -- .. and refused
        pub sharing_refused : number ≢ 0 → EachRoof T (λ q. record { state = S; taken = k; met = k; number = number } ≡ turns q S₀ schedule)
        sharing_refused d = go (same_or (misnamed byte T.workers) 0)
          where
            go : (misnamed byte T.workers ≡ 0) ⊎ (misnamed byte T.workers ≢ 0) → EachRoof T (λ q. record { state = S; taken = k; met = k; number = number } ≡ turns q S₀ schedule)
            go (inl e) = let x = its e in halts x.0 x.1 (named-low byte T.workers e).1 (pick_refused _ number _ _ _ (own e x.0 x.1).told d) d
            go (inr f) = λ q ok is laid t.
                rw (b.halted f) (left_halt skips_none (turn q) S₀ schedule k k S (r.left q ok is laid t) l (misnamed byte T.workers) (name_halts q S byte T.workers (crew_is q is) f) refl)

        -- .. or its update is at hand
        module _ (z : number ≡ 0) where
          names : misnamed byte T.workers ≡ 0
          names = go (same_or (misnamed byte T.workers) 0)
            where
              go : (misnamed byte T.workers ≡ 0) ⊎ (misnamed byte T.workers ≢ 0) → misnamed byte T.workers ≡ 0
              go (inl e) = e
              go (inr f) = absurd (f (sym (b.halted f) ∙ z))

          pub sharing_named : byte < 2 * max_workers
          sharing_named = (named-low byte T.workers names).0

          low : w < T.workers
          low = (named-low byte T.workers names).1

          -- what an access needs
          pub sharing_ready : {n : ℕ} → StepTables n T.first T.row T.begins T.parts T.leaves T.at T.beside → ((c : Crew) → length (own_of S c).sums ≡ n)
              → (c : Crew) → byte / max_workers ≡ crew_number c → (count (own_of S c).made w < 2 * max_updates) × (get_or (own_of targets' c) w 0 < length (own_of S c).sums)
          sharing_ready t sums c n =
              let made : List ℕ = (own_of S c).made in
              let h = own names c n in
              let known = h.hand.is w (omega (arith, low, few)) (h.known z) in
              let free = (not_away (reason_at max_workers T.first T.row T.leaves (own_of blocks c) made w) (inside_at T.first T.row T.begins (own_of S (other c)).made w) known.free).0 in
              rw (sums c)
              (access-ready max_workers T.first T.row T.begins T.parts T.leaves (own_of blocks c) (own_of T.displaced c) T.at T.beside t made w (omega (arith, low, few)) free known.target_is)

          -- the access is made
          module _ {number' : ℕ} {S' : Two State} {targets'' : Two (List ℕ)} (a : AccessFor byte S targets' adds' number' S' targets'') where
            steady : (c : Crew) → Steady (cause_of T (own_of blocks c) (own_of S (other c)).made) (update_of T c)
            steady c = crew_steady T.first T.row T.begins T.parts T.leaves (own_of blocks c) (own_of T.displaced c) T.at T.beside (own_of S (other c)).made

            made : (c : Crew) → byte / max_workers ≡ crew_number c → Made T S c (own_of blocks c) w number' (own_of S' c)
            made c n = access-picks (steady c) (omega (arith, low, few)) ((own names c n).known z) (own names c n).hand (a.made c n)

            keeps : (c : Crew) → byte / max_workers ≡ crew_number c → AtHand (cause_of T (own_of blocks c) (own_of S (other c)).made) (update_of T c) (own_of S' c).made (own_of targets'' c) (own_of adds' c)
            keeps c n = access-keeps (steady c) (omega (arith, low, few)) ((own names c n).known z) (own names c n).hand (a.made c n)

            -- it is refused
            pub sharing_halt : number' ≢ 0 → EachRoof T (λ q. record { state = S'; taken = k; met = k; number = number' } ≡ turns q S₀ schedule)
            sharing_halt d q ok is laid t =
                let x = its names in
                let c = x.0 in
                let h = made c x.1 in
                ap (λ (s : Two State). record { state = s; taken = k; met = k; number = number' }) (sym (put_same S S' c (a.state_kept c x.1)) ∙ ap (put_for S c) (h.kept d) ∙ own_put S c)
                ∙ halts c x.1 low h d q ok is laid t

            -- it is taken
            module _ (z' : number' ≡ 0) {renewed : Bool} {blocks' : Two (List Bool)} {stops' : Two (List ℕ)} (m : RenewedFor T.count T.groups T.ends (counts_of S') byte renewed blocks stops blocks' stops') where
              next-left : EachRoof T (λ q. Left skips_none (turn q) S₀ schedule (k + 1) (k + 1) S')
              next-left q ok is laid t =
                  let x = its names in
                  subst (λ (s : Two State). Left skips_none (turn q) S₀ schedule (k + 1) (k + 1) s) (put_same S S' x.0 (a.state_kept x.0 x.1)) (moves x.0 x.1 low (made x.0 x.1) z' q ok is laid t)

              next-current : (d : Crew) → CurrentOf T (own_of S' d).made (own_of blocks' d) (own_of stops' d)
              next-current = by (its names).0 (its names).1
                where
                  by : (c : Crew) → byte / max_workers ≡ crew_number c → (d : Crew) → CurrentOf T (own_of S' d).made (own_of blocks' d) (own_of stops' d)
                  by crew0 n crew0 = m.current crew0 n _ ((made crew0 n).counted z') (r.current crew0)
                  by crew0 n crew1 = rw (a.state_kept crew0 n, m.blocks_kept crew0 n, m.stops_kept crew0 n) (r.current crew1)
                  by crew1 n crew0 = rw (a.state_kept crew1 n, m.blocks_kept crew1 n, m.stops_kept crew1 n) (r.current crew0)
                  by crew1 n crew1 = m.current crew1 n _ ((made crew1 n).counted z') (r.current crew1)

              adds_long : (d : Crew) → length (own_of adds' d) ≡ max_workers
              adds_long = by (its names).0 (its names).1
                where
                  by : (c : Crew) → byte / max_workers ≡ crew_number c → (d : Crew) → length (own_of adds' d) ≡ max_workers
                  by crew0 n crew0 = (own names crew0 n).hand.adds_long
                  by crew0 n crew1 = rw (b.adds_kept names crew0 n) (r.hand crew1).adds_long
                  by crew1 n crew0 = rw (b.adds_kept names crew1 n) (r.hand crew0).adds_long
                  by crew1 n crew1 = (own names crew1 n).hand.adds_long

              -- the blocked groups are found anew
              pub sharing_renewed : Sharing T S₀ schedule (k + 1) S' blocks' stops' nobody adds'
              sharing_renewed = record { crew = r.crew; current = next-current; hand = none_for T next-current adds_long; left = next-left }

              -- .. or are as they were
              pub sharing_on : renewed ≡ false → Sharing T S₀ schedule (k + 1) S' blocks' stops' targets'' adds'
              sharing_on e = record { crew = r.crew; current = next-current; hand = by (its names).0 (its names).1; left = next-left }
                where
                  -- what was at hand of the worker for the other crew is gone
                  by : (c : Crew) → byte / max_workers ≡ crew_number c → (d : Crew) → Hand T S' d (own_of blocks' d) (own_of targets'' d) (own_of adds' d)
                  by crew0 n crew0 = rw (a.state_kept crew0 n, m.same crew0 n e) (keeps crew0 n)
                  by crew0 n crew1 = rw (a.state_kept crew0 n, m.blocks_kept crew0 n, a.targets_kept crew0 n, b.gone names crew0 n, b.adds_kept names crew0 n)
                      (other-moved T.first T.row T.begins T.leaves blocks.of1 S.of0.made w (omega (arith, low, few)) ((made crew0 n).counted z') (r.hand crew1))
                  by crew1 n crew0 = rw (a.state_kept crew1 n, m.blocks_kept crew1 n, a.targets_kept crew1 n, b.gone names crew1 n, b.adds_kept names crew1 n)
                      (other-moved T.first T.row T.begins T.leaves blocks.of0 S.of1.made w (omega (arith, low, few)) ((made crew1 n).counted z') (r.hand crew0))
                  by crew1 n crew1 = rw (a.state_kept crew1 n, m.same crew1 n e) (keeps crew1 n)
