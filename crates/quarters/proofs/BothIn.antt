-- A call for both whose states and sums are decoded; and picks, which are stored.
use mathlib.Core.Path.{◌≡◌, refl, sym, ap, ◌∙◌}
use mathlib.Core.Logic.{◌≢◌}
use mathlib.Core.Bool.{Bool, true, false, cond, ◌&&◌, true≢false}
use mathlib.Core.List.{List, [], ◌++◌}
use Prim.Native.Nat.{ℕ, ◌/◌, ◌^◌, ◌≤◌, ◌<◌}
use native.Mathlib.Omega.{arith}
use lib.Dec.{eqb, leb}
use lib.IntN.{ℤ}
use lib.ListN.{length, take, length-append}
use lib.Seq.{take_at, take_all, length-take-le}
use borrow.Author.Tests.{eqb-true, eq-eqb, leb-true, leb-false}
use Rattle.base.specs.Refusals as why
use Rattle.base.specs.Replies as replies
use Rattle.base.specs.Replies.{Check, in_turn}
use Rattle.base.proofs.Booleans.{and_left, and_right}
use Rattle.base.proofs.Replies.{in_turn-same, in_turn-map, in_turn-either}
use Rattle.matrix.specs.Limits.{max_rows}
use Rattle.matrix.specs.Matrix.{Matrix, is_matrix, matrix_check}
use Rattle.matrix.specs.Code.Room.{max_starts}
use Rattle.matrix.proofs.Matrix.{matrix_facts}
use Rattle.run.specs.Job.{job_of}
use Rattle.run.specs.Machine.{counts_fine, is_state}
use Rattle.run.specs.State.{State}
use Rattle.run.specs.Calls.{place_of, picked_of}
use Rattle.run.specs.Answers.{Answer, picked, is_ready, forces, denied, previewed}
use Rattle.machine.specs.Record.{state_of}
use Rattle.machine.specs.declared.state.State as code
use Rattle.words.specs.LittleEndian.{number, signed, signed_number, signed_bytes}
use Rattle.words.proofs.Blocks.{length_decoded}
use Rattle.answers.specs.Runs.{state_bytes, count_bytes, Bytes, state_in, bytes_in, left_by}
use Rattle.answers.specs.Code.Ran.{StateIs, LowPlace, PicksFit}
use Rattle.answers.proofs.RunPicks.{place_low}
use Rattle.calls.specs.Performed.{as_answer, end_number, end_place}
use Rattle.calls.specs.declared.Response.{Response}
use Rattle.calls.specs.declared.Response.TheVariants.{Picked, Ready, Forces, Previewed}
use Rattle.std.proofs.Common.{Result, Ok, Err}
use Rattle.base.specs.declared.Refusal.{Refusal}
use Rattle.lent.specs.Word.{word}
use Rattle.plan.specs.Sound.{max_workers}
use Rattle.layout.specs.Code.UpdateTable.{Given}
use Rattle.crews.specs.Crews.{Crew, crew0, crew1, Two, own_of, Roof, job_for, turns}
use Rattle.crews.specs.Calls.{BothCall, picks_both, ready_sets, BothAnswer, one, sets, denied_both, state_checks, answer_both, roof_of, roof_checks, answer_both_lent, after_both_lent}
use Rattle.crews.specs.TwoCrews.{AcceptedRoof}
use Rattle.turns.specs.Records.{states_of}
use Rattle.turns.specs.declared.Crews.{Crews}
use Rattle.shared.specs.Performed.{PicksMade}
use Rattle.shared.proofs.RoofChecked.{roof_given}
use Rattle.shared.proofs.Sharing.{are_states, states_fine, states_short0, states_short1, picks-refused, roof_reply, lent-refused, lent-answered, sets-refused}
use Rattle.quarters.specs.Both.{states_in, are_whole, if_whole, answer_both_in, reply_to_both, bytes_left, PicksBothAnswered}
use Rattle.quarters.specs.Code.Loaded.{CrewsAre}
use Rattle.quarters.proofs.TurnsFew.{Sixteen, turns-few}

-- ---- picks for both are no preview

abbrev is_preview : Answer → Bool
is_preview (picked taken number place) = false
is_preview (is_ready bits count) = false
is_preview (forces zs) = false
is_preview (denied number place) = false
is_preview (previewed taken number place bits count) = true

abbrev is_look : BothAnswer → Bool
is_look (one a) = is_preview a
is_look (sets t) = false

no_look : (m : Matrix) (x : Two (List ℤ)) (order groups : List ℕ) (count : ℕ) (s : Two State) (bs : List ℕ) → is_look (answer_both_lent m x order groups count s (picks_both bs)) ≡ false
unfolding answer_both_lent answer_both picked_of
no_look m x order groups count s bs =
    in_turn-map is_look denied_both (roof_checks m x order groups count) _
    ∙ in_turn-either (λ (b : Bool). b ≡ false) false _ (roof_checks m x order groups count) refl
    (in_turn-map is_look denied_both (state_checks (roof_of m x order groups count) s) _ ∙ in_turn-either (λ (b : Bool). b ≡ false) false false (state_checks (roof_of m x order groups count) s) refl refl)

-- ---- what is decoded of one crew, beside n rows

-- the state in the bytes, or no state for a state's length of sums, as the bytes have none
pub data Read (n : ℕ) (s : State) (b : Bytes) : Type 0 where
  whole : length b.state ≡ state_bytes → s ≡ state_in b.state b.sums → Read n s b
  none : length s.sums ≢ n → (length b.state ≡ state_bytes → length (signed 8 b.sums) ≢ n) → Read n s b

module _ (n : ℕ) (some : 1 ≤ n) (few : n ≤ max_rows) (b : Bytes) (r : code.State) {zs : List ℤ}
    (is : length b.state ≡ state_bytes → StateIs r b.state) (lent : zs ≡ cond (eqb (length b.state) state_bytes) (take max_starts (signed 8 b.sums)) []) where
  pub read : Read n (state_of r zs) b
  read = go (eqb (length b.state) state_bytes) refl (leb (length (signed 8 b.sums)) max_starts) refl lent
    where
      go : (t : Bool) → eqb (length b.state) state_bytes ≡ t → (u : Bool) → leb (length (signed 8 b.sums)) max_starts ≡ u → zs ≡ cond t (take max_starts (signed 8 b.sums)) [] → Read n (state_of r zs) b
      go true e true f z =
          let long = eqb-true (length b.state) state_bytes e in
          let all : zs ≡ signed 8 b.sums = z ∙ take_all max_starts (signed 8 b.sums) (leb-true (length (signed 8 b.sums)) max_starts f) in
          whole long (let d = is long in rw (d.made, d.held, all))
      go true e false f z =
          let over = leb-false (length (signed 8 b.sums)) max_starts f in
          let size : length zs ≡ max_starts = ap (λ (ys : List ℤ). length ys) z ∙ length-take-le max_starts (signed 8 b.sums) (omega arith) in
          none (λ q. omega arith) (λ l q. omega arith)
      go false e u f z =
          let size : length zs ≡ 0 = ap (λ (ys : List ℤ). length ys) z in
          none (λ q. omega arith) (λ l q. absurd (let y : true ≡ false = sym (eq-eqb (length b.state) state_bytes l) ∙ e in let z : ◌≡◌ {A = ℕ} 0 1 = cc in omega arith))

-- sixteen counts
counts_sixteen : (r : code.State) (bytes : List ℕ) → length bytes ≡ state_bytes → StateIs r bytes → length r.made ≡ max_workers
counts_sixteen r bytes e is = rw (is.made, length_decoded number 4 (take count_bytes bytes), length-take-le count_bytes bytes (omega (arith, e)))

-- ---- both

module _ (q : Roof) (S : Two State) (b : Two Bytes) (first : Read q.matrix.n S.of0 b.of0) (second : Read q.matrix.n S.of1 b.of1) where
  -- both stand in the bytes, or a call finds no state in either
  data Both : Type 0 where
    same : are_whole b ≡ true → S ≡ states_in b → Both
    other : are_states q S ≡ false → (are_whole b ≡ true → are_states q (states_in b) ≡ false) → Both

  both : Both
  unfolding are_whole
  both = go first second
    where
      left : eqb (length b.of0.state) state_bytes && eqb (length b.of1.state) state_bytes ≡ true → length b.of0.state ≡ state_bytes
      left h = eqb-true (length b.of0.state) state_bytes (and_left (eqb (length b.of0.state) state_bytes) (eqb (length b.of1.state) state_bytes) h)

      right : eqb (length b.of0.state) state_bytes && eqb (length b.of1.state) state_bytes ≡ true → length b.of1.state ≡ state_bytes
      right h = eqb-true (length b.of1.state) state_bytes (and_right (eqb (length b.of0.state) state_bytes) (eqb (length b.of1.state) state_bytes) h)

      go : Read q.matrix.n S.of0 b.of0 → Read q.matrix.n S.of1 b.of1 → Both
      go (whole l e) (whole k f) = same (rw (eq-eqb _ state_bytes l, eq-eqb _ state_bytes k) refl) (λ i. record { of0 = e i; of1 = f i })
      go (none d h) k = other (states_short0 q S d) (λ w. states_short0 q (states_in b) (h (left w)))
      go (whole l e) (none d h) = other (states_short1 q S d) (λ w. states_short1 q (states_in b) (h (right w)))

  module _ (c : BothCall) (refused : (T : Two State) → are_states q T ≡ false → denied_both why.not_state 0 ≡ answer_both q T c) where
    one_answer : answer_both q S c ≡ cond (are_whole b) (answer_both q (states_in b) c) (denied_both why.not_state 0)
    one_answer = go both
      where
        by : (t : Bool) → are_whole b ≡ t → (are_whole b ≡ true → are_states q (states_in b) ≡ false) → denied_both why.not_state 0 ≡ cond t (answer_both q (states_in b) c) (denied_both why.not_state 0)
        by true e h = refused (states_in b) (h e)
        by false e h = refl

        go : Both → answer_both q S c ≡ cond (are_whole b) (answer_both q (states_in b) c) (denied_both why.not_state 0)
        go (same w e) = rw (w, e) refl
        go (other d h) = sym (refused S d) ∙ by (are_whole b) refl h

-- ---- on lent lists

-- picks have states and sums to be stored over, and the place of their ending fits a word's low half
pub record BothFit (n : ℕ) (answer : Result Response Refusal) (new0 new1 : List ℤ) (old : Two Bytes) : Type 0 where
  pub fit0 : PicksFit n answer new0 old.of0.state old.of0.sums
  pub fit1 : PicksFit n answer new1 old.of1.state old.of1.sums
  pub low : LowPlace answer

module _ (m : Matrix) (x : Two (List ℤ)) (order groups : List ℕ) (count : ℕ) (b : Two Bytes) (r : Crews) {zs0 zs1 : List ℤ} (are : CrewsAre r b.of0.state b.of1.state)
    (lent0 : zs0 ≡ cond (eqb (length b.of0.state) state_bytes) (take max_starts (signed 8 b.of0.sums)) [])
    (lent1 : zs1 ≡ cond (eqb (length b.of1.state) state_bytes) (take max_starts (signed 8 b.of1.sums)) []) where
  abbrev states : Two State
  states = states_of r zs0 zs1

  abbrev roof : Roof
  roof = roof_of m x order groups count

  abbrev checks : List Check
  checks = roof_checks m x order groups count

  read0 : is_matrix m ≡ true → Read m.n states.of0 b.of0
  read0 ok = read m.n (matrix_facts m ok).some (matrix_facts m ok).few b.of0 r.of0 are.is0 lent0

  read1 : is_matrix m ≡ true → Read m.n states.of1 b.of1
  read1 ok = read m.n (matrix_facts m ok).some (matrix_facts m ok).few b.of1 r.of1 are.is1 lent1

  module _ (c : BothCall) (refused : (T : Two State) → are_states roof T ≡ false → denied_both why.not_state 0 ≡ answer_both roof T c) where
    decoded : in_turn denied_both checks (answer_both roof states c) ≡ cond (are_whole b) (in_turn denied_both checks (answer_both roof (states_in b) c)) (in_turn denied_both checks (denied_both why.not_state 0))
    unfolding roof_checks matrix_check roof_of
    decoded = in_turn-same denied_both (matrix_check m) _ _ _ _ (λ ok. rw (one_answer roof states b (read0 ok) (read1 ok) c refused)) ∙ go (are_whole b)
      where
        go : (t : Bool) → in_turn denied_both checks (cond t (answer_both roof (states_in b) c) (denied_both why.not_state 0)) ≡ cond t (in_turn denied_both checks (answer_both roof (states_in b) c)) (in_turn denied_both checks (denied_both why.not_state 0))
        go true = refl
        go false = refl

  -- the ready sets
  pub sets_in : answer_both_lent m x order groups count states ready_sets ≡ answer_both_in m x order groups count b ready_sets
  unfolding answer_both_lent answer_both_in if_whole
  sets_in = decoded ready_sets (sets-refused roof)

  module _ (bs : List ℕ) where
    picks_in : answer_both_lent m x order groups count states (picks_both bs) ≡ answer_both_in m x order groups count b (picks_both bs)
    unfolding answer_both_lent answer_both_in if_whole
    picks_in = decoded (picks_both bs) (λ T no. picks-refused roof T no bs)

    -- picks that are taken, if only some or none: no check refuses them
    module _ {k q p : ℕ} (e : one (picked k q p) ≡ answer_both_lent m x order groups count states (picks_both bs)) where
      passed : (j : ℕ) × (replies.accepted j ≡ roof_reply m x order groups count states)
      passed = go (roof_reply m x order groups count states) refl
        where
          go : (y : replies.Reply) → roof_reply m x order groups count states ≡ y → (j : ℕ) × (replies.accepted j ≡ roof_reply m x order groups count states)
          go (replies.accepted j) f = (j, sym f)
          go (replies.refused n i) f =
              let z : denied_both n i ≡ one (picked k q p) = lent-refused m x order groups count states n i (sym f) bs ∙ sym e in
              absurd (let y : ◌≡◌ {A = ℕ} 0 1 = cc in omega arith)

      given : (c : Crew) → Given m.n m.starts m.columns m.values (own_of x c) order groups count
      given c = roof_given m x order groups count passed.0 (sym passed.1) c

      accepted : AcceptedRoof roof
      unfolding roof_of job_of
      accepted c = (given c).accepted

      on_roof : one (picked k q p) ≡ answer_both roof states (picks_both bs)
      on_roof = e ∙ sym (lent-answered m x order groups count states passed.0 passed.1 bs refl refl)

      are-states : are_states roof states ≡ true
      are-states = go (are_states roof states) refl
        where
          go : (t : Bool) → are_states roof states ≡ t → are_states roof states ≡ true
          go true f = f
          go false f =
              let z : denied_both why.not_state 0 ≡ one (picked k q p) = picks-refused roof states f bs ∙ sym on_roof in
              absurd (let y : ◌≡◌ {A = ℕ} 0 1 = cc in omega arith)

      made : is_matrix m ≡ true
      unfolding job_of
      made = (given crew0).accepted.matrix

      -- they stand in the bytes
      stand : (are_whole b ≡ true) × (states ≡ states_in b)
      unfolding roof_of
      stand = go (both roof states b (read0 made) (read1 made))
        where
          go : Both roof states b (read0 made) (read1 made) → (are_whole b ≡ true) × (states ≡ states_in b)
          go (same w f) = (w, f)
          go (other d h) = absurd (let y : true ≡ false = sym are-states ∙ d in let z : ◌≡◌ {A = ℕ} 0 1 = cc in omega arith)

      -- each has n sums
      enough : (length zs0 ≡ m.n) × (length zs1 ≡ m.n)
      unfolding roof_of is_state
      enough =
          let fine0 = is_state (job_for roof crew0) states.of0 in
          let fine1 = is_state (job_for roof crew1) states.of1 in (
            eqb-true (length zs0) m.n (and_left (eqb (length zs0) m.n) (counts_fine (job_for roof crew0) r.of0.made max_workers) (and_left fine0 fine1 are-states)),
            eqb-true (length zs1) m.n (and_left (eqb (length zs1) m.n) (counts_fine (job_for roof crew1) r.of1.made max_workers) (and_right fine0 fine1 are-states)),
          )

      -- each has bytes of a state's length
      lengths : (length b.of0.state ≡ state_bytes) × (length b.of1.state ≡ state_bytes)
      unfolding are_whole
      lengths =
          let w = stand.0 in
          let is0 = eqb (length b.of0.state) state_bytes in
          let is1 = eqb (length b.of1.state) state_bytes in
          (eqb-true (length b.of0.state) state_bytes (and_left is0 is1 w), eqb-true (length b.of1.state) state_bytes (and_right is0 is1 w))

      -- .. and sums for all of them
      room0 : m.n ≡ length b.of0.sums / 8
      room0 = sym enough.0 ∙ ap (λ (s : Two State). length s.of0.sums) stand.1 ∙ length_decoded (signed_number 8) 8 b.of0.sums

      room1 : m.n ≡ length b.of1.sums / 8
      room1 = sym enough.1 ∙ ap (λ (s : Two State). length s.of1.sums) stand.1 ∙ length_decoded (signed_number 8) 8 b.of1.sums

      sixteen : Sixteen states
      sixteen crew0 = counts_sixteen r.of0 b.of0.state lengths.0 (are.is0 lengths.0)
      sixteen crew1 = counts_sixteen r.of1 b.of1.state lengths.1 (are.is1 lengths.1)

      low : p < 2 ^ 32
      unfolding answer_both picked_of
      low =
          let t = turns roof states bs in
          let same : one (picked k q p) ≡ one (picked t.taken t.number (place_of t.number t.taken)) = on_roof ∙ states_fine roof states denied_both _ are-states in
          let place : p ≡ place_of t.number t.taken = cc in
          omega (arith, place_low t.number t.taken, turns-few roof accepted states bs sixteen)

    -- ---- a call of picks, before and after its answer is stored

    module _ {answer : Result Response Refusal} {after : Crews} {part0 part1 : List ℤ} (rest0 rest1 : List ℤ) (long0 : length part0 ≡ length zs0) (long1 : length part1 ≡ length zs1)
        (h : PicksMade m x order groups count states bs answer (states_of after part0 part1)) where
      told : {k q p : ℕ} → as_answer answer [] ≡ picked k q p → one (picked k q p) ≡ answer_both_lent m x order groups count states (picks_both bs)
      told f = ap one (sym f) ∙ h.answers

      pub both_fit : BothFit m.n answer (part0 ++ rest0) (part1 ++ rest1) b
      both_fit = record {
        fit0 = λ k q p f. ((lengths (told f)).0, omega (arith, long0, (enough (told f)).0, length-append part0 rest0), omega (arith, room0 (told f)));
        fit1 = λ k q p f. ((lengths (told f)).1, omega (arith, long1, (enough (told f)).1, length-append part1 rest1), omega (arith, room1 (told f)));
        low = (λ k q p f. low (told f), λ t q p v k f. absurd (true≢false (ap (λ (a : Answer). is_look (one a)) (sym f) ∙ ap is_look h.answers ∙ no_look m x order groups count states bs)));
      }

      -- the states that picks leave
      left_states : {k q p : ℕ} → as_answer answer [] ≡ picked k q p → states_of after (take m.n (part0 ++ rest0)) (take m.n (part1 ++ rest1)) ≡ after_both_lent m x order groups count (states_in b) (picks_both bs)
      left_states f =
          let e = told f in
          rw (take_at part0 rest0 m.n (long0 ∙ (enough e).0), take_at part1 rest1 m.n (long1 ∙ (enough e).1))
          (h.leaves ∙ ap (λ (s : Two State). after_both_lent m x order groups count s (picks_both bs)) (stand e).1)

      -- .. are those that are stored
      kept : (s : State) (t : State) (old : Bytes) → ((k q p : ℕ) → as_answer answer [] ≡ picked k q p → s ≡ t) → bytes_left (one (as_answer answer [])) s old ≡ bytes_left (one (as_answer answer [])) t old
      unfolding bytes_left left_by
      kept s t old alike = go answer refl
        where
          go : (y : Result Response Refusal) → answer ≡ y → bytes_left (one (as_answer y [])) s old ≡ bytes_left (one (as_answer y [])) t old
          go (Ok (Picked k x)) f = ap (λ (u : State). bytes_left (one (picked k (end_number x) (end_place x))) u old) (alike k _ _ (ap (λ (a : Result Response Refusal). as_answer a []) f))
          go (Ok (Ready c k)) f = refl
          go (Ok Forces) f = refl
          go (Ok (Previewed t x v k)) f = refl
          go (Err x) f = refl

      pub both-answered : {w : ℕ} {new : Two Bytes} → PicksBothAnswered (one (as_answer answer [])) (states_of after (take m.n (part0 ++ rest0)) (take m.n (part1 ++ rest1))) b w new
          → PicksBothAnswered (answer_both_in m x order groups count b (picks_both bs)) (after_both_lent m x order groups count (states_in b) (picks_both bs)) b w new
      both-answered g =
          let is = h.answers ∙ picks_in in
          let t = after_both_lent m x order groups count (states_in b) (picks_both bs) in
          record {
            returns = g.returns ∙ ap (λ (a : BothAnswer). word (reply_to_both a)) is;
            left0 = g.left0 ∙ kept _ _ b.of0 (λ k q p f. ap (λ (s : Two State). s.of0) (left_states f)) ∙ ap (λ (a : BothAnswer). bytes_left a t.of0 b.of0) is;
            left1 = g.left1 ∙ kept _ _ b.of1 (λ k q p f. ap (λ (s : Two State). s.of1) (left_states f)) ∙ ap (λ (a : BothAnswer). bytes_left a t.of1 b.of1) is;
          }

-- ---- what is stored of one crew: picks have no forces

pub stored-left : (r : Result Response Refusal) (zs : List ℤ) (s : State) (old : Bytes) {state sums : List ℕ} → state ≡ left_by (as_answer r zs) (bytes_in s) old.state → sums ≡ left_by (as_answer r zs) (signed_bytes 8 s.sums) old.sums
    → ◌≡◌ {A = Bytes} (record { state = state; sums = sums }) (bytes_left (one (as_answer r [])) s old)
unfolding bytes_left left_by
stored-left r zs s old e f = rw (e, f) (go r)
  where
    go : (y : Result Response Refusal) → ◌≡◌ {A = Bytes} (record { state = left_by (as_answer y zs) (bytes_in s) old.state; sums = left_by (as_answer y zs) (signed_bytes 8 s.sums) old.sums }) (bytes_left (one (as_answer y [])) s old)
    go (Ok (Picked k x)) = refl
    go (Ok (Ready c k)) = refl
    go (Ok Forces) = refl
    go (Ok (Previewed t x v k)) = refl
    go (Err x) = refl
