-- A call on a run whose state and sums are decoded; and picks, which are stored.
use mathlib.Core.Path.{◌≡◌, refl, sym, ap, ◌∙◌}
use mathlib.Core.Logic.{◌⊎◌, inl, inr, ◌≢◌}
use mathlib.Core.Bool.{Bool, true, false, cond}
use mathlib.Core.List.{List, [], ◌∷◌, ◌++◌}
use Prim.Native.Nat.{ℕ, zero, suc, ◌+◌, ◌/◌, ◌^◌, ◌≤◌, ◌<◌}
use native.Mathlib.Omega.{arith}
use lib.Dec.{eqb, leb}
use lib.IntN.{ℤ}
use lib.ListN.{length, take, length-append, length-take}
use lib.Seq.{take_at, take_all, length-take-le}
use borrow.Author.Tests.{eqb-true, eq-eqb}
use Rattle.base.specs.Refusals as why
use Rattle.base.specs.declared.Refusal.{Refusal}
use Rattle.base.specs.Replies as replies
use Rattle.base.specs.Replies.{Check, in_turn}
use Rattle.base.proofs.Booleans.{and_left}
use Rattle.base.proofs.Replies.{accepted-all}
use Rattle.matrix.specs.Matrix.{Matrix}
use Rattle.matrix.specs.Code.Room.{max_starts}
use Rattle.matrix.proofs.Matrix.{matrix_facts}
use Rattle.plan.specs.Sound.{max_workers}
use Rattle.run.specs.Job.{Job, job_of, Accepted}
use Rattle.run.specs.Machine.{steps, ready, bits, over, original, is_state, counts_fine}
use Rattle.run.specs.Rounds.{round}
use Rattle.run.specs.State.{State}
use Rattle.run.specs.Calls.{place_of, picked_of, passed_of, ready_of, forces_of, answer_of, state_check, answer, job_checks, answer_lent, after_lent}
use Rattle.run.specs.Answers.{Call, picks, ready_set, force_list, preview, rounds, Answer, picked, denied, previewed, shown, bits_told, count_told}
use Rattle.machine.specs.Record.{state_of}
use Rattle.machine.specs.declared.state.State as code
use Rattle.calls.specs.Performed.{as_answer, end_number, end_place}
use Rattle.calls.specs.declared.Response.{Response}
use Rattle.calls.specs.declared.Response.TheVariants.{Picked, Ready, Forces, Previewed}
use Rattle.std.proofs.Common.{Result, Ok, Err}
use Rattle.calls.proofs.JobChecked.{job-given}
use Rattle.words.specs.LittleEndian.{number, signed_number, signed, signed_bytes, stored}
use Rattle.words.proofs.Blocks.{length_decoded}
use Rattle.lent.specs.Word.{word}
use Rattle.answers.specs.Runs.{state_bytes, count_bytes, state_in, answer_in, reply_to, force_bytes, bytes_in, left_by, Moved, set_in}
use Rattle.answers.specs.Code.Ran.{StateIs, Called, Taken, Parts, Ran, RanLent, Took, Gave, Looks, LowPlace, LowMoves, Plain, PicksFit}
use Rattle.answers.proofs.RunCalls.{decoded, always_refused}
use Rattle.answers.proofs.TakenFew.{number_low, round-number-low, few-ready, ready-low, taken-few, moves-few}

-- ---- a call that took picks, or none, and was not refused

-- an answer that is no refusal
abbrev Told : Answer → Type 0
Told b = (number place : ℕ) → b ≢ denied number place

-- its checks pass
turn-told : (cs : List Check) (a : Answer) {b : Answer} → Told b → b ≡ in_turn denied cs a → (in_turn replies.refused cs (replies.accepted 0) ≡ replies.accepted 0) × (b ≡ a)
unfolding in_turn
turn-told [] a d e = (refl, e)
turn-told (c ∷ cs) a {b} d e = go c.holds (turn-told cs a d) e
  where
    go : (t : Bool) → (b ≡ in_turn denied cs a → (in_turn replies.refused cs (replies.accepted 0) ≡ replies.accepted 0) × (b ≡ a))
        → b ≡ cond t (in_turn denied cs a) (denied c.number c.place)
        → (cond t (in_turn replies.refused cs (replies.accepted 0)) (replies.refused c.number c.place) ≡ replies.accepted 0) × (b ≡ a)
    go true h e = h e
    go false h e = absurd (d c.number c.place e)

picked-told : (t q p : ℕ) → Told (picked t q p)
picked-told t q p number place e = let z : ◌≡◌ {A = ℕ} 0 1 = cc in omega arith

previewed-told : (t q p b k : ℕ) → Told (previewed t q p b k)
previewed-told t q p b k number place e = let z : ◌≡◌ {A = ℕ} 0 1 = cc in omega arith

-- the place of an ending is no more than the picks taken
pub place_low : (number taken : ℕ) → place_of number taken ≤ taken
unfolding place_of
place_low zero taken = omega arith
place_low (suc k) taken = omega arith

module _ (m : Matrix) (x : List ℤ) (order groups : List ℕ) (count : ℕ) (s : State) (c : Call) where
  abbrev job : Job
  job = job_of m x order groups count

  module _ {b : Answer} (d : Told b) (e : b ≡ answer_lent m x order groups count s c) where
    checked : (in_turn replies.refused (job_checks m x order groups count) (replies.accepted 0) ≡ replies.accepted 0) × (b ≡ answer job s c)
    unfolding answer_lent
    checked = turn-told (job_checks m x order groups count) (answer job s c) d e

    stated : (in_turn replies.refused (state_check job s) (replies.accepted 0) ≡ replies.accepted 0) × (b ≡ answer_of job s c)
    unfolding answer
    stated = turn-told (state_check job s) (answer_of job s c) d checked.1

    accepted : Accepted job
    accepted = (job-given m x order groups count 0 checked.0).accepted

    -- there are n sums
    pub enough : length s.sums ≡ m.n
    unfolding state_check is_state job_of
    enough = eqb-true (length s.sums) m.n (and_left (eqb (length s.sums) m.n) (counts_fine job s.made max_workers) (accepted-all (state_check job s) (replies.accepted 0) 0 stated.0).0)

    -- the sums were not cut
    pub sums-whole : {sums : List ℤ} → s.sums ≡ take max_starts sums → take max_starts sums ≡ sums
    unfolding job_of
    sums-whole {sums} f = take_all max_starts sums (omega (arith, ap length f, enough, length-take max_starts sums, (matrix_facts m accepted.matrix).few))

  module _ {t q p : ℕ} (e : picked t q p ≡ answer_lent m x order groups count s c) (long : length s.made ≡ max_workers) where
    abbrev is : picked t q p ≡ answer_of job s c
    is = (stated (picked-told t q p) e).1

    abbrev ok : Accepted job
    ok = accepted (picked-told t q p) e

    -- no forces are picks
    other : {A : Type 0} (a b : Bool) (n : ℕ) (zs : List ℤ) → picked t q p ≡ forces_of a b n zs → A
    unfolding forces_of
    other false b n zs told = absurd (let z : ◌≡◌ {A = ℕ} 0 1 = cc in omega arith)
    other true false n zs told = absurd (let z : ◌≡◌ {A = ℕ} 0 1 = cc in omega arith)
    other true true n zs told = absurd (let z : ◌≡◌ {A = ℕ} 0 1 = cc in omega arith)

    -- the place fits a word's low half, but of rounds
    pub picked_low : Plain c → p < 2 ^ 32
    unfolding answer_of picked_of ready_of shown Plain
    picked_low plain = go c is plain
      where
        go : (d : Call) → picked t q p ≡ answer_of job s d → Plain d → p < 2 ^ 32
        go (picks ws) told h =
            let r = steps job s ws in
            let same : picked t q p ≡ picked r.taken r.number (place_of r.number r.taken) = told in
            let place : p ≡ place_of r.number r.taken = cc in
            omega (arith, place_low r.number r.taken, taken-few job ok s ws long)
        go ready_set told h = absurd (let z : ◌≡◌ {A = ℕ} 0 1 = cc in omega arith)
        go (force_list room) told h = other (over job s.made) (leb job.matrix.n room) job.matrix.n (original job s.sums) told
        go (preview ws) told h = absurd (let z : ◌≡◌ {A = ℕ} 0 1 = cc in omega arith)
        go (rounds ws) told h = absurd h

    -- the moves made and the number fit the word of rounds
    pub picked-few : (t < 2 ^ 24) × (q < 2 ^ 8)
    unfolding answer_of picked_of passed_of ready_of shown
    picked-few = go c is
      where
        go : (d : Call) → picked t q p ≡ answer_of job s d → (t < 2 ^ 24) × (q < 2 ^ 8)
        go (picks ws) told =
            let r = steps job s ws in
            let same : picked t q p ≡ picked r.taken r.number (place_of r.number r.taken) = told in
            let taken : t ≡ r.taken = cc in
            let number : q ≡ r.number = cc in
            (omega (arith, taken-few job ok s ws long), omega (arith, number_low job s ws))
        go ready_set told = absurd (let z : ◌≡◌ {A = ℕ} 0 1 = cc in omega arith)
        go (force_list room) told = other (over job s.made) (leb job.matrix.n room) job.matrix.n (original job s.sums) told
        go (preview ws) told = absurd (let z : ◌≡◌ {A = ℕ} 0 1 = cc in omega arith)
        go (rounds ws) told =
            let r = round job s ws in
            let same : picked t q p ≡ picked r.taken r.number (place_of r.number r.met) = told in
            let taken : t ≡ r.taken = cc in
            let number : q ≡ r.number = cc in
            (omega (arith, moves-few job ok s ws long), omega (arith, round-number-low job s ws))

  module _ {t q p b k : ℕ} (e : previewed t q p b k ≡ answer_lent m x order groups count s c) where
    -- the parts of its word fit it
    pub preview-parts : length s.made ≡ max_workers → Parts t q p b k
    unfolding answer_of picked_of passed_of ready_of forces_of shown bits_told count_told
    preview-parts long = go c (stated (previewed-told t q p b k) e).1
      where
        other : (a c : Bool) (n : ℕ) (zs : List ℤ) → previewed t q p b k ≡ forces_of a c n zs → Parts t q p b k
        other false c n zs told = absurd (let z : ◌≡◌ {A = ℕ} 0 1 = cc in omega arith)
        other true false n zs told = absurd (let z : ◌≡◌ {A = ℕ} 0 1 = cc in omega arith)
        other true true n zs told = absurd (let z : ◌≡◌ {A = ℕ} 0 1 = cc in omega arith)

        go : (d : Call) → previewed t q p b k ≡ answer_of job s d → Parts t q p b k
        go (picks ws) told = absurd (let z : ◌≡◌ {A = ℕ} 0 1 = cc in omega arith)
        go (rounds ws) told = absurd (let z : ◌≡◌ {A = ℕ} 0 1 = cc in omega arith)
        go ready_set told = absurd (let z : ◌≡◌ {A = ℕ} 0 1 = cc in omega arith)
        go (force_list room) told = other (over job s.made) (leb job.matrix.n room) job.matrix.n (original job s.sums) told
        go (preview ws) told =
            let r = steps job s ws in
            let ok = accepted (previewed-told t q p b k) e in
            let same : previewed t q p b k ≡ previewed r.taken r.number (place_of r.number r.taken) (bits (ready job r.state.made)) (length (ready job r.state.made)) = told in
            let taken : t ≡ r.taken = cc in
            let number : q ≡ r.number = cc in
            let place : p ≡ place_of r.number r.taken = cc in
            let set : b ≡ bits (ready job r.state.made) = cc in
            let count : k ≡ length (ready job r.state.made) = cc in
            record {
              taken_low = omega (arith, taken-few job ok s ws long);
              number_low = omega (arith, number_low job s ws);
              place_low = omega (arith, place_low r.number r.taken, taken-few job ok s ws long);
              count_low = omega (arith, few-ready job ok r.state.made);
              bits_low = omega (arith, ready-low job ok r.state.made);
            }

-- ---- what the call leaves

module _ (m : Matrix) (x : List ℤ) (order groups : List ℕ) (count : ℕ) (c : Call) (state sums : List ℕ) where
  -- a call that is not refused has the bytes of a state: no others are taken
  whole-state : {b : Answer} → Told b → answer_in m x order groups count state sums c ≡ b → length state ≡ state_bytes
  unfolding answer_in
  whole-state {b} d e = go (eqb (length state) state_bytes) refl e
    where
      go : (t : Bool) → eqb (length state) state_bytes ≡ t
          → cond t (answer_lent m x order groups count (state_in state sums) c) (in_turn denied (job_checks m x order groups count) (denied why.not_state 0)) ≡ b → length state ≡ state_bytes
      go true t f = eqb-true (length state) state_bytes t
      go false t f = let a = always_refused (job_checks m x order groups count) why.not_state 0 in absurd (d a.0 a.1 (sym f ∙ a.2))

-- a call in bytes that is not refused
module _ (m : Matrix) (x : List ℤ) (order groups : List ℕ) (count : ℕ) (c : Call) (state sums : List ℕ) (r : code.State) {zs : List ℤ}
    (is : length state ≡ state_bytes → StateIs r state) (lent : zs ≡ cond (eqb (length state) state_bytes) (take max_starts (signed 8 sums)) [])
    {b : Answer} (d : Told b) (e : answer_in m x order groups count state sums c ≡ b) where
  told : b ≡ answer_lent m x order groups count (state_of r zs) c
  told = sym (decoded m x order groups count c state sums r is lent ∙ e)

  whole : length state ≡ state_bytes
  whole = whole-state m x order groups count c state sums d e

  -- all its sums are lent on
  all-lent : zs ≡ signed 8 sums
  all-lent =
      let cut : zs ≡ take max_starts (signed 8 sums) = lent ∙ rw (eq-eqb (length state) state_bytes whole) in
      cut ∙ sums-whole m x order groups count (state_of r zs) c d told cut

  same-state : state_of r zs ≡ state_in state sums
  same-state = let d = is whole in rw (d.made, d.held, all-lent)

  sixteen : length r.made ≡ max_workers
  sixteen = rw ((is whole).made, length_decoded number 4 (take count_bytes state), length-take-le count_bytes state (omega (arith, whole)))

module _ (m : Matrix) (x : List ℤ) (order groups : List ℕ) (count : ℕ) (c : Call) (state sums : List ℕ) (r : code.State) {zs : List ℤ}
    (is : length state ≡ state_bytes → StateIs r state) (lent : zs ≡ cond (eqb (length state) state_bytes) (take max_starts (signed 8 sums)) []) where
  -- what is stored of picks that it took
  picks-taken : {k q p : ℕ} → answer_in m x order groups count state sums c ≡ picked k q p → {after : code.State} {part : List ℤ} (rest : List ℤ) → length part ≡ length zs
      → state_of after part ≡ after_lent m x order groups count (state_of r zs) c → Taken m.n (after_lent m x order groups count (state_in state sums) c) k q state sums after (part ++ rest)
  picks-taken {k} {q} {p} e {after} {part} rest long f =
      let d = picked-told k q p in
      let be = told m x order groups count c state sums r is lent d e in
      let rows : length zs ≡ m.n = enough m x order groups count (state_of r zs) c d be in
      let lists : zs ≡ signed 8 sums = all-lent m x order groups count c state sums r is lent d e in
      let room : length zs ≡ length sums / 8 = ap (λ (ys : List ℤ). length ys) lists ∙ length_decoded (signed_number 8) 8 sums in
      let few = picked-few m x order groups count (state_of r zs) c be (sixteen m x order groups count c state sums r is lent d e) in
      record {
        left = ap (state_of after) (take_at part rest m.n (long ∙ rows)) ∙ f ∙ ap (λ (s : State). after_lent m x order groups count s c) (same-state m x order groups count c state sums r is lent d e);
        whole = whole m x order groups count c state sums r is lent d e;
        inside = omega (arith, long, rows, length-append part rest);
        room = omega (arith, rows, room);
        moves_low = few.0;
        number_low = few.1;
      }

  -- the place of an ending, but of rounds
  place-fits : Plain c → {k q p : ℕ} → answer_in m x order groups count state sums c ≡ picked k q p → p < 2 ^ 32
  place-fits plain {k} {q} {p} e =
      let d = picked-told k q p in
      picked_low m x order groups count (state_of r zs) c (told m x order groups count c state sums r is lent d e) (sixteen m x order groups count c state sums r is lent d e) plain

  -- the parts of the word of a preview
  looked : {t q p b k : ℕ} → answer_in m x order groups count state sums c ≡ previewed t q p b k → Parts t q p b k
  looked {t} {q} {p} {b} {k} e =
      let d = previewed-told t q p b k in
      preview-parts m x order groups count (state_of r zs) c (told m x order groups count c state sums r is lent d e) (sixteen m x order groups count c state sums r is lent d e)

-- a call in bytes, of which the first sums of an array are those that it was lent
pub ran : (m : Matrix) (x : List ℤ) (order groups : List ℕ) (count : ℕ) (c : Call) (state sums : List ℕ) (r : code.State) {zs : List ℤ}
    → (length state ≡ state_bytes → StateIs r state) → zs ≡ cond (eqb (length state) state_bytes) (take max_starts (signed 8 sums)) []
    → {bytes : List ℕ} {answer : Result Response Refusal} {after : code.State} {part : List ℤ} (rest : List ℤ) {left : List ℕ} → length part ≡ length zs
    → Called m x order groups count (state_of r zs) c bytes answer (state_of after part) left → RanLent m x order groups count state sums bytes c answer after (part ++ rest) left
ran m x order groups count c state sums r is lent {bytes} rest long h =
    let told = h.answers ∙ decoded m x order groups count c state sums r is lent in
    record {
      made = h.made;
      answers = told;
      lists = h.lists ∙ ap (λ (a : Answer). replies.lent (reply_to a) (force_bytes a) bytes) told;
      taken = λ k q p e. picks-taken m x order groups count c state sums r is lent e rest long h.leaves;
      low = λ plain k q p e. place-fits m x order groups count c state sums r is lent plain e;
      looked = λ t q p b k e. looked m x order groups count c state sums r is lent e;
    }

-- ---- what is stored

-- a preview's set lies above its picks
pub preview-fits : (r : Result Response Refusal) → Looks r → {w v : ℕ} → w ≡ word (reply_to (as_answer r [])) → v ≡ set_in (as_answer r []) → (v ≡ 0) ⊎ (w + v < 2 ^ 64)
unfolding set_in reply_to word
preview-fits (Ok (Picked k e)) h x f = inl f
preview-fits (Ok (Ready b k)) h x f = inl f
preview-fits (Ok Forces) h x f = inl f
preview-fits (Err e) h x f = inl f
preview-fits (Ok (Previewed t e b k)) h x f = go (end_number e) (h t _ _ b k refl) x f
  where
    go : (q : ℕ) → Parts t q (end_place e) b k → {w v : ℕ} → w ≡ word (reply_to (previewed t q (end_place e) b k)) → v ≡ set_in (previewed t q (end_place e) b k) → (v ≡ 0) ⊎ (w + v < 2 ^ 64)
    go zero g x f = inr (omega (arith, g.taken_low, g.count_low, g.bits_low))
    go (suc q) g x f = inr (omega (arith, g.number_low, g.place_low, g.count_low, g.bits_low))

-- picks, and their preview, are the same whatever forces stand beside them
pub picked-any : (r : Result Response Refusal) (zs : List ℤ) {k q p : ℕ} → as_answer r [] ≡ picked k q p → as_answer r zs ≡ picked k q p
picked-any (Ok (Picked k e)) zs is = is
picked-any (Ok (Ready b k)) zs is = is
picked-any (Ok Forces) zs is = absurd (let z : ◌≡◌ {A = ℕ} 0 1 = cc in omega arith)
picked-any (Ok (Previewed t e b k)) zs is = is
picked-any (Err e) zs is = is

pub previewed-any : (r : Result Response Refusal) (zs : List ℤ) {t q p b k : ℕ} → as_answer r [] ≡ previewed t q p b k → as_answer r zs ≡ previewed t q p b k
previewed-any (Ok (Picked k e)) zs is = is
previewed-any (Ok (Ready b k)) zs is = is
previewed-any (Ok Forces) zs is = absurd (let z : ◌≡◌ {A = ℕ} 0 1 = cc in omega arith)
previewed-any (Ok (Previewed t e b k)) zs is = is
previewed-any (Err e) zs is = is

module _ {n : ℕ} {c : Call} {a : Answer} {s : State} {state sums old : List ℕ} {answer : Result Response Refusal} {after : code.State} {new : List ℤ} {left : List ℕ} (h : Ran n c a s state sums old answer after new left) where
  is-picked : {k q p : ℕ} → as_answer answer [] ≡ picked k q p → a ≡ picked k q p
  is-picked e = sym h.answers ∙ picked-any answer h.made e

  picked-is : (k q p : ℕ) → as_answer answer [] ≡ picked k q p → Taken n s k q state sums after new
  picked-is k q p e = h.taken k q p (is-picked e)

  -- what is asked before
  ran_looks : Looks answer
  ran_looks t q p b k e = h.looked t q p b k (sym h.answers ∙ previewed-any answer h.made e)

  ran_low : Plain c → LowPlace answer
  ran_low plain = (λ k q p e. h.low plain k q p (is-picked e), ran_looks)

  ran_moves : LowMoves answer
  ran_moves = (λ k q p e. let t = picked-is k q p e in (t.moves_low, t.number_low), ran_looks)

  pub ran_fits : PicksFit n answer new state sums
  ran_fits k q p e = let t = picked-is k q p e in (t.whole, t.inside, t.room)

  -- whatever stands for forces that picks do not have
  left_is : (zs : List ℤ) (f : State → List ℕ) (bytes : List ℕ) → left_by (as_answer answer zs) (f (state_of after (take n new))) bytes ≡ left_by a (f s) bytes
  unfolding left_by
  left_is zs f bytes = go answer refl ∙ ap (λ (b : Answer). left_by b (f s) bytes) h.answers
    where
      go : (r : Result Response Refusal) → answer ≡ r → left_by (as_answer r zs) (f (state_of after (take n new))) bytes ≡ left_by (as_answer r h.made) (f s) bytes
      go (Ok (Picked k x)) e = ap (λ (u : State). stored (f u) bytes) (picked-is k _ _ (ap (λ (r : Result Response Refusal). as_answer r []) e)).left
      go (Ok (Ready b k)) e = refl
      go (Ok Forces) e = refl
      go (Ok (Previewed t x b k)) e = refl
      go (Err x) e = refl

  -- a call that takes picks, which are stored
  pub ran_took : (zs : List ℤ) {new_state new_sums : List ℕ} → new_state ≡ left_by (as_answer answer zs) (bytes_in (state_of after (take n new))) state → new_sums ≡ left_by (as_answer answer zs) (signed_bytes 8 (take n new)) sums
      → Took c a a s state sums answer new_state new_sums
  ran_took zs g i = record {
    made = h.made;
    answers = h.answers;
    state-left = g ∙ left_is zs bytes_in state;
    sums_left = i ∙ left_is zs (λ (u : State). signed_bytes 8 u.sums) sums;
    place_low = ran_low;
    moves_low = ran_moves;
  }

  -- one that leaves state and sums
  pub ran_gave : Gave c a old answer left
  ran_gave = record { made = h.made; answers = h.answers; lists = h.lists; place_low = ran_low }

-- ---- what a call returns, where f gives the word of an answer

pub took_moved : {c : Call} {told a : Answer} {s : State} {state sums : List ℕ} {answer : Result Response Refusal} {new_state new_sums : List ℕ} → Took c told a s state sums answer new_state new_sums
    → (f : Answer → ℕ) {w : ℕ} → ((zs : List ℤ) → w ≡ f (as_answer answer zs)) → Moved (f told) a s state sums w new_state new_sums
took_moved h f e = record { returns = e h.made ∙ ap f h.answers; state-left = h.state-left; sums_left = h.sums_left }

pub gave_word : {c : Call} {told : Answer} {old : List ℕ} {answer : Result Response Refusal} {new : List ℕ} → Gave c told old answer new → (f : Answer → ℕ) {w : ℕ} → ((zs : List ℤ) → w ≡ f (as_answer answer zs)) → w ≡ f told
gave_word h f e = e h.made ∙ ap f h.answers
