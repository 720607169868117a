-- The word of every call's reply tells it.
use mathlib.Core.Logic.{◌≢◌}
use mathlib.Core.Path.{◌≡◌, refl, ap, ◌∙◌}
use mathlib.Core.Bool.{Bool, true, false, ◌&&◌, not, cond}
use mathlib.Core.List.{List, [], ◌∷◌, ◌++◌}
use Prim.Native.Nat.{ℕ, zero, suc, ◌+◌, ◌*◌, ◌-◌, ◌/◌, ◌%◌, ◌^◌, ◌≤◌, ◌<◌}
use native.Mathlib.Omega.{arith}
use lib.Dec.{eqb, ltb, leb}
use lib.IntN.{ℤ, pos, negsuc}
use lib.ListN.{length, get_or, take, drop, length-drop, length-take}
use lib.Seq.{length-take-le}
use borrow.Author.Tests.{eqb-true, ltb-false, leb-true}
use Rattle.base.specs.Lists.{is_empty, begins, bit}
use Rattle.base.specs.Integers.{within, fits64}
use Rattle.base.specs.Refusals as why
use Rattle.base.specs.Replies.{Reply, accepted, refused, Check, in_turn}
use Rattle.base.proofs.Booleans.{and_right}
use Rattle.base.proofs.Each.{each_take, each-drop}
use Rattle.matrix.specs.Limits.{max_rows, max_entries, max_displacement, max_text}
use Rattle.matrix.specs.Matrix.{Matrix, matrix_check, first_past, displacement_check}
use Rattle.matrix.specs.Product.{product_reply}
use Rattle.matrix.proofs.Matrix.{matrix_facts}
use Rattle.market.specs.Bytes.{is_end, percent, header}
use Rattle.market.specs.Fields.{Signed, is, no, Line, line, broken, fields}
use Rattle.market.specs.Parse.{Triplet, triplet, Parsed, matrix_text, rejected, is_entry, is_among, on_line, entries, sized, size_line, place, comments, body, parse}
use Rattle.market.specs.FullRows.{full, read_reply}
use Rattle.market.specs.Text.{written, write_reply}
use Rattle.market.proofs.Accepted.{parse-accepted}
use Rattle.market.proofs.WriteThenRead.{write_then_read}
use Rattle.numbers.specs.Lines.{numbers_text, lines_in, number_on, faulty, when_number, listed_from, listed}
use Rattle.numbers.specs.Calls.{in32, filled, read_numbers_reply, write_numbers_reply}
use Rattle.survey.specs.Survey.{has_room, written_shift, survey_reply}
use Rattle.desk.proofs.Surveys.{written-few}
use Rattle.upkeep.specs.Upkeep.{Change, change_reply}
use Rattle.joined.specs.Joined.{joined, join_reply}
use Rattle.joined.proofs.Entries.{joined-matrix}
use Rattle.joined.proofs.Sizes.{net_values, net_few}
use Rattle.plan.specs.Sound.{max_workers, plan_check, check_reply}
use Rattle.planfile.specs.File.{file_size, freedoms_in, groups_in}
use Rattle.planfile.specs.PlanFiles.{are_bytes}
use Rattle.planfile.specs.Calls.{write_plan_reply, read_plan_reply}
use Rattle.planfile.proofs.Sized as counts
use Rattle.planfile.proofs.PlanFiles.{each-byte}
use Rattle.planfile.proofs.Files.{file_sized}
use Rattle.race.specs.Planner.{plan, plan_reply}
use Rattle.race.proofs.PlannedSound.{planned-sound}
use Rattle.run.specs.Job.{Job, job_of, Accepted}
use Rattle.run.specs.Machine.{steps, ready, bits, over}
use Rattle.run.specs.Rounds.{round}
use Rattle.run.specs.State.{State}
use Rattle.run.specs.EveryRun.{taken_of}
use Rattle.run.specs.Calls.{place_of, picked_of, passed_of, ready_of, forces_of, answer_of, state_check, answer, job_checks, answer_lent}
use Rattle.run.specs.Answers.{Call, picks, ready_set, force_list, preview, rounds, Answer, shown}
use Rattle.run.specs.Answers as calls
use Rattle.run.specs.LentRuns.{passed}
use Rattle.run.proofs.Fits.{each-get}
use Rattle.run.proofs.LentRuns.{lent_runs}
use Rattle.words.specs.LittleEndian.{number, signed}
use Rattle.words.proofs.Blocks.{length_decoded}
use Rattle.words.proofs.Bytes.{IsByte, number_small}
use Rattle.control.specs.ControlNumber.{control_number}
use Rattle.control.proofs.ControlNumbers.{control-numbers}
use Rattle.lent.specs.Word.{word}
use Rattle.barrier.specs.Registers.{register, is_up}
use Rattle.barrier.proofs.BarrierUnit.{bit-small, read_small}
use Rattle.board.specs.Unit.{unit_size, unit_in, write_unit_reply, read_unit_reply, line_reply, releases_reply}
use Rattle.answers.specs.Runs.{state_bytes, count_bytes, state_in, answer_in, reply_to, set_in, round_word}
use Rattle.answers.proofs.TakenFew.{number_low, round-number-low, few-ready, ready-low, taken-few, moves-few}
use Rattle.meaning.specs.Words.{number_in, place_in, Told, Foretold, RoundsTold, Words}
use Rattle.meaning.proofs.SmallMatrix.{full-few}

-- ---- one reply

pub told-accepted : (k : ℕ) → k < 2 ^ 32 → Told (accepted k)
unfolding word number_in place_in
told-accepted k l = record { high = omega arith; low = omega arith; some = λ q p e. absurd (let z : ◌≡◌ {A = ℕ} 0 1 = cc in omega arith) }

pub told-refused : (q p : ℕ) → 1 ≤ q → p < 2 ^ 32 → Told (refused q p)
unfolding word number_in place_in
told-refused q p h l = record { high = omega arith; low = omega arith; some = λ r s e. let f : q ≡ r = cc in omega arith }

-- checks in turn: P holds of what the first refusal gives, or of the answer
pub turn : {A : Type 0} (P : A → Type 0) (refuse : (number place : ℕ) → A) (c : Check) (cs : List Check) (a : A) → P (refuse c.number c.place) → (c.holds ≡ true → P (in_turn refuse cs a)) → P (in_turn refuse (c ∷ cs) a)
unfolding in_turn
turn P refuse c cs a fails passes = go c.holds passes
  where
    go : (b : Bool) → (b ≡ true → P (in_turn refuse cs a)) → P (cond b (in_turn refuse cs a) (refuse c.number c.place))
    go true h = h refl
    go false h = fails

-- no check is left
pub last : {A : Type 0} (P : A → Type 0) (refuse : (number place : ℕ) → A) (a : A) → P a → P (in_turn refuse [] a)
unfolding in_turn
last P refuse a h = h

one : (r s : Reply) → Told r → Told s → word r ≡ word s → r ≡ s
unfolding number_in place_in
one (accepted a) (accepted b) x y e = ap accepted (omega (arith, x.low, y.low, e))
one (accepted a) (refused q p) x y e = absurd (omega (arith, x.high, y.high, e, y.some q p refl))
one (refused q p) (accepted b) x y e = absurd (omega (arith, x.high, y.high, e, x.some q p refl))
one (refused q p) (refused r s) x y e = let f : q ≡ r = omega (arith, x.high, y.high, e) in let g : p ≡ s = omega (arith, x.low, y.low, e) in cc

-- ---- reading

-- a refusal of a text: its number is some, its line at most b
abbrev Low : ℕ → Parsed → Type 0
Low b (matrix_text n es) = Unit {0}
Low b (rejected q p) = (1 ≤ q) × (p ≤ b)

low-cond : (b : ℕ) (t : Bool) (x y : Parsed) → (t ≡ true → Low b x) → Low b y → Low b (cond t x y)
low-cond b true x y h k = h refl
low-cond b false x y h k = k

entries-low : (b n m k : ℕ) (es : List Triplet) (xs : List ℕ) → k + m ≤ b → Low b (entries n m k es xs)
unfolding entries
entries-low b n zero k es xs l = low-cond b (is_empty xs) (matrix_text n es) (rejected why.bad_form k) (λ e. tt) (omega arith, omega arith)
entries-low b n (suc m) k es xs l = on (fields xs) (λ d x. entries-low b n m (suc k) d x (omega arith))
  where
    on : (f : Line) → ((d : List Triplet) (x : List ℕ) → Low b (entries n m (suc k) d x)) → Low b (on_line f (rejected why.bad_form k) (λ r c v a.
        cond (is_entry n r c v && not (is_among es (r - 1) (c - 1)))
        (entries n m (suc k) (es ++ triplet (r - 1) (c - 1) v ∷ []) (drop a xs))
        (rejected why.bad_entry k)))
    on broken ih = (omega arith, omega arith)
    on (line r c v a) ih = low-cond b (is_entry n r c v && not (is_among es (r - 1) (c - 1))) _ (rejected why.bad_entry k) (λ e. ih _ _) (omega arith, omega arith)

size_low : (b k : ℕ) (xs : List ℕ) → k + 1 + max_entries ≤ b → Low b (size_line k xs)
unfolding size_line
size_low b k xs l = on (fields xs)
  where
    on : (f : Line) → Low b (on_line f (rejected why.bad_form k) (λ r c v a. sized k r c v (drop a xs)))
    on broken = (omega arith, omega arith)
    on (line r c (negsuc m) a) = (omega arith, omega arith)
    on (line r c (pos m) a) =
        low-cond b (eqb r c && leb 1 r && leb r max_rows && leb m max_entries) (entries r m (suc k) [] (drop a xs)) (rejected why.bad_size k)
        (λ e. entries-low b r m (suc k) [] (drop a xs) (omega (arith, leb-true m max_entries (and_right (eqb r c && leb 1 r && leb r max_rows) (leb m max_entries) e)))) (omega arith, omega arith)

-- a text has no more lines than bytes
comments-low : (inside : Bool) (k : ℕ) (xs : List ℕ) → (comments inside k xs).number ≤ k + length xs
unfolding comments
comments-low inside k [] = omega arith
comments-low true k (x ∷ xs) = go (is_end x) (λ c j. comments-low c j xs)
  where
    go : (b : Bool) → ((c : Bool) (j : ℕ) → (comments c j xs).number ≤ j + length xs) → (comments (not b) (cond b (suc k) k) xs).number ≤ k + suc (length xs)
    go true ih = omega (arith, ih false (suc k))
    go false ih = omega (arith, ih true k)
comments-low false k (x ∷ xs) = go (eqb x percent) (comments-low true k xs)
  where
    go : (b : Bool) → (comments true k xs).number ≤ k + length xs → (cond b (comments true k xs) (place k (x ∷ xs))).number ≤ k + suc (length xs)
    go true ih = omega (arith, ih)
    go false ih = omega arith

most : ℕ
most = 2000000

parse-low : (xs : List ℕ) → Low most (parse xs)
unfolding parse most
parse-low xs = go (ltb max_text (length xs)) refl
  where
    go : (b : Bool) → ltb max_text (length xs) ≡ b → Low most (cond b (rejected why.bad_form 0) (cond (begins xs header) (body (comments false 2 (drop (length header) xs))) (rejected why.bad_header 1)))
    go true e = (omega arith, omega arith)
    go false e =
        low-cond most (begins xs header) (body (comments false 2 (drop (length header) xs))) (rejected why.bad_header 1)
        (λ h. size_low most (comments false 2 (drop (length header) xs)).number (comments false 2 (drop (length header) xs)).text
        (omega (arith, comments-low false 2 (drop (length header) xs), length-drop (length header) xs, ltb-false max_text (length xs) e))) (omega arith, omega arith)

-- an accepted text is not too long
parse-short : (xs : List ℕ) (n : ℕ) (es : List Triplet) → parse xs ≡ matrix_text n es → length xs ≤ max_text
unfolding parse
parse-short xs n es t = go (ltb max_text (length xs)) refl t
  where
    rest : Parsed
    rest = cond (begins xs header) (body (comments false 2 (drop (length header) xs))) (rejected why.bad_header 1)

    go : (b : Bool) → ltb max_text (length xs) ≡ b → cond b (rejected why.bad_form 0) rest ≡ matrix_text n es → length xs ≤ max_text
    go true e t = absurd (let z : ◌≡◌ {A = ℕ} 0 1 = cc in omega arith)
    go false e t = ltb-false max_text (length xs) e

read_told : (text : List ℕ) (a b c : ℕ) → Told (read_reply (parse text) a b c)
unfolding read_reply most
read_told text a b c = go (parse text) refl (parse-low text)
  where
    go : (t : Parsed) → parse text ≡ t → Low most t → Told (read_reply t a b c)
    go (rejected q p) t l = told-refused q p l.0 (omega (arith, l.1))
    go (matrix_text n es) t l =
        let f = parse-accepted text n es t in
        turn Told refused _ _ (accepted n) (told-refused why.too_short (n + 1) (omega arith) (omega (arith, f.rows))) (λ e.
        turn Told refused _ _ (accepted n) (told-refused why.too_short (length (full es)) (omega arith) (omega (arith, f.count, full-few es))) (λ e.
        turn Told refused _ [] (accepted n) (told-refused why.too_short (length (full es)) (omega arith) (omega (arith, f.count, full-few es))) (λ e.
        last Told refused (accepted n) (told-accepted n (omega (arith, f.rows))))))

-- ---- the other calls of the office

module _ (m : Matrix) where
  write-told : (room : ℕ) → Told (write_reply m room)
  unfolding write_reply matrix_check
  write-told room =
      turn Told refused (matrix_check m) _ _ (told-refused why.not_matrix 0 (omega arith) (omega arith)) (λ ok.
      let short : length (written m) ≤ max_text = parse-short (written m) _ _ (write_then_read.every m ok).parsed in
      turn Told refused _ [] _ (told-refused why.too_short (length (written m)) (omega arith) (omega arith)) (λ e. last Told refused _ (told-accepted (length (written m)) (omega arith))))

  first-low : (limit : ℕ) (x : List ℤ) → first_past limit x ≤ length x
  unfolding first_past
  first-low limit [] = omega arith
  first-low limit (z ∷ zs) = go (within limit z) (first-low limit zs)
    where
      go : (b : Bool) → first_past limit zs ≤ length zs → cond b (suc (first_past limit zs)) 0 ≤ suc (length zs)
      go true h = omega arith
      go false h = omega arith

  pub place_low : (x : List ℤ) → m.n ≤ max_rows → (displacement_check m.n x).place ≤ max_rows
  unfolding displacement_check
  place_low x few = go (eqb (length x) m.n) refl
    where
      go : (b : Bool) → eqb (length x) m.n ≡ b → cond b (first_past max_displacement x) 0 ≤ max_rows
      go true e = omega (arith, first-low max_displacement x, eqb-true (length x) m.n e)
      go false e = omega arith

  product-told : (x : List ℤ) (room : ℕ) → Told (product_reply m x room)
  unfolding product_reply matrix_check displacement_check
  product-told x room =
      turn Told refused (matrix_check m) _ _ (told-refused why.not_matrix 0 (omega arith) (omega arith)) (λ ok.
      let few = (matrix_facts m ok).few in
      turn Told refused (displacement_check m.n x) _ _ (told-refused why.bad_displacement _ (omega arith) (omega (arith, place_low x few))) (λ e.
      turn Told refused _ [] _ (told-refused why.too_short m.n (omega arith) (omega (arith, few))) (λ e. last Told refused _ (told-accepted 0 (omega arith)))))

  survey-told : (x : List ℤ) (t i a b : ℕ) → Told (survey_reply m x t i a b)
  unfolding survey_reply matrix_check displacement_check
  survey-told x t i a b =
      turn Told refused (matrix_check m) _ _ (told-refused why.not_matrix 0 (omega arith) (omega arith)) (λ ok.
      let few = (matrix_facts m ok).few in
      turn Told refused (displacement_check m.n x) _ _ (told-refused why.bad_displacement _ (omega arith) (omega (arith, place_low x few))) (λ e.
      turn Told refused _ _ _ (told-refused why.bad_survey 0 (omega arith) (omega arith)) (λ e.
      turn Told refused _ _ _ (told-refused why.too_short m.n (omega arith) (omega (arith, few))) (λ e.
      turn Told refused _ [] _ (told-refused why.too_short (length (written_shift m x t i)) (omega arith) (omega (arith, few, written-few m x t i))) (λ e. last Told refused _ (told-accepted (bit (has_room t x)) (one_bit (has_room t x))))))))
    where
      one_bit : (b : Bool) → bit b < 2 ^ 32
      one_bit true = omega arith
      one_bit false = omega arith

  set_told : (x fs : List ℤ) (c : Change) → Told (change_reply (record { matrix = m; displacements = x; forces = fs }) c)
  unfolding change_reply matrix_check displacement_check
  set_told x fs c =
      turn Told refused (matrix_check m) _ _ (told-refused why.not_matrix 0 (omega arith) (omega arith)) (λ ok.
      turn Told refused (displacement_check m.n x) _ _ (told-refused why.bad_displacement _ (omega arith) (omega (arith, place_low x (matrix_facts m ok).few))) (λ e.
      turn Told refused _ _ _ (told-refused why.not_forces 0 (omega arith) (omega arith)) (λ e.
      turn Told refused _ _ _ (told-refused why.no_entry 0 (omega arith) (omega arith)) (λ e.
      turn Told refused _ [] _ (told-refused why.bad_change 0 (omega arith) (omega arith)) (λ e. last Told refused _ (told-accepted 0 (omega arith)))))))

  plan-told : (w p k a b : ℕ) → Told (plan_reply m w p k a b)
  unfolding plan_reply matrix_check
  plan-told w p k a b =
      turn Told refused (matrix_check m) _ _ (told-refused why.not_matrix 0 (omega arith) (omega arith)) (λ ok.
      turn Told refused _ _ _ (told-refused why.bad_parameter 0 (omega arith) (omega arith)) (λ given.
      let few : length (plan m w p k).groups ≤ 481 = planned-sound.few m w p k ok given in
      turn Told refused _ _ _ (told-refused why.too_short m.n (omega arith) (omega (arith, (matrix_facts m ok).few))) (λ e.
      turn Told refused _ [] _ (told-refused why.too_short (length (plan m w p k).groups) (omega arith) (omega arith)) (λ e. last Told refused _ (told-accepted (length (plan m w p k).groups) (omega arith))))))

  check-told : (order groups : List ℕ) (count k : ℕ) → Told (check_reply m order groups count k)
  unfolding check_reply matrix_check
  check-told order groups count k =
      turn Told refused (matrix_check m) _ _ (told-refused why.not_matrix 0 (omega arith) (omega arith)) (λ ok.
      turn Told refused _ _ _ (told-refused why.bad_parameter 0 (omega arith) (omega arith)) (λ far.
      turn Told refused _ [] _ (told-refused why.unsound 0 (omega arith) (omega arith)) (λ e. last Told refused _ (told-accepted 0 (omega arith)))))

-- ---- the calls of a run

abbrev Tells : Answer → Type 0
Tells a = Told (reply_to a)

tells_refused : (q p : ℕ) → 1 ≤ q → p < 2 ^ 32 → Tells (calls.denied q p)
unfolding reply_to
tells_refused q p h l = told-refused q p h l

module _ (j : Job) (ok : Accepted j) (s : State) (long : length s.made ≡ max_workers) where
  pub picked_tells : (taken number : ℕ) → taken < 2 ^ 32 → Tells (picked_of taken number)
  unfolding picked_of place_of reply_to
  picked_tells taken zero l = told-accepted taken l
  picked_tells taken (suc k) l = told-refused (suc k) taken (omega arith) l

  preview_tells : (taken number : ℕ) (there : Answer) → taken < 2 ^ 32 → Tells (shown (picked_of taken number) there)
  unfolding picked_of place_of shown reply_to
  preview_tells taken zero there l = told-accepted taken l
  preview_tells taken (suc k) there l = told-refused (suc k) taken (omega arith) l

  forces_tell : (is_over wide : Bool) (zs : List ℤ) → j.matrix.n ≤ max_rows → Tells (forces_of is_over wide j.matrix.n zs)
  unfolding forces_of reply_to
  forces_tell false wide zs few = told-refused why.too_early 0 (omega arith) (omega arith)
  forces_tell true false zs few = told-refused why.too_short j.matrix.n (omega arith) (omega arith)
  forces_tell true true zs few = told-accepted 0 (omega arith)

  ready_tells : Tells (ready_of j s.made)
  unfolding ready_of reply_to
  ready_tells = told-accepted _ (omega (arith, ready-low j ok s.made, few-ready j ok s.made))

  answer_tells : (c : Call) → ((ws : List ℕ) → c ≢ calls.rounds ws) → Tells (answer j s c)
  unfolding answer state_check answer_of
  answer_tells (picks ws) d = turn Tells calls.denied _ [] _ (tells_refused why.not_state 0 (omega arith) (omega arith)) (λ e. last Tells calls.denied _ (picked_tells (steps j s ws).taken (steps j s ws).number (omega (arith, taken-few j ok s ws long))))
  answer_tells ready_set d = turn Tells calls.denied _ [] _ (tells_refused why.not_state 0 (omega arith) (omega arith)) (λ e. last Tells calls.denied _ ready_tells)
  answer_tells (preview ws) d = turn Tells calls.denied _ [] _ (tells_refused why.not_state 0 (omega arith) (omega arith)) (λ e. last Tells calls.denied _ (preview_tells (steps j s ws).taken (steps j s ws).number _ (omega (arith, taken-few j ok s ws long))))
  answer_tells (force_list room) d = turn Tells calls.denied _ [] _ (tells_refused why.not_state 0 (omega arith) (omega arith)) (λ e. last Tells calls.denied _ (forces_tell (over j s.made) (leb j.matrix.n room) _ (matrix_facts j.matrix ok.matrix).few))
  answer_tells (rounds ws) d = absurd (d ws refl)

-- what holds of refusals, and of the answers on accepted jobs, holds of all answers in bytes
module _ (P : Answer → Type 0) (refuses : (q p : ℕ) → 1 ≤ q → q < 2 ^ 8 → p < 2 ^ 32 → P (calls.denied q p)) (m : Matrix) (x : List ℤ) (order groups : List ℕ) (count : ℕ) where
  -- 5, 6 and 8, and then an answer
  checks_hold : (a : Answer) → (passed m x order groups count ≡ true → P a) → P (in_turn calls.denied (job_checks m x order groups count) a)
  unfolding job_checks matrix_check displacement_check plan_check passed
  checks_hold a h =
      turn P calls.denied (matrix_check m) _ _ (refuses why.not_matrix 0 (omega arith) (omega arith) (omega arith)) (λ e.
      turn P calls.denied (displacement_check m.n x) _ _ (refuses why.bad_displacement _ (omega arith) (omega arith) (omega (arith, place_low m x (matrix_facts m e).few))) (λ f.
      turn P calls.denied (plan_check m order groups count) [] _ (refuses why.unsound 0 (omega arith) (omega arith) (omega arith)) (λ g. last P calls.denied a (h (rw (e, f, g))))))

  in_bytes_lem : (c : Call) → ((j : Job) → Accepted j → (s : State) → length s.made ≡ max_workers → P (answer j s c)) → (state sums : List ℕ) → P (answer_in m x order groups count state sums c)
  unfolding answer_in answer_lent
  in_bytes_lem c h state sums = go (eqb (length state) state_bytes) refl
    where
      go : (b : Bool) → eqb (length state) state_bytes ≡ b
          → P (cond b (answer_lent m x order groups count (state_in state sums) c) (in_turn calls.denied (job_checks m x order groups count) (calls.denied why.not_state 0)))
      go true e =
          let size = eqb-true (length state) state_bytes e in
          checks_hold _ (λ pass. h (job_of m x order groups count) (lent_runs.every m x order groups count pass).accepted (state_in state sums)
          (rw (length_decoded number 4 (take count_bytes state), length-take-le count_bytes state (omega arith))))
      go false e = checks_hold _ (λ pass. refuses why.not_state 0 (omega arith) (omega arith) (omega arith))

run_tells : (m : Matrix) (x : List ℤ) (order groups : List ℕ) (count : ℕ) (state sums : List ℕ) (c : Call) → ((ws : List ℕ) → c ≢ calls.rounds ws) → Tells (answer_in m x order groups count state sums c)
run_tells m x order groups count state sums c d = in_bytes_lem Tells (λ q p h k l. tells_refused q p h l) m x order groups count c (λ j ok s long. answer_tells j ok s long c d) state sums

-- ---- a preview's word

foretold_refused : (q p : ℕ) → 1 ≤ q → q < 2 ^ 8 → p < 2 ^ 32 → Foretold (calls.denied q p)
unfolding reply_to set_in word number_in place_in calls.bits_told calls.count_told
foretold_refused q p h k l = record { low = omega arith; number = omega arith; count = omega arith; bits = omega arith }

foretold : (taken number bits count : ℕ) → taken < 2 ^ 32 → number < 2 ^ 8 → count < 2 ^ 8 → bits < 2 ^ 16 → Foretold (calls.shown (picked_of taken number) (calls.is_ready bits count))
unfolding picked_of place_of calls.shown reply_to set_in word number_in place_in calls.bits_told calls.count_told
foretold taken zero bits count l q k b = record { low = omega arith; number = omega arith; count = omega arith; bits = omega arith }
foretold taken (suc n) bits count l q k b = record { low = omega arith; number = omega arith; count = omega arith; bits = omega arith }

preview_foretold : (m : Matrix) (x : List ℤ) (order groups : List ℕ) (count : ℕ) (state sums ws : List ℕ) → Foretold (answer_in m x order groups count state sums (calls.preview ws))
unfolding answer state_check answer_of ready_of
preview_foretold m x order groups count state sums ws = in_bytes_lem Foretold foretold_refused m x order groups count (calls.preview ws) (λ j ok s long.
    turn Foretold calls.denied _ [] _ (foretold_refused why.not_state 0 (omega arith) (omega arith) (omega arith)) (λ e. last Foretold calls.denied _
    (let made = (steps j s ws).state.made in foretold (steps j s ws).taken (steps j s ws).number (bits (ready j made)) (length (ready j made)) (omega (arith, taken-few j ok s ws long)) (number_low j s ws) (omega (arith, few-ready j ok made)) (ready-low j ok made)))) state sums

-- ---- the word of rounds

rounds-refused : (q p : ℕ) → 1 ≤ q → q < 2 ^ 8 → p < 2 ^ 32 → RoundsTold (calls.denied q p)
unfolding round_word reply_to word number_in place_in taken_of
rounds-refused q p h k l = record { low = omega arith; number = omega arith; moves = omega arith }

parts : (r q t : ℕ) → r < 2 ^ 32 → q < 2 ^ 8
    → ((r + q * 2 ^ 32 + t * 2 ^ 40) % 2 ^ 32 ≡ r) × ((r + q * 2 ^ 32 + t * 2 ^ 40) / 2 ^ 32 % 2 ^ 8 ≡ q) × ((r + q * 2 ^ 32 + t * 2 ^ 40) / 2 ^ 40 ≡ t)
parts r q t h k = (omega arith, omega arith, omega arith)

round-told : (taken number place : ℕ) → taken < 2 ^ 24 → number < 2 ^ 8 → RoundsTold (calls.picked taken number (place_of number place))
unfolding place_of round_word reply_to number_in place_in taken_of
round-told taken zero place l q =
    let p = parts taken 0 taken (omega arith) (omega arith) in
    let e : taken + taken * 2 ^ 40 ≡ taken + 0 * 2 ^ 32 + taken * 2 ^ 40 = omega arith in
    let low : taken ≡ taken % 2 ^ 32 = omega arith in
    record { low = ap (λ (w : ℕ). w % 2 ^ 32) e ∙ p.0 ∙ low; number = ap (λ (w : ℕ). w / 2 ^ 32 % 2 ^ 8) e ∙ p.1; moves = ap (λ (w : ℕ). w / 2 ^ 40) e ∙ p.2 }
round-told taken (suc n) place l q = let p = parts (place % 2 ^ 32) (suc n) taken (omega arith) q in record { low = p.0; number = p.1; moves = p.2 }

rounds-told : (m : Matrix) (x : List ℤ) (order groups : List ℕ) (count : ℕ) (state sums ws : List ℕ) → RoundsTold (answer_in m x order groups count state sums (calls.rounds ws))
unfolding answer state_check answer_of passed_of
rounds-told m x order groups count state sums ws = in_bytes_lem RoundsTold rounds-refused m x order groups count (calls.rounds ws) (λ j ok s long.
    turn RoundsTold calls.denied _ [] _ (rounds-refused why.not_state 0 (omega arith) (omega arith) (omega arith)) (λ e. last RoundsTold calls.denied _
    (round-told (round j s ws).taken (round j s ws).number (round j s ws).met (moves-few j ok s ws long) (round-number-low j s ws)))) state sums

-- ---- plan files

write-plan-told : (n : ℕ) (order groups : List ℕ) (count room : ℕ) → Told (write_plan_reply n order groups count room)
unfolding write_plan_reply file_size
write-plan-told n order groups count room =
    turn Told refused _ _ _ (told-refused why.bad_layout 0 (omega arith) (omega arith)) (λ e.
    let s = counts.sized n count e in
    turn Told refused _ _ _ (told-refused why.unsound 0 (omega arith) (omega arith)) (λ f.
    turn Told refused _ [] _ (told-refused why.too_short (file_size n count) (omega arith) (omega (arith, s.few, s.records))) (λ g.
    last Told refused _ (told-accepted (file_size n count) (omega (arith, s.few, s.records))))))

read-plan-told : (plan_file order groups : List ℕ) → Told (read_plan_reply plan_file order groups)
unfolding read_plan_reply
read-plan-told plan_file order groups =
    turn Told refused _ _ _ (told-refused why.bad_layout 0 (omega arith) (omega arith)) (λ e.
    let s = file_sized plan_file e in
    turn Told refused _ _ _ (told-refused why.too_short (freedoms_in plan_file) (omega arith) (omega (arith, s.few))) (λ f.
    turn Told refused _ [] _ (told-refused why.too_short (groups_in plan_file) (omega arith) (omega (arith, s.records))) (λ g.
    last Told refused _ (told-accepted (freedoms_in plan_file + 65536 * groups_in plan_file) (omega (arith, s.few, s.records))))))

join-told : (a b : Matrix) (places : List ℕ) (s c v : ℕ) → Told (join_reply a b places s c v)
unfolding join_reply matrix_check
join-told a b places s c v =
    let net = joined a b places in
    turn Told refused (matrix_check a) _ _ (told-refused why.not_matrix 0 (omega arith) (omega arith)) (λ ha.
    turn Told refused (matrix_check b) _ _ (told-refused why.not_matrix 0 (omega arith) (omega arith)) (λ hb.
    turn Told refused _ _ _ (told-refused why.bad_places 0 (omega arith) (omega arith)) (λ hp.
    turn Told refused _ _ _ (told-refused why.past_limits 0 (omega arith) (omega arith)) (λ hf.
    let ok = joined-matrix a b places ha hb hp hf in
    let few = (matrix_facts net ok).few in
    let cells = net_few a b places ok in
    turn Told refused _ _ _ (told-refused why.too_short (suc net.n) (omega arith) (omega (arith, few))) (λ e.
    turn Told refused _ _ _ (told-refused why.too_short (length net.columns) (omega arith) (omega (arith, cells))) (λ e.
    turn Told refused _ [] _ (told-refused why.too_short (length net.values) (omega arith) (omega (arith, cells, net_values a b places))) (λ e.
    last Told refused _ (told-accepted net.n (omega (arith, few))))))))))

-- ---- barrier units

module _ (unit : List ℕ) where
  write-unit-told : (address : ℕ) → Told (write_unit_reply unit address)
  unfolding write_unit_reply
  write-unit-told address =
      turn Told refused _ _ _ (told-refused why.no_register 0 (omega arith) (omega arith)) (λ e.
      turn Told refused _ [] _ (told-refused why.too_short unit_size (omega arith) (omega arith)) (λ f.
      last Told refused _ (told-accepted 0 (omega arith))))

  line-told : Told (line_reply unit)
  unfolding line_reply
  line-told =
      turn Told refused _ [] _ (told-refused why.too_short unit_size (omega arith) (omega arith)) (λ f.
      last Told refused _ (told-accepted (bit (is_up (unit_in unit))) (omega (arith, bit-small (is_up (unit_in unit))))))

  module _ (bytes : are_bytes unit ≡ true) where
    two-small : (high low : ℕ) → get_or unit high 0 * 256 + get_or unit low 0 < 2 ^ 16
    two-small high low = omega (arith, byte_at high, byte_at low)
      where
        byte_at : (i : ℕ) → get_or unit i 0 < 256
        byte_at i = each-get IsByte unit 0 (each-byte unit bytes) (omega arith) i

    count_small : (unit_in unit).releases < 2 ^ 32
    unfolding unit_in
    count_small = number_small 4 (take 4 (drop 6 unit)) (rw (length-take 4 (drop 6 unit)) (omega arith)) (each_take IsByte 4 (drop 6 unit) (each-drop IsByte 6 unit (each-byte unit bytes)))

    read-unit-told : (address : ℕ) → Told (read_unit_reply unit address)
    unfolding read_unit_reply unit_in
    read-unit-told address =
        turn Told refused _ _ _ (told-refused why.no_register 0 (omega arith) (omega arith)) (λ e.
        turn Told refused _ [] _ (told-refused why.too_short unit_size (omega arith) (omega arith)) (λ f.
        last Told refused _ (told-accepted (register (unit_in unit) address) (omega (arith, read_small (unit_in unit) (two-small 1 0) (two-small 3 2) address)))))

    releases-told : Told (releases_reply unit)
    unfolding releases_reply
    releases-told =
        turn Told refused _ [] _ (told-refused why.too_short unit_size (omega arith) (omega arith)) (λ f.
        last Told refused _ (told-accepted (unit_in unit).releases count_small))

-- ---- lists of numbers: what 32 bits keep

filled-told : (needed room : ℕ) → Told (filled needed room)
unfolding in32
filled-told needed room =
    turn (λ (r : Reply). Told (in32 r)) refused _ [] _ (told-refused why.too_short (needed % 2 ^ 32) (omega arith) (omega arith)) (λ e.
    last (λ (r : Reply). Told (in32 r)) refused _ (told-accepted (needed % 2 ^ 32) (omega arith)))

-- a line is refused with 2 or 4
lines-told : (done : List ℤ) (ls : List (List ℕ)) (room : ℕ) → Told (read_numbers_reply (listed_from done ls) room)
unfolding read_numbers_reply listed_from in32
lines-told done [] room = filled-told (length done) room
lines-told done (l ∷ ls) room = of (number_on l) (λ z. lines-told (done ++ z ∷ []) ls room)
  where
    fit : (z : ℤ) (b : Bool) → Told (read_numbers_reply (listed_from (done ++ z ∷ []) ls) room) → Told (read_numbers_reply (cond b (listed_from (done ++ z ∷ []) ls) (faulty why.bad_entry (suc (length done)))) room)
    fit z true ih = ih
    fit z false ih = told-refused why.bad_entry (suc (length done) % 2 ^ 32) (omega arith) (omega arith)

    of : (s : Signed) → ((z : ℤ) → Told (read_numbers_reply (listed_from (done ++ z ∷ []) ls) room))
        → Told (read_numbers_reply (when_number s (faulty why.bad_form (suc (length done))) (λ z. cond (fits64 z) (listed_from (done ++ z ∷ []) ls) (faulty why.bad_entry (suc (length done))))) room)
    of (is z k) ih = fit z (fits64 z) (ih z)
    of no ih = told-refused why.bad_form (suc (length done) % 2 ^ 32) (omega arith) (omega arith)

read-numbers-told : (text : List ℕ) (room : ℕ) → Told (read_numbers_reply (listed text) room)
unfolding listed
read-numbers-told text room = lines-told [] (lines_in text) room

write-numbers-told : (zs : List ℤ) (room : ℕ) → Told (write_numbers_reply zs room)
unfolding write_numbers_reply
write-numbers-told zs room = filled-told (length (numbers_text zs)) room

-- the theorem
pub words : Words
words = record { read = λ text starts columns values. read_told text _ _ _; write = write-told; product = product-told; survey = survey-told; set = λ k c. set_told k.matrix k.displacements k.forces c; join = join-told; plan = λ m w p k order groups. plan-told m w p k _ _; check = check-told; write_plan = write-plan-told; read_plan = read-plan-told; write_unit = write-unit-told; read_unit = λ unit address bytes. read-unit-told unit bytes address; line = line-told; releases = releases-told; read_numbers = read-numbers-told; write_numbers = write-numbers-told; control = λ forces. told-accepted (control_number (signed 8 forces)) (control-numbers.small (signed 8 forces)); run = run_tells; preview = preview_foretold; rounds = rounds-told; one = one }
