-- The survey's call on lists that are cut, and on amounts and a shift that are made beside the lent lists.
use mathlib.Core.Path.{◌≡◌, refl, sym, ap, ◌∙◌}
use mathlib.Core.Bool.{Bool, true, false, cond, ◌&&◌}
use mathlib.Core.List.{List, [], ◌∷◌, ◌++◌, map}
use Prim.Native.Nat.{ℕ, ◌*◌, ◌/◌, ◌≤◌, min}
use native.Mathlib.Nat.{min_comm}
use native.Mathlib.Omega.{arith}
use lib.Dec.{eqb, ltb, leb}
use lib.IntN.{ℤ, pos, nat_abs}
use lib.ListN.{length, take, drop}
use lib.Seq.{length-take-le}
use borrow.Author.Tests.{leb-true}
use Rattle.base.specs.Lists.{range, sum_below, bit}
use Rattle.base.specs.Refusals as why
use Rattle.base.specs.Replies.{Reply, accepted, refused, Check, check, room_for, lent}
use Rattle.base.proofs.Booleans.{and_left, leb-min}
use Rattle.base.proofs.Fill.{length-made}
use Rattle.base.proofs.Replies.{in_turn-same, accepted-all, accepted-count, lent-refused}
use Rattle.matrix.specs.Limits.{max_rows}
use Rattle.matrix.specs.Code.Room.{max_starts}
use Rattle.matrix.specs.Matrix.{Matrix, is_matrix, matrix_check, displacement_check, are_displacements}
use Rattle.matrix.proofs.Matrix.{matrix_facts}
use Rattle.matrix.proofs.Cut.{cut, cut-matrix, cut-entry, cut-displacements, displacements-kept}
use Rattle.words.specs.LittleEndian.{signed_bytes_of, signed_bytes, stored}
use Rattle.lent.specs.Word.{word}
use Rattle.lent.proofs.Answers.{answered-same, Begins, begins, begins_at, begins-stored}
use Rattle.survey.specs.Survey.{max_error, has_room, amount, amounts_of, with_sign, farthest, written_shift, survey_reply}
use Rattle.survey.proofs.Shifts.{farthest-long}
use Rattle.desk.specs.Lent.{survey_in, SurveyAnswered}

-- how many numbers the shift has, by the call's count
abbrev pub size_of : (count n : ℕ) → ℕ
size_of count n = cond (eqb count 0) 0 n

module _ (m : Matrix) (x : List ℤ) (t i : ℕ) where
  written-long : length (written_shift m x t i) ≡ size_of (bit (has_room t x)) m.n
  unfolding written_shift
  written-long = go (has_room t x)
    where
      go : (b : Bool) → length (cond b (farthest m t i) []) ≡ size_of (bit b) m.n
      go true = farthest-long m t i
      go false = refl

  pub written-few : length (written_shift m x t i) ≤ m.n
  unfolding written_shift
  written-few = go (has_room t x)
    where
      go : (b : Bool) → length (cond b (farthest m t i) []) ≤ m.n
      go true = omega (arith, farthest-long m t i)
      go false = omega arith

  pub amounts-long : length (amounts_of m t) ≡ m.n
  unfolding amounts_of
  amounts-long = length-made (λ i. pos (amount m t i)) [] m.n

  module _ (room size : ℕ) where
    abbrev checks : List Check
    checks = matrix_check m ∷ displacement_check m.n x ∷ check why.bad_survey (leb t max_error && ltb i m.n) ∷ room_for m.n room ∷ room_for (length (written_shift m x t i)) size ∷ []

    -- what an accepted call has checked
    pub record Surveyed (k : ℕ) : Type 0 where
      pub matrix : is_matrix m ≡ true
      pub moved : are_displacements m.n x ≡ true
      pub error : t ≤ max_error
      pub long : m.n ≤ room
      pub shift-long : length (written_shift m x t i) ≤ size
      pub count : bit (has_room t x) ≡ k

    pub survey-made : (k : ℕ) → survey_reply m x t i room size ≡ accepted k → Surveyed k
    unfolding survey_reply matrix_check displacement_check
    survey-made k e =
        let all = accepted-all checks (accepted (bit (has_room t x))) k e in
        record {
          matrix = all.0;
          moved = all.1.0;
          error = leb-true t max_error (and_left (leb t max_error) (ltb i m.n) all.1.1.0);
          long = leb-true m.n room all.1.1.1.0;
          shift-long = leb-true (length (written_shift m x t i)) size all.1.1.1.1.0;
          count = accepted-count checks (bit (has_room t x)) k e;
        }

    -- rooms that are cut to no less than a matrix can need give the same reply
    pub rooms_cut : (y z : ℕ) → max_rows ≤ y → max_rows ≤ z → survey_reply m x t i (min room y) (min size z) ≡ survey_reply m x t i room size
    unfolding survey_reply matrix_check
    rooms_cut y z hy hz =
        in_turn-same refused (matrix_check m) _ _ _ _
        (λ h. rw (
          min_comm room y,
          min_comm size z,
          leb-min m.n y room (omega (arith, (matrix_facts m h).few)),
          leb-min (length (written_shift m x t i)) z size (omega (arith, (matrix_facts m h).few, written-few)),
        ))

  -- ---- cut lists

  module _ (ok : is_matrix m ≡ true) where
    written-cut : written_shift (cut m) x t i ≡ written_shift m x t i
    unfolding written_shift farthest
    written-cut = ap (λ (e : ℕ → ℕ → ℤ). cond (has_room t x) (map (λ j. with_sign t (e i j)) (range 0 m.n)) []) (cut-entry m ok)

    amounts-cut : amounts_of (cut m) t ≡ amounts_of m t
    unfolding amounts_of amount
    amounts-cut = ap (λ (e : ℕ → ℕ → ℤ). map (λ i. pos (t * sum_below (λ j. nat_abs (e i j)) m.n)) (range 0 m.n)) (cut-entry m ok)

  displaced : (displacement_check m.n x).holds ≡ true → are_displacements m.n x ≡ true
  unfolding displacement_check
  displaced g = g

  cut-reply : (room size : ℕ) → survey_reply (cut m) (take max_starts x) t i room size ≡ survey_reply m x t i room size
  unfolding survey_reply matrix_check
  cut-reply room size =
      rw (cut-matrix m)
      (in_turn-same refused (matrix_check m) _ _ _ _
      (λ h. rw (cut-displacements m.n x (matrix_facts m h).few) (in_turn-same refused (displacement_check m.n x) _ _ _ _ (λ g. rw (displacements-kept m.n x (matrix_facts m h).few (displaced g), written-cut h)))))

-- the lists that a call decodes, cut, for the whole ones
pub survey-cut : (m : Matrix) (X : List ℤ) (t i : ℕ) {c : Matrix} {x : List ℤ} {sums moves : List ℕ} {w : ℕ} {new_sums new_moves : List ℕ} → c ≡ cut m → x ≡ take max_starts X
    → SurveyAnswered c x t i sums moves w new_sums new_moves → SurveyAnswered m X t i sums moves w new_sums new_moves
survey-cut m X t i {c} {x} {sums} {moves} {w} {new_sums} {new_moves} ec ex h = go (rw (ec, ex) at h)
  where
    made : (k : ℕ) → survey_in m X t i sums moves ≡ accepted k → Surveyed m X t i (length sums / 8) (length moves / 4) k
    made k e = survey-made m X t i (length sums / 8) (length moves / 4) k e

    kept : (k : ℕ) → survey_in m X t i sums moves ≡ accepted k → take max_starts X ≡ X
    kept k e = let g = made k e in displacements-kept m.n X (matrix_facts m g.matrix).few g.moved

    same : survey_in (cut m) (take max_starts X) t i sums moves ≡ survey_in m X t i sums moves
    same = cut-reply m X t i (length sums / 8) (length moves / 4)

    go : SurveyAnswered (cut m) (take max_starts X) t i sums moves w new_sums new_moves → SurveyAnswered m X t i sums moves w new_sums new_moves
    go g = record {
      returns = g.returns ∙ ap word same;
      amounts_left = (answered-same same (λ k e. ap (signed_bytes 8) (amounts-cut m X t i (made k e).matrix)) (record { returns = g.returns; leaves = g.amounts_left })).leaves;
      shift_left = (answered-same same (λ k e. ap (signed_bytes 4) (ap (λ (l : List ℤ). written_shift (cut m) l t i) (kept k e) ∙ written-cut m X t i (made k e).matrix)) (record { returns = g.returns; leaves = g.shift_left })).leaves;
    }

-- ---- amounts and a shift beside the lent lists

-- the reply of a call to which the first j and k numbers of two arrays are lent on
pub same-reply : (m : Matrix) (x : List ℤ) (t i : ℕ) (us vs : List ℤ) (sums moves : List ℕ) {j k : ℕ} → (length us ≡ max_rows) × (length vs ≡ max_rows)
    → j ≡ min (length sums / 8) max_rows → k ≡ min (length moves / 4) max_rows
    → survey_reply m x t i (length (take j us)) (length (take k vs)) ≡ survey_in m x t i sums moves
same-reply m x t i us vs sums moves {j} {k} enough ej ek =
    rw (length-take-le j us (omega arith), length-take-le k vs (omega arith), ej, ek)
    (rooms_cut m x t i (length sums / 8) (length moves / 4) max_rows max_rows (omega arith) (omega arith))

-- two arrays begin with the amounts and the shift of an accepted call
pub record Held (m : Matrix) (x : List ℤ) (t i : ℕ) (sums moves : List ℕ) (count : ℕ) (us vs : List ℤ) : Type 0 where
  pub reply : accepted count ≡ survey_in m x t i sums moves
  pub amounts_begin : Begins us (amounts_of m t) m.n
  pub shift_begin : Begins vs (written_shift m x t i) (size_of count m.n)
  pub amounts-room : m.n ≤ length sums / 8
  pub shift-room : size_of count m.n ≤ length moves / 4
  pub few : m.n ≤ max_rows
  pub shift-few : size_of count m.n ≤ max_rows

module _ {m : Matrix} {x : List ℤ} {t i : ℕ} {sums moves : List ℕ} {r : Reply} (same : r ≡ survey_in m x t i sums moves) where
  -- a refused call leaves the lent lists
  pub survey-refused : {q p w : ℕ} → refused q p ≡ r → w ≡ word (refused q p) → SurveyAnswered m x t i sums moves w sums moves
  survey-refused {q} {p} e f =
      let reply = sym (e ∙ same) in
      record { returns = f ∙ ap word (sym reply); amounts_left = sym (lent-refused _ sums _ q p reply); shift_left = sym (lent-refused _ moves _ q p reply) }

  -- an accepted one holds amounts and shift in the arrays; `more` is what is in them past the part that is lent on
  pub survey-held : {count : ℕ} → accepted count ≡ r → {us vs : List ℤ} (old_us old_vs : List ℤ) → us ≡ lent r (amounts_of m t) old_us → vs ≡ lent r (written_shift m x t i) old_vs
      → (more_us more_vs : List ℤ) → Held m x t i sums moves count (us ++ more_us) (vs ++ more_vs)
  survey-held {count} e old_us old_vs eu ev more_us more_vs =
      let made = survey-made m x t i (length sums / 8) (length moves / 4) count (sym (e ∙ same)) in
      let long : length (written_shift m x t i) ≡ size_of count m.n = written-long m x t i ∙ ap (λ (k : ℕ). size_of k m.n) made.count in
      record {
        reply = e ∙ same;
        amounts_begin = begins (sym e) _ _ eu more_us (amounts-long m x t i);
        shift_begin = begins (sym e) _ _ ev more_vs long;
        amounts-room = made.long;
        shift-room = rw (← long) made.shift-long;
        few = (matrix_facts m made.matrix).few;
        shift-few = rw (← long) (omega (arith, written-few m x t i, (matrix_facts m made.matrix).few));
      }

-- .. of a call to which the first j and k numbers of two arrays are lent on
pub survey-holds : (us vs : List ℤ) {m : Matrix} {x : List ℤ} {t i : ℕ} {sums moves : List ℕ} {j k count : ℕ} {new_us new_vs : List ℤ}
    → (length us ≡ max_rows) × (length vs ≡ max_rows) → j ≡ min (length sums / 8) max_rows → k ≡ min (length moves / 4) max_rows
    → accepted count ≡ survey_reply m x t i (length (take j us)) (length (take k vs))
    → new_us ≡ lent (survey_reply m x t i (length (take j us)) (length (take k vs))) (amounts_of m t) (take j us)
    → new_vs ≡ lent (survey_reply m x t i (length (take j us)) (length (take k vs))) (written_shift m x t i) (take k vs)
    → Held m x t i sums moves count (new_us ++ drop j us) (new_vs ++ drop k vs)
survey-holds us vs {m} {x} {t} {i} {sums} {moves} enough ej ek e eu ev = survey-held (same-reply m x t i us vs sums moves enough ej ek) e _ _ eu ev _ _

-- .. and stores them
pub survey-stored : {m : Matrix} {x : List ℤ} {t i : ℕ} {sums moves : List ℕ} {count : ℕ} {us vs : List ℤ} → Held m x t i sums moves count us vs
    → {size w : ℕ} {new_sums new_moves : List ℕ} → size ≡ size_of count m.n → w ≡ word (accepted count)
    → new_sums ≡ stored (signed_bytes 8 (take (length sums / 8) (take m.n us))) sums
    → new_moves ≡ stored (signed_bytes 4 (take (length moves / 4) (take size vs))) moves
    → SurveyAnswered m x t i sums moves w new_sums new_moves
survey-stored {sums = sums} {moves = moves} h l f gu gv = record {
  returns = f ∙ ap word h.reply;
  amounts_left = begins-stored h.amounts_begin (signed_bytes_of 8) 8 sums (sym h.reply) h.amounts-room gu;
  shift_left = begins-stored (begins_at h.shift_begin l) (signed_bytes_of 4) 4 moves (sym h.reply) (rw l h.shift-room) gv;
}
