-- The amounts of a survey error are what document 02 says.
use mathlib.Core.Path.{◌≡◌, refl}
use mathlib.Core.Bool.{Bool, true, false, ◌&&◌}
use mathlib.Core.List.{List, []}
use Prim.Native.Nat.{ℕ, ◌+◌, ◌≤◌, ◌<◌, ◌^◌}
use native.Mathlib.Nat.{mul-le-mul}
use native.Mathlib.Omega.{arith}
use lib.Dec.{eqb, ltb, leb}
use lib.IntN.{ℤ, pos, nat_abs}
use lib.ListN.{length, get_or}
use borrow.Author.Tests.{ltb-true, lt-ltb, leb-true, le-leb, eq-eqb}
use Rattle.base.specs.Lists.{all, sum_below, bit}
use Rattle.base.specs.Integers.{within}
use Rattle.base.specs.Replies.{accepted, in_turn, lent}
use Rattle.base.proofs.Booleans.{and_left, and_right}
use Rattle.base.proofs.Integers.{abs-add}
use Rattle.base.proofs.Lists.{all-get, get-all}
use Rattle.base.proofs.Replies.{accepted-all, lent_none}
use Rattle.base.proofs.Sums.{sum-below_bound}
use Rattle.matrix.specs.Limits.{max_displacement}
use Rattle.matrix.specs.Matrix.{Matrix, entry, is_matrix, matrix_check, displacement, are_displacements, displacement_check}
use Rattle.matrix.proofs.Matrix.{matrix_facts, small-entry, get_d_all, displacements-many}
use Rattle.survey.specs.Survey.{max_error, after_shift, is_allowed, has_room, amount, farthest, written_shift, survey_reply}
use Rattle.survey.specs.SurveyError.{moved_by, CanSurvey, SurveyError}
use Rattle.survey.proofs.Shifts.{shifted_at, shifted-long, moved-most, farthest-long, farthest_at, farthest_reaches, sign_small}

-- ---- allowed shifts

beyond : (m : Matrix) (x shift : List ℤ) (t : ℕ) → is_allowed m.n t x shift ≡ true → (i : ℕ) → nat_abs (moved_by m x shift i) ≤ amount m t i
unfolding is_allowed displacement within
beyond m x shift t h i = moved-most m x shift i t small
  where
    small : (j : ℕ) → nat_abs (get_or shift j (pos 0)) ≤ t
    small j =
        leb-true (nat_abs (get_or shift j (pos 0))) t
        (get_d_all (within t) j shift (le-leb 0 t (omega arith)) (and_right (eqb (length shift) m.n) (all (within t) shift) (and_left (eqb (length shift) m.n && all (within t) shift) (are_displacements m.n (after_shift m.n x shift)) h)))

module _ (m : Matrix) (x : List ℤ) (t : ℕ) (moved : are_displacements m.n x ≡ true) (room : has_room t x ≡ true) (i : ℕ) where
  -- t more or less stays inside the limit
  stays : (j : ℕ) → j < m.n → nat_abs (displacement x j) + t ≤ max_displacement
  unfolding has_room displacement
  stays j l = leb-true (nat_abs (get_or x j (pos 0)) + t) max_displacement (all-get (λ z. leb (nat_abs z + t) max_displacement) x j (pos 0) room (omega (arith, displacements-many m.n x moved)))

  far-small : (j : ℕ) → j < m.n → nat_abs (displacement (farthest m t i) j) ≤ t
  far-small j l = rw (farthest_at m t i j l) (sign_small t (entry m i j))

  shift_fits : are_displacements m.n (after_shift m.n x (farthest m t i)) ≡ true
  unfolding are_displacements within displacement
  shift_fits =
      let y = after_shift m.n x (farthest m t i) in
      rw (eq-eqb (length y) m.n (shifted-long m.n x (farthest m t i)))
      (get-all (within max_displacement) y (pos 0) (λ j l. le-leb (nat_abs (get_or y j (pos 0))) max_displacement (small j (omega (arith, shifted-long m.n x (farthest m t i))))))
    where
      small : (j : ℕ) → j < m.n → nat_abs (get_or (after_shift m.n x (farthest m t i)) j (pos 0)) ≤ max_displacement
      small j l =
          rw (shifted_at m.n x (farthest m t i) j l)
          (omega (arith, abs-add (displacement x j) (displacement (farthest m t i) j), stays j l, far-small j l))

  allowed : is_allowed m.n t x (farthest m t i) ≡ true
  unfolding is_allowed within displacement
  allowed =
      let far = farthest m t i in
      let small : all (within t) far ≡ true = get-all (within t) far (pos 0) (λ j l. le-leb (nat_abs (get_or far j (pos 0))) t (far-small j (omega (arith, farthest-long m t i)))) in
      rw (eq-eqb (length far) m.n (farthest-long m t i), small, shift_fits)

-- ---- the list for the shift

nothing : (m : Matrix) (x : List ℤ) (t i : ℕ) → has_room t x ≡ false → written_shift m x t i ≡ []
unfolding written_shift
nothing m x t i h = rw h

any-room : (m : Matrix) (x : List ℤ) (t i room size : ℕ) → has_room t x ≡ false → survey_reply m x t i room size ≡ survey_reply m x t i room 0
unfolding survey_reply
any-room m x t i room size h = rw (nothing m x t i h, le-leb 0 size (omega arith))

alone : (m : Matrix) (x : List ℤ) (t i room : ℕ) (shift : List ℤ) → has_room t x ≡ false
    → (survey_reply m x t i room (length shift) ≡ survey_reply m x t i room 0) × (lent (survey_reply m x t i room (length shift)) (written_shift m x t i) shift ≡ shift)
alone m x t i room shift h =
    (any-room m x t i room (length shift) h, rw (nothing m x t i h) (lent_none (survey_reply m x t i room (length shift)) shift))

-- ---- when the call is accepted

shift-size : (m : Matrix) (x : List ℤ) (t i : ℕ) → has_room t x ≡ true → length (written_shift m x t i) ≡ m.n
unfolding written_shift
shift-size m x t i h = rw h (farthest-long m t i)

accepts : (m : Matrix) (x : List ℤ) (t i amounts_room shift_room : ℕ) → CanSurvey m x t i amounts_room shift_room → survey_reply m x t i amounts_room shift_room ≡ accepted (bit (has_room t x))
unfolding survey_reply in_turn matrix_check displacement_check
accepts m x t i amounts_room shift_room c =
    rw (c.matrix, c.surveyed, le-leb t max_error c.error, lt-ltb i m.n c.freedom, le-leb m.n amounts_room c.amounts, le-leb (length (written_shift m x t i)) shift_room (room (has_room t x) refl)) refl
  where
    room : (b : Bool) → has_room t x ≡ b → length (written_shift m x t i) ≤ shift_room
    room true h = omega (arith, shift-size m x t i h, c.shift h)
    room false h = rw (nothing m x t i h) (omega arith)

only_then : (m : Matrix) (x : List ℤ) (t i amounts_room shift_room k : ℕ) → survey_reply m x t i amounts_room shift_room ≡ accepted k → CanSurvey m x t i amounts_room shift_room
unfolding survey_reply matrix_check displacement_check
only_then m x t i amounts_room shift_room k e =
    let held = accepted-all _ _ k e in
    let limits = held.1.1.0 in
    record {
      matrix = held.0;
      surveyed = held.1.0;
      error = leb-true t max_error (and_left (leb t max_error) (ltb i m.n) limits);
      freedom = ltb-true i m.n (and_right (leb t max_error) (ltb i m.n) limits);
      amounts = leb-true m.n amounts_room held.1.1.1.0;
      shift = λ h. omega (arith, shift-size m x t i h, leb-true (length (written_shift m x t i)) shift_room held.1.1.1.1.0);
    }

-- ---- 64 bits

pub row_bound : (m : Matrix) → is_matrix m ≡ true → (i : ℕ) → sum_below (λ j. nat_abs (entry m i j)) m.n ≤ 4096000000000
row_bound m ok i = omega (arith, sum-below_bound (λ j. nat_abs (entry m i j)) m.n 1000000000 (λ j l. small-entry m ok i j), (matrix_facts m ok).few)

pub fits : (m : Matrix) (t : ℕ) → is_matrix m ≡ true → t ≤ max_error → (i : ℕ) → amount m t i < 2 ^ 63
unfolding amount
fits m t ok h i = omega (arith, mul-le-mul h (row_bound m ok i))

-- the theorem
pub survey-error : SurveyError
survey-error = record { beyond = beyond; allowed = allowed; reached = λ m x t i. farthest_reaches m t i x; alone = alone; accepts = accepts; only_then = only_then; fits = fits }
