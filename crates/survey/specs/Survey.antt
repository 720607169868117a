-- How far a survey error reaches (document 02, Q-6): amounts, shifts, and the call that writes them.
use Rattle.std.specs.Prelude.{Bool, ◌&&◌, cond, List, [], ◌∷◌, map, ℕ, zero, suc, ◌+◌, ◌*◌, eqb, ltb, leb, ℤ, pos, negsuc, neg_ℤ, nat_abs, ◌+ℤ◌, length}
use Rattle.base.specs.Lists.{all, range, sum_below, bit}
use Rattle.base.specs.Integers.{within}
use Rattle.base.specs.Replies.{Reply, accepted, refused, check, in_turn, room_for}
use Rattle.base.specs.Refusals as why
use Rattle.matrix.specs.Limits.{max_displacement}
use Rattle.matrix.specs.Matrix.{Matrix, entry, displacement, matrix_check, are_displacements, displacement_check}

-- "The surveyor gives each movement as good to within t µm, t from 0 to 1,000,000"
abbrev pub max_error : ℕ
max_error = 1000000

-- ---- shifts

-- the displacements after a shift
unfoldable pub after_shift : (n : ℕ) (x shift : List ℤ) → List ℤ
after_shift n x shift = map (λ j. displacement x j +ℤ displacement shift j) (range 0 n)

-- "An allowed shift changes each movement by at most t and leaves it inside its limit"
unfoldable pub is_allowed : (n t : ℕ) (x shift : List ℤ) → Bool
is_allowed n t x shift = eqb (length shift) n && all (within t) shift && are_displacements n (after_shift n x shift)

-- "every surveyed movement, without sign, plus t is at most 1,000,000"
unfoldable pub has_room : (t : ℕ) (x : List ℤ) → Bool
has_room t x = all (λ z. leb (nat_abs z + t) max_displacement) x

-- ---- what is written

-- "an amount beyond which no allowed shift can move its force: t times the sum of the row's stiffnesses taken without
-- sign"
unfoldable pub amount : Matrix → (t i : ℕ) → ℕ
amount m t i = t * sum_below (λ j. nat_abs (entry m i j)) m.n

-- "For each freedom"
unfoldable pub amounts_of : Matrix → (t : ℕ) → List ℤ
amounts_of m t = map (λ i. pos (amount m t i)) (range 0 m.n)

-- "t with the sign of that row's stiffness, 0 where it is 0 or absent"
unfoldable pub with_sign : ℕ → ℤ → ℤ
with_sign t (pos zero) = pos 0
with_sign t (pos (suc k)) = pos t
with_sign t (negsuc k) = neg_ℤ (pos t)

-- "the tool writes one out for a freedom that the user names": the shift that reaches row i's amount
unfoldable pub farthest : Matrix → (t i : ℕ) → List ℤ
farthest m t i = map (λ j. with_sign t (entry m i j)) (range 0 m.n)

-- "Otherwise the amounts alone are given and the list for the shift, however short, is unchanged"
unfoldable pub written_shift : Matrix → List ℤ → (t i : ℕ) → List ℤ
written_shift m x t i = cond (has_room t x) (farthest m t i) []

-- ---- the call

-- the call's reply: 5, 6, "17: t outside its limits or no such freedom, after 6", 9 for the amounts, and for the shift
-- if it is written; accepted, with 1 if a shift is written, else 0
unfoldable pub survey_reply : Matrix → List ℤ → (t i amounts_room shift_room : ℕ) → Reply
survey_reply m x t i amounts_room shift_room =
    in_turn refused
    (matrix_check m ∷ displacement_check m.n x ∷ check why.bad_survey (leb t max_error && ltb i m.n) ∷ room_for m.n amounts_room ∷ room_for (length (written_shift m x t i)) shift_room ∷ [])
    (accepted (bit (has_room t x)))
