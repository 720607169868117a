-- The reply of the survey's call: 5, 6, 17, 9 in turn, and what the lists hold after it.
use mathlib.Core.Path.{◌≡◌, sym, ap, ◌∙◌}
use mathlib.Core.Bool.{true, false}
use mathlib.Core.List.{List, ◌++◌, map}
use Prim.Native.Nat.{ℕ, ◌≤◌, ◌<◌}
use native.Mathlib.Omega.{arith}
use lib.IntN.{ℤ, pos}
use lib.ListN.{length, drop}
use borrow.Author.Tests.{lt-ltb, le-leb, lt-leb}
use Rattle.base.specs.Lists.{range}
use Rattle.base.specs.Refusals as why
use Rattle.base.specs.Replies.{Reply, accepted, refused, in_turn, lent}
use Rattle.base.proofs.Fill.{length-made}
use Rattle.base.proofs.Replies.{checked, checked_accepted, lent-refused, lent-accepted}
use Rattle.matrix.specs.Matrix.{Matrix, columns_of, values_of, lookup, entry, is_matrix, matrix_check, are_displacements, displacement_check}
use Rattle.survey.specs.Survey.{max_error, has_room, amount, amounts_of, with_sign, farthest, written_shift, survey_reply}
use Rattle.survey.proofs.Shifts.{farthest-long}

-- ---- the reply

-- what passed the first checks
pub record Judged (m : Matrix) (x : List ℤ) : Type 0 where
  pub matrix : is_matrix m ≡ true
  pub moved : are_displacements m.n x ≡ true

pub judged : (m : Matrix) (x : List ℤ) → is_matrix m ≡ true → (k : ℕ) → accepted k ≡ checked (displacement_check m.n x) → Judged m x
unfolding displacement_check
judged m x h k e = record { matrix = h; moved = checked_accepted (displacement_check m.n x) k e }

module _ (m : Matrix) (x : List ℤ) (t i room size : ℕ) where
  abbrev reply : Reply
  reply = survey_reply m x t i room size

  module _ (g : Judged m x) where
    module _ (h : t ≤ max_error) where
      module _ (l : i < m.n) where
        module _ (k : m.n ≤ room) where
          pub no_shift : has_room t x ≡ false → accepted 0 ≡ reply
          unfolding survey_reply matrix_check displacement_check in_turn written_shift
          no_shift f = sym (rw (g.matrix, g.moved, le-leb t max_error h, lt-ltb i m.n l, le-leb m.n room k, f, le-leb 0 size (omega arith)))

          module _ (f : has_room t x ≡ true) where
            pub short-shift : size < m.n → refused why.too_short m.n ≡ reply
            unfolding survey_reply matrix_check displacement_check in_turn written_shift
            short-shift s = sym (rw (g.matrix, g.moved, le-leb t max_error h, lt-ltb i m.n l, le-leb m.n room k, f, farthest-long m t i, lt-leb m.n size s))

            pub with_shift : m.n ≤ size → accepted 1 ≡ reply
            unfolding survey_reply matrix_check displacement_check in_turn written_shift
            with_shift s = sym (rw (g.matrix, g.moved, le-leb t max_error h, lt-ltb i m.n l, le-leb m.n room k, f, farthest-long m t i, le-leb m.n size s))

-- ---- the two lists

module _ (m : Matrix) (x : List ℤ) (t i : ℕ) (old old_shift : List ℤ) where
  abbrev replied : Reply
  replied = survey_reply m x t i (length old) (length old_shift)

  -- a call's reply r, amounts and shift are as they should be
  abbrev pub Answers : (r : Reply) (new new_shift : List ℤ) → Type 0
  Answers r new new_shift = (r ≡ replied) × ((new ≡ lent replied (amounts_of m t) old) × (new_shift ≡ lent replied (written_shift m x t i) old_shift))

  pub refused-answers : (q p : ℕ) → refused q p ≡ replied → Answers (refused q p) old old_shift
  refused-answers q p e = (e, (sym (lent-refused (amounts_of m t) old replied q p (sym e)), sym (lent-refused (written_shift m x t i) old_shift replied q p (sym e))))

  module _ {new : List ℤ} (k : ℕ) (e : accepted k ≡ replied) (f : new ≡ amounts_of m t ++ drop m.n old) where
    amounts_left : new ≡ lent replied (amounts_of m t) old
    unfolding amounts_of
    amounts_left = f ∙ ap (λ (j : ℕ). amounts_of m t ++ drop j old) (sym (length-made (λ i. pos (amount m t i)) old m.n)) ∙ sym (lent-accepted (amounts_of m t) old replied k (sym e))

    -- without a shift, and with one
    pub amounts-answer : {new_shift : List ℤ} → has_room t x ≡ false → new_shift ≡ old_shift → Answers (accepted k) new new_shift
    unfolding written_shift
    amounts-answer n g = (e, (amounts_left, g ∙ sym (lent-accepted (written_shift m x t i) old_shift replied k (sym e) ∙ rw n)))

    pub both-answer : {new_shift : List ℤ} → has_room t x ≡ true → new_shift ≡ farthest m t i ++ drop m.n old_shift → Answers (accepted k) new new_shift
    unfolding written_shift
    both-answer n g = (e, (amounts_left, g ∙ sym (lent-accepted (written_shift m x t i) old_shift replied k (sym e) ∙ rw (n, farthest-long m t i))))

-- the shift that is put is the one that is written
pub shift-row : (m : Matrix) (t i : ℕ) {cs : List ℕ} {vs : List ℤ} → cs ≡ columns_of m i → vs ≡ values_of m i → map (λ j. with_sign t (lookup j cs vs)) (range 0 m.n) ≡ farthest m t i
unfolding farthest entry
shift-row m t i e f = rw (e, f)
