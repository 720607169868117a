-- What a change adds to each force: the value times the difference of displacements, or the difference of values times
-- the displacement.
use mathlib.Core.Path.{◌≡◌, refl, sym, ap, ◌∙◌}
use mathlib.Core.Logic.{◌≢◌}
use mathlib.Core.Bool.{true, false, ◌||◌, ◌&&◌}
use mathlib.Core.List.{List}
use Prim.Native.Nat.{ℕ, ◌*◌, ◌≤◌, ◌<◌}
use native.Mathlib.Omega.{arith}
use lib.Dec.{eqb}
use lib.IntN.{ℤ, pos, nat_abs, ◌+ℤ◌, ◌-ℤ◌, ◌*ℤ◌, +ℤ_idr, zero-*ℤ}
use lib.ListN.{length, set}
use lib.Seq.{get_or-set_same, get_or-set_other}
use borrow.Author.Tests.{eqb-true, eq-eqb, ne_eqb}
use Rattle.base.specs.Lists.{is_in}
use Rattle.base.specs.Integers.{sumℤ}
use Rattle.base.proofs.Booleans.{and_false, and_left, and_right, or_true, or_left_false, or_right_false, is_false, clash}
use Rattle.base.proofs.Integers.{abs-sub, abs-mul-le, mul-sum, times-sum, add_difference}
use Rattle.base.proofs.Sums.{sum_same, sum_more}
use Rattle.matrix.specs.Limits.{max_value, max_displacement}
use Rattle.matrix.specs.Matrix.{Matrix, columns_of, entry, adjacent, is_matrix, displacement, are_displacements}
use Rattle.matrix.specs.Product.{force_at}
use Rattle.matrix.proofs.Matrix.{absent, adjacent-both, column-low, column-row, small-entry, small-displacement}
use Rattle.upkeep.specs.Upkeep.{with_value}
use Rattle.upkeep.proofs.Altered.{alter_entry}

-- ---- a new displacement

module _ (m : Matrix) (x : List ℤ) (i : ℕ) (v : ℤ) where
  -- row r's force changes by entry (r, i) × the difference
  pub move_force : i < m.n → i < length x → (r : ℕ) → force_at m (set x i v) r ≡ force_at m x r +ℤ entry m r i *ℤ (v -ℤ displacement x i)
  unfolding force_at displacement
  move_force l k r =
      sum_more (λ s. entry m r s *ℤ displacement x s) (λ s. entry m r s *ℤ displacement (set x i v) s) (entry m r i *ℤ (v -ℤ displacement x i)) m.n i l
      (ap (λ (z : ℤ). entry m r i *ℤ z) (get_or-set_same x i v (pos 0) k ∙ sym (add_difference (displacement x i) v)) ∙ times-sum (entry m r i) (displacement x i) (v -ℤ displacement x i))
      (λ s d. ap (λ (z : ℤ). entry m r s *ℤ z) (get_or-set_other x i s v (pos 0) d))

  -- .. so not at all where there is no entry
  pub move-none : i < m.n → i < length x → (r : ℕ) → entry m r i ≡ pos 0 → force_at m (set x i v) r ≡ force_at m x r
  move-none l k r e = move_force l k r ∙ rw (e, zero-*ℤ (v -ℤ displacement x i)) (+ℤ_idr (force_at m x r))

-- a row that is neither i nor adjacent to it has no entry in its column
pub no-entry : (m : Matrix) → is_matrix m ≡ true → (i r : ℕ) → eqb r i || adjacent m i r ≡ false → entry m r i ≡ pos 0
unfolding adjacent
no-entry m ok i r e = absent m r i (λ q. clash (rw (eq-eqb r i q) refl) e) (is_false (λ a. clash {b = eqb r i || adjacent m i r} (rw (adjacent-both m ok r i a) (or_true (eqb r i))) e))

-- ---- a new value

-- one entry of a row differs
one_entry : (m other : Matrix) (n r s : ℕ) (v : ℤ) (x : List ℤ) → s < n → entry other r s ≡ v → ((t : ℕ) → t ≢ s → entry other r t ≡ entry m r t)
    → sumℤ (λ t. entry other r t *ℤ displacement x t) n ≡ sumℤ (λ t. entry m r t *ℤ displacement x t) n +ℤ (v -ℤ entry m r s) *ℤ displacement x s
one_entry m other n r s v x l e h =
    sum_more (λ t. entry m r t *ℤ displacement x t) (λ t. entry other r t *ℤ displacement x t) ((v -ℤ entry m r s) *ℤ displacement x s) n s l
    (ap (λ (z : ℤ). z *ℤ displacement x s) (e ∙ sym (add_difference (entry m r s) v)) ∙ mul-sum (entry m r s) (v -ℤ entry m r s) (displacement x s))
    (λ t d. ap (λ (z : ℤ). z *ℤ displacement x t) (h t d))

module _ (m : Matrix) (ok : is_matrix m ≡ true) (i j : ℕ) (v : ℤ) (c : is_in (columns_of m i) j ≡ true) (x : List ℤ) where
  abbrev both : Matrix
  both = with_value (with_value m i j v) j i v

  -- the entry's first row: by the difference × the displacement of its column
  pub alter_first : force_at both x i ≡ force_at m x i +ℤ (v -ℤ entry m i j) *ℤ displacement x j
  unfolding force_at with_value
  alter_first = one_entry m both m.n i j v x (column-low m ok i j c) own other
    where
      own : entry both i j ≡ v
      own = alter_entry m ok i j v c i j ∙ rw (eq-eqb i i refl, eq-eqb j j refl)

      other : (t : ℕ) → t ≢ j → entry both i t ≡ entry m i t
      other t d =
          let e : eqb i j && eqb t i ≡ false = is_false (λ q. d (eqb-true t i (and_right (eqb i j) (eqb t i) q) ∙ eqb-true i j (and_left (eqb i j) (eqb t i) q))) in
          alter_entry m ok i j v c i t ∙ rw (e, ne_eqb t j d, and_false (eqb i i))

  -- .. and its second
  pub alter_second : force_at both x j ≡ force_at m x j +ℤ (v -ℤ entry m j i) *ℤ displacement x i
  unfolding force_at with_value
  alter_second = one_entry m both m.n j i v x (column-row m i j c) own other
    where
      own : entry both j i ≡ v
      own = alter_entry m ok i j v c j i ∙ rw (eq-eqb j j refl, eq-eqb i i refl, or_true (eqb j i && eqb i j))

      other : (t : ℕ) → t ≢ i → entry both j t ≡ entry m j t
      other t d =
          let e : eqb j i && eqb t j ≡ false = is_false (λ q. d (eqb-true t j (and_right (eqb j i) (eqb t j) q) ∙ eqb-true j i (and_left (eqb j i) (eqb t j) q))) in
          alter_entry m ok i j v c j t ∙ rw (e, ne_eqb t i d, and_false (eqb j j))

  -- no other
  pub alter_none : (r : ℕ) → eqb r i || eqb r j ≡ false → force_at both x r ≡ force_at m x r
  unfolding force_at with_value
  alter_none r e = sum_same (λ t. entry both r t *ℤ displacement x t) (λ t. entry m r t *ℤ displacement x t) m.n (λ t l. ap (λ (z : ℤ). z *ℤ displacement x t) (kept t))
    where
      kept : (t : ℕ) → entry both r t ≡ entry m r t
      kept t = alter_entry m ok i j v c r t ∙ rw (or_left_false (eqb r i) (eqb r j) e, or_right_false (eqb r i) (eqb r j) e)

-- ---- no number is lost: what is added, and the differences, are small

module _ (m : Matrix) (ok : is_matrix m ≡ true) (x : List ℤ) (moved : are_displacements m.n x ≡ true) (v : ℤ) where
  pub move-small : nat_abs v ≤ max_displacement → (r i : ℕ) → nat_abs (entry m r i *ℤ (v -ℤ displacement x i)) ≤ max_value * (2 * max_displacement)
  move-small s r i =
      let far : nat_abs (v -ℤ displacement x i) ≤ 2 * max_displacement = omega (arith, abs-sub v (displacement x i), small-displacement m.n x moved i) in
      abs-mul-le (entry m r i) (v -ℤ displacement x i) (small-entry m ok r i) far

  pub alter_small : nat_abs v ≤ max_value → (r i : ℕ) → nat_abs ((v -ℤ entry m r i) *ℤ displacement x i) ≤ 2 * max_value * max_displacement
  alter_small s r i =
      let far : nat_abs (v -ℤ entry m r i) ≤ 2 * max_value = omega (arith, abs-sub v (entry m r i), small-entry m ok r i) in
      abs-mul-le (v -ℤ entry m r i) (displacement x i) far (small-displacement m.n x moved i)
