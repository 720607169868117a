-- A value written in the place of a stored entry: that entry alone changes.
use mathlib.Core.Path.{◌≡◌, refl, sym, ap, ◌∙◌}
use mathlib.Core.Logic.{◌⊎◌, inl, inr, ◌≢◌}
use mathlib.Core.Bool.{Bool, true, false, ◌&&◌, cond}
use Prim.Native.Nat.{ℕ, suc, ◌+◌, ◌-◌, ◌≤◌, ◌<◌}
use native.Mathlib.Numerals.{add-one}
use native.Mathlib.Omega.{arith}
use lib.Dec.{eqb, ltb}
use lib.IntN.{ℤ}
use lib.ListN.{length, get_or, set, length-set}
use lib.Seq.{slice}
use borrow.Author.Tests.{ltb-true, ltb-false, lt-ltb, eq-eqb, ne_eqb}
use Rattle.base.specs.Lists.{all, is_in, position_of}
use Rattle.base.proofs.Booleans.{same_or}
use Rattle.base.proofs.Lists.{all_set, slice_set-before, slice_set_in, slice_set-after}
use Rattle.base.proofs.Positions.{position_at}
use Rattle.matrix.specs.Matrix.{Matrix, part_of, columns_of, values_of, lookup, entry}
use Rattle.matrix.specs.Code.Checks.{shaped}
use Rattle.matrix.proofs.Matrix.{lookup-set, column-row}
use Rattle.matrix.proofs.Checks.{shape}
use Rattle.matrix.proofs.Rows.{starts_climb, length-columns, length-values}
use Rattle.upkeep.specs.Upkeep.{entry_place, with_value}

module _ (m : Matrix) (i j : ℕ) (v : ℤ) where
  -- the columns stay
  pub put_columns : (r : ℕ) → columns_of (with_value m i j v) r ≡ columns_of m r
  unfolding with_value columns_of part_of
  put_columns r = refl

  pub put_shaped : shaped m ≡ true → shaped (with_value m i j v) ≡ true
  unfolding with_value shaped
  put_shaped h = rw (length-set m.values (entry_place m i j) v) h

  module _ (h : shaped m ≡ true) (c : is_in (columns_of m i) j ≡ true) where
    inside : i < m.n
    inside = column-row m i j c

    there : (position_of (columns_of m i) j < length (columns_of m i)) × (get_or (columns_of m i) (position_of (columns_of m i) j) 0 ≡ j)
    there = position_at (columns_of m i) j c

    -- row starts never fall
    climb : (r s : ℕ) → r ≤ s → s ≤ m.n → get_or m.starts r 0 ≤ get_or m.starts s 0
    climb r s l k = let e : r + (s - r) ≡ s = omega arith in rw e at (starts_climb m.starts m.n (shape m h).rising r (s - r) (omega arith))

    -- the place lies in row i
    place_in : (get_or m.starts i 0 ≤ entry_place m i j) × (entry_place m i j < get_or m.starts (suc i) 0)
    unfolding entry_place
    place_in =
        let size : length (columns_of m i) ≡ get_or m.starts (suc i) 0 - get_or m.starts i 0 = rw (← add-one i) (length-columns m h i inside) in
        omega (arith, there.0)

    -- the values of other rows stay
    pub put_values-other : (r : ℕ) → r ≢ i → values_of (with_value m i j v) r ≡ values_of m r
    unfolding with_value values_of part_of
    put_values-other r d = go (ltb r m.n) refl (ltb r i) refl
      where
        go : (t : Bool) → ltb r m.n ≡ t → (u : Bool) → ltb r i ≡ u → values_of (with_value m i j v) r ≡ values_of m r
        go true e true f =
            rw e (slice_set-after (get_or m.starts r 0) (get_or m.starts (suc r) 0) (entry_place m i j) m.values v (omega (arith, climb (suc r) i (ltb-true r i f) (omega (arith, inside)), place_in.0)))
        go true e false f =
            let l : suc i ≤ r = omega (arith, ltb-false r i f) in
            rw e (slice_set-before (get_or m.starts r 0) (get_or m.starts (suc r) 0) (entry_place m i j) m.values v (omega (arith, climb (suc i) r l (omega (arith, ltb-true r m.n e)), place_in.1)))
        go false e u f = rw e

    -- row i's change in one place
    pub put_values : values_of (with_value m i j v) i ≡ set (values_of m i) (position_of (columns_of m i) j) v
    unfolding with_value values_of part_of entry_place
    put_values =
        let e : get_or m.starts i 0 + position_of (columns_of m i) j - get_or m.starts i 0 ≡ position_of (columns_of m i) j = omega arith in
        rw (lt-ltb i m.n inside)
        (slice_set_in (get_or m.starts i 0) (get_or m.starts (suc i) 0) (entry_place m i j) m.values v place_in.0 place_in.1 ∙ ap (λ (k : ℕ). set (slice (get_or m.starts i 0) (get_or m.starts (suc i) 0) m.values) k v) e)

    -- every entry
    pub put_entry : (r s : ℕ) → entry (with_value m i j v) r s ≡ cond (eqb r i && eqb s j) v (entry m r s)
    unfolding entry
    put_entry r s = go (same_or r i)
      where
        beside : length (columns_of m i) ≡ length (values_of m i)
        beside = length-columns m h i inside ∙ sym (length-values m h i inside)

        own : lookup s (columns_of (with_value m i j v) i) (values_of (with_value m i j v) i) ≡ cond (eqb s j) v (lookup s (columns_of m i) (values_of m i))
        own = rw (put_columns i, put_values) (lookup-set s j (columns_of m i) (values_of m i) v beside c)

        go : (r ≡ i) ⊎ (r ≢ i) → lookup s (columns_of (with_value m i j v) r) (values_of (with_value m i j v) r) ≡ cond (eqb r i && eqb s j) v (lookup s (columns_of m r) (values_of m r))
        go (inl e) = rw (e, eq-eqb i i refl) own
        go (inr d) = rw (ne_eqb r i d, put_columns r, put_values-other r d)

    -- a test that the value passes holds of each row's values as it did
    pub put_all : (p : ℤ → Bool) → p v ≡ true → (r : ℕ) → all p (values_of m r) ≡ true → all p (values_of (with_value m i j v) r) ≡ true
    put_all p e r k = go (same_or r i)
      where
        go : (r ≡ i) ⊎ (r ≢ i) → all p (values_of (with_value m i j v) r) ≡ true
        go (inl q) = rw (q, put_values) (all_set p (values_of m i) (position_of (columns_of m i) j) v (rw q at k) e)
        go (inr d) = rw (put_values-other r d) k
