-- The reply to a new value, and the forces and values after it.
use mathlib.Core.Path.{◌≡◌, refl, sym, ap, ◌∙◌}
use mathlib.Core.Logic.{◌⊎◌, inl, inr, ◌≢◌}
use mathlib.Core.Bool.{Bool, true, false}
use mathlib.Core.List.{List}
use Prim.Native.Nat.{ℕ, ◌+◌, ◌≤◌, ◌<◌}
use native.Mathlib.Omega.{arith}
use lib.Dec.{ltb}
use lib.IntN.{ℤ, pos, nat_abs, ◌-ℤ◌, ◌*ℤ◌}
use lib.ListN.{length, get_or, take, set}
use lib.Seq.{ext_get_or, get_or-take, get_or-drop}
use borrow.Author.Tests.{leb-true, ltb-true, lt-ltb, ne_eqb}
use Rattle.base.specs.Lists.{is_in, position_of}
use Rattle.base.specs.Integers.{within}
use Rattle.base.proofs.Booleans.{same_or, is_false, both_ways}
use Rattle.base.proofs.Positions.{position_at, position_in}
use Rattle.matrix.specs.Limits.{max_value}
use Rattle.matrix.specs.Matrix.{Matrix, part_of, columns_of, values_of, entry, is_matrix, displacement}
use Rattle.matrix.specs.Product.{force_at, product}
use Rattle.matrix.proofs.Checks.{matrix_tidy}
use Rattle.matrix.proofs.Matrix.{lookup_position, column-row, column-low, symmetric, displacements-many}
use Rattle.matrix.proofs.Product.{length-product, product_at}
use Rattle.matrix.proofs.Rows.{values_in, length-columns, length-values, values-part}
use Rattle.matrix.proofs.SmallForces.{small-forces}
use Rattle.upkeep.specs.Upkeep.{new_value, with_value, entry_place, is_named, is_small, changed, matrix_after, displacements_after}
use Rattle.upkeep.specs.KeptCurrent.{Current}
use Rattle.upkeep.specs.Code.Sums.{BothIn, BothAdded}
use Rattle.upkeep.proofs.Deltas.{alter_first, alter_second, alter_none, alter_small}

-- ---- the tests of a new value

module _ (m : Matrix) (i j : ℕ) (v : ℤ) where
  pub alter_named : {b : Bool} → is_in (columns_of m i) j ≡ b → is_named m (new_value i j v) ≡ b
  unfolding is_named
  alter_named e = e

  pub alter_is-small : {b : Bool} → within max_value v ≡ b → is_small (new_value i j v) ≡ b
  unfolding is_small
  alter_is-small e = e

-- ---- where a stored entry stands

-- a number stands in a list where its position is before the end
pub position_test : (xs : List ℕ) (v : ℕ) → ltb (position_of xs v) (length xs) ≡ is_in xs v
position_test xs v = both_ways (ltb (position_of xs v) (length xs)) (is_in xs v) (λ t. position_in xs v (ltb-true (position_of xs v) (length xs) t)) (λ t. lt-ltb (position_of xs v) (length xs) (position_at xs v t).0)

-- past the last row nothing is stored
pub none-past : (m : Matrix) (i j : ℕ) → m.n ≤ i → is_in (columns_of m i) j ≡ false
none-past m i j l = is_false (λ h. omega (arith, column-row m i j h))

module _ (m : Matrix) (ok : is_matrix m ≡ true) where
  module _ (i j : ℕ) (c : is_in (columns_of m i) j ≡ true) where
    first-row : i < m.n
    first-row = column-row m i j c

    there : position_of (columns_of m i) j < length (columns_of m i)
    there = (position_at (columns_of m i) j c).0

    pub place_low : entry_place m i j < length m.values
    unfolding entry_place
    place_low =
        let h = (matrix_tidy m ok).shape in
        omega (arith, there, length-columns m h i first-row, (values_in m h i first-row).rises, (values_in m h i first-row).ends)

    -- .. and the value there
    pub value-at : get_or m.values (entry_place m i j) (pos 0) ≡ entry m i j
    unfolding entry_place entry
    value-at =
        let h = (matrix_tidy m ok).shape in
        let from = get_or m.starts i 0 in
        let to = get_or m.starts (i + 1) 0 in
        let k = position_of (columns_of m i) j in
        let inside : from + k < to = omega (arith, there, length-columns m h i first-row) in
        sym (
        lookup_position j (columns_of m i) (values_of m i) (length-columns m h i first-row ∙ sym (length-values m h i first-row))
        ∙ ap (λ (zs : List ℤ). get_or zs k (pos 0)) (values-part m i first-row) ∙ get_or-drop from (take to m.values) k (pos 0) ∙ get_or-take to m.values (from + k) (pos 0) inside
        )

-- ---- a new value

module _ (m : Matrix) (x fs : List ℤ) (g : Current (record { matrix = m; displacements = x; forces = fs })) (i j : ℕ) (v : ℤ) (c : is_in (columns_of m i) j ≡ true) where
  abbrev both : Matrix
  both = with_value (with_value m i j v) j i v

  forces-long : length fs ≡ m.n
  forces-long = ap length g.forces ∙ length-product m x

  force-at : (r : ℕ) → get_or fs r (pos 0) ≡ force_at m x r
  force-at r = ap (λ (zs : List ℤ). get_or zs r (pos 0)) g.forces ∙ product_at m x r

  pub both-moved : (i < length x) × (j < length x)
  both-moved = let l = displacements-many m.n x g.moved in omega (arith, column-row m i j c, column-low m g.matrix i j c)

  -- what is added
  abbrev step : ℤ
  step = v -ℤ entry m i j

  pub both_in : nat_abs v ≤ max_value → BothIn fs i j (step *ℤ get_or x j (pos 0)) (step *ℤ get_or x i (pos 0))
  unfolding displacement within
  both_in s = record {
    here = omega (arith, forces-long, column-row m i j c);
    there = omega (arith, forces-long, column-low m g.matrix i j c);
    near_first = omega (arith, alter_small m g.matrix x g.moved v s i j);
    near_second = rw (symmetric m g.matrix i j) (omega (arith, alter_small m g.matrix x g.moved v s j i));
    small = λ r. rw (force-at r) (leb-true (nat_abs (force_at m x r)) 4096000000000000000 (small-forces.small m x g.matrix g.moved r));
  }

  both-n : both.n ≡ m.n
  unfolding with_value
  both-n = refl

  pub altered-forces : {new : List ℤ} → BothAdded i j (step *ℤ get_or x j (pos 0)) (step *ℤ get_or x i (pos 0)) fs new → new ≡ product both x
  unfolding displacement
  altered-forces {new} a = ext_get_or (pos 0) new (product both x) (a.long ∙ forces-long ∙ sym (length-product both x ∙ both-n)) (λ r l. at r (same_or r i) (same_or r j) ∙ sym (product_at both x r))
    where
      at : (r : ℕ) → (r ≡ i) ⊎ (r ≢ i) → (r ≡ j) ⊎ (r ≢ j) → get_or new r (pos 0) ≡ force_at both x r
      at r (inl e) o = rw e (a.own ∙ rw (force-at i) (sym (alter_first m g.matrix i j v c x)))
      at r (inr d) (inl e) =
          rw e (a.other (λ q. d (e ∙ sym q)) ∙ rw (force-at j, symmetric m g.matrix i j) (sym (alter_second m g.matrix i j v c x)))
      at r (inr d) (inr f) = a.rest r d f ∙ force-at r ∙ sym (alter_none m g.matrix i j v c x r (rw (ne_eqb r i d, ne_eqb r j f)))

  pub alter_values : {p q : ℕ} → p ≡ entry_place m i j → q ≡ entry_place m j i
      → set (set m.values p v) q v ≡ (changed (record { matrix = m; displacements = x; forces = fs }) (new_value i j v)).matrix.values
  unfolding changed matrix_after displacements_after with_value entry_place columns_of part_of
  alter_values e f = rw (e, f)

  pub alter_forces : (changed (record { matrix = m; displacements = x; forces = fs }) (new_value i j v)).forces ≡ product both x
  unfolding changed matrix_after displacements_after
  alter_forces = refl
