-- A column on and below the diagonal is the row of that number from the diagonal on.
use mathlib.Core.Path.{◌≡◌, refl, ap, ◌∙◌, sym}
use mathlib.Core.Bool.{Bool, true, false, ◌&&◌, and_comm}
use mathlib.Core.Logic.{⊎_elim}
use mathlib.Core.List.{List, [], ◌∷◌, map}
use Prim.Native.Nat.{ℕ, zero, suc, ◌+◌, ◌≤◌, ◌<◌}
use native.Mathlib.Omega.{arith}
use lib.Dec.{eqb, leb}
use borrow.Author.Tests.{eqb-true, eqb-false, eq-eqb, ne_eqb}
use Rattle.base.specs.Lists.{filter, is_in, range}
use Rattle.base.proofs.Booleans.{or_true, or_cases, same_test, is_false}
use Rattle.base.proofs.Lists.{filter_ext, filter-filter, filter_none, get_in, range_in}
use Rattle.matrix.specs.Matrix.{Matrix, columns_of, entry, ascending, is_matrix}
use Rattle.matrix.proofs.Matrix.{matrix_facts, column-low, column-row, symmetric}
use Rattle.matrix.proofs.Ascending.{ascending_tail, ascending-first}
use Rattle.market.specs.Parse.{triplet}
use Rattle.market.specs.Text.{column_of}
use Rattle.base.proofs.Pieces.{map-members}

-- the first of ascending numbers is below the others
pub first_below : (c : ℕ) (cs : List ℕ) (v : ℕ) → ascending (c ∷ cs) ≡ true → is_in cs v ≡ true → c < v
first_below c cs v a h = let (i, l, e) = get_in cs v h in omega (arith, ascending-first c cs a i l)

-- ascending numbers of a range are those of the range that are among them
pub range_among : (l k : ℕ) (cs : List ℕ) → ascending cs ≡ true → ((v : ℕ) → is_in cs v ≡ true → (k ≤ v) × (v < k + l)) → filter (is_in cs) (range k l) ≡ cs
range_among zero k [] a h = refl
range_among (suc l) k [] a h = filter_none (is_in []) (range k (suc l)) (λ v i. refl)
range_among zero k (c ∷ cs) a h = let b = h c (rw (eq-eqb c c refl)) in absurd (omega arith)
range_among (suc l) k (c ∷ cs) a h = go (eqb k c) refl (range_among l (suc k))
  where
    -- the others come after the first
    after : (v : ℕ) → is_in (c ∷ cs) v ≡ true → c ≤ v
    after v i = ⊎_elim (λ (e : eqb v c ≡ true). omega (arith, eqb-true v c e)) (λ (j : is_in cs v ≡ true). omega (arith, first_below c cs v a j)) (or_cases (eqb v c) (is_in cs v) i)

    go : (t : Bool) → eqb k c ≡ t → ((ds : List ℕ) → ascending ds ≡ true → ((v : ℕ) → is_in ds v ≡ true → (suc k ≤ v) × (v < suc k + l)) → filter (is_in ds) (range (suc k) l) ≡ ds) → filter (is_in (c ∷ cs)) (range k (suc l)) ≡ c ∷ cs
    go true e ih =
        let q = eqb-true k c e in
        let rest : filter (is_in (c ∷ cs)) (range (suc k) l) ≡ filter (is_in cs) (range (suc k) l) = filter_ext (is_in (c ∷ cs)) (is_in cs) (range (suc k) l) (λ v i. rw (ne_eqb v c (λ (z : v ≡ c). omega (arith, range_in v (suc k) l i)))) in
        rw (e, rest, ih cs (ascending_tail c cs a) (λ v i. (omega (arith, first_below c cs v a i), omega (arith, h v (rw i (or_true (eqb v c)))))), q)
    go false e ih =
        let q = eqb-false k c e in
        let first = h c (rw (eq-eqb c c refl)) in
        let out : is_in cs k ≡ false = is_false (λ (i : is_in cs k ≡ true). omega (arith, first_below c cs k a i, first)) in
        let low : k < c = omega arith in
        rw (e, out) (ih (c ∷ cs) a (λ v i. (omega (arith, after v i), omega (arith, h v i))))

module _ (m : Matrix) (ok : is_matrix m ≡ true) where
  -- the columns of a row are the numbers below n that are among them
  pub columns_among : (i : ℕ) → i < m.n → filter (is_in (columns_of m i)) (range 0 m.n) ≡ columns_of m i
  columns_among i l = range_among m.n 0 (columns_of m i) ((matrix_facts m ok).row i l).ascends (λ v h. (omega arith, omega (arith, column-low m ok i v h)))

  mirror_in : (i j : ℕ) → is_in (columns_of m i) j ≡ true → is_in (columns_of m j) i ≡ true
  mirror_in i j h = (((matrix_facts m ok).row i (column-row m i j h)).mirror j h).0

  -- stored both ways
  pub stored-both : (i j : ℕ) → is_in (columns_of m i) j ≡ is_in (columns_of m j) i
  stored-both i j = same_test (is_in (columns_of m i) j) (is_in (columns_of m j) i) (mirror_in i j) (mirror_in j i)

  -- column j: row j from the diagonal on
  pub column-is-row : (j : ℕ) → j < m.n → column_of m j ≡ map (λ i. triplet i j (entry m j i)) (filter (leb j) (columns_of m j))
  unfolding column_of
  column-is-row j l =
      ap (map (λ i. triplet i j (entry m i j)))
      (filter_ext (λ i. leb j i && is_in (columns_of m i) j) (λ i. is_in (columns_of m j) i && leb j i) (range 0 m.n) (λ i h. rw (stored-both i j) (and_comm (leb j i) (is_in (columns_of m j) i)))
      ∙ sym (filter-filter (is_in (columns_of m j)) (leb j) (range 0 m.n)) ∙ ap (filter (leb j)) (columns_among j l))
      ∙ map-members (λ i. triplet i j (entry m i j)) (λ i. triplet i j (entry m j i)) (filter (leb j) (columns_of m j)) (λ i h. rw (symmetric m ok i j))
