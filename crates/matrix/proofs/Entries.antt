-- How many entries a matrix stores: at most twice those on and below the diagonal, since it is symmetric.
use mathlib.Core.Path.{◌≡◌, refl, sym, ◌∙◌}
use mathlib.Core.Logic.{⊎_elim}
use mathlib.Core.Bool.{Bool, true, false}
use mathlib.Core.List.{List, [], ◌∷◌}
use Prim.Native.Nat.{ℕ, zero, suc, ◌*◌, ◌≤◌, ◌<◌}
use native.Mathlib.Numerals.{add-one}
use native.Mathlib.Omega.{arith}
use lib.Dec.{eqb, leb}
use lib.ListN.{length, get_or}
use borrow.Author.Tests.{leb-true, le-leb, eq-eqb, ne_eqb}
use Rattle.base.specs.Lists.{filter, is_in, sum_below}
use Rattle.base.specs.Code.Counts.{count}
use Rattle.base.proofs.Booleans.{clash, same_or, or_true}
use Rattle.base.proofs.Lists.{filter_passes}
use Rattle.base.proofs.Counts.{count-filter, in_count, out_count}
use Rattle.base.proofs.Sums.{sum-below-same, sum-below_more, sum-below-table}
use Rattle.matrix.specs.Limits.{max_entries}
use Rattle.matrix.specs.Matrix.{Matrix, columns_of, ascending, lower_entries, is_matrix}
use Rattle.matrix.proofs.Matrix.{MatrixFacts, matrix_facts, column-row, column-low}
use Rattle.matrix.proofs.Ascending.{ascending_tail, ascending-first}
use Rattle.matrix.proofs.Checks.{matrix_tidy}
use Rattle.matrix.proofs.Rows.{length-columns, columns-in}

-- ---- a list of numbers below n

none : (n : ℕ) → sum_below (λ j. 0) n ≡ 0
unfolding sum_below
none zero = refl
none (suc n) = omega (arith, none n)

-- its length, counted number by number
length-count : (n : ℕ) (xs : List ℕ) → ((v : ℕ) → is_in xs v ≡ true → v < n) → length xs ≡ sum_below (λ j. count j xs) n
length-count n [] h = sym (none n)
length-count n (x ∷ xs) h =
    let more = sum-below_more (λ j. count j xs) (λ j. count j (x ∷ xs)) 1 n x (h x (rw (eq-eqb x x refl))) (rw (eq-eqb x x refl) (omega arith)) (λ v d. rw (ne_eqb v x d) (omega arith)) in
    omega (arith, more, length-count n xs (λ v k. h v (rw k (or_true (eqb v x)))))

-- a number that is at most the first of an ascending list is not in its rest
count-before : (c : ℕ) (cs : List ℕ) (v : ℕ) → ascending (c ∷ cs) ≡ true → v ≤ c → count v cs ≡ 0
count-before c [] v h l = refl
count-before c (d ∷ cs) v h l =
    let first = ascending-first c (d ∷ cs) h 0 (omega arith) in
    rw (ne_eqb v d (λ e. omega arith)) (omega (arith, count-before d cs v (ascending_tail c (d ∷ cs) h) (omega arith)))

-- an ascending list has each number once
pub count-once : (cs : List ℕ) (v : ℕ) → ascending cs ≡ true → count v cs ≤ 1
count-once [] v h = omega arith
count-once (c ∷ cs) v h =
    ⊎_elim
    (λ e. rw (eq-eqb v c e) (omega (arith, count-before c cs v h (omega arith))))
    (λ d. rw (ne_eqb v c d) (omega (arith, count-once cs v (ascending_tail c cs h))))
    (same_or v c)

-- ---- the entries of a matrix

module _ (m : Matrix) (ok : is_matrix m ≡ true) where
  -- 1 where an entry is stored
  abbrev G : ℕ → ℕ → ℕ
  G i j = count j (columns_of m i)

  facts : MatrixFacts m
  facts = matrix_facts m ok

  once : (i j : ℕ) → is_in (columns_of m i) j ≡ true → G i j ≡ 1
  once i j h = omega (arith, count-once (columns_of m i) j (facts.row i (column-row m i j h)).ascends, in_count j (columns_of m i) h)

  mirrors : (i j : ℕ) → is_in (columns_of m i) j ≡ true → is_in (columns_of m j) i ≡ true
  mirrors i j h = ((facts.row i (column-row m i j h)).mirror j h).0

  G_same : (i j : ℕ) → G i j ≡ G j i
  G_same i j = go (is_in (columns_of m i) j) refl (is_in (columns_of m j) i) refl
    where
      go : (a : Bool) → is_in (columns_of m i) j ≡ a → (b : Bool) → is_in (columns_of m j) i ≡ b → G i j ≡ G j i
      go true e b f = once i j e ∙ sym (once j i (mirrors i j e))
      go false e true f = absurd (clash (mirrors j i f) e)
      go false e false f = out_count j (columns_of m i) e ∙ sym (out_count i (columns_of m j) f)

  -- row i's entries, and those on and below the diagonal
  row_count : (i : ℕ) → length (columns_of m i) ≡ sum_below (G i) m.n
  row_count i = length-count m.n (columns_of m i) (column-low m ok i)

  lower-count : (i : ℕ) → length (filter (λ j. leb j i) (columns_of m i)) ≡ sum_below (G i) (suc i)
  lower-count i =
      let low = filter (λ j. leb j i) (columns_of m i) in
      length-count (suc i) low (λ v h. omega (arith, leb-true v i (filter_passes (λ j. leb j i) (columns_of m i) v h)))
      ∙ sum-below-same (λ j. count j low) (G i) (suc i) (λ v l. count-filter v (λ j. leb j i) (columns_of m i) ∙ rw (le-leb v i (omega arith)) (omega arith))

  -- the entries of the rows before k end where row k starts
  entries_end : (k : ℕ) → k ≤ m.n → sum_below (λ i. length (columns_of m i)) k ≡ get_or m.starts k 0
  unfolding sum_below
  entries_end zero l = sym facts.starts_first
  entries_end (suc k) l =
      let h = (matrix_tidy m ok).shape in
      rw (← add-one k) (omega (arith, entries_end k (omega arith), length-columns m h k l, (columns-in m h k l).rises))

  -- "at most 32,768 stored entries on and below the diagonal": twice as many in full rows
  pub few-entries : get_or m.starts m.n 0 ≤ 2 * max_entries
  unfolding lower_entries
  few-entries =
      omega (
        arith,
        entries_end m.n (omega arith),
        sum-below-same (λ i. length (columns_of m i)) (λ i. sum_below (G i) m.n) m.n (λ i l. row_count i),
        sum-below-table G m.n G_same,
        sum-below-same (λ i. length (filter (λ j. leb j i) (columns_of m i))) (λ i. sum_below (G i) (suc i)) m.n (λ i l. lower-count i),
        facts.lower,
      )
