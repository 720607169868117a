-- The lists of a matrix come back: row starts, columns and values of the entries that are written.
use mathlib.Core.Path.{◌≡◌, refl, sym, ap, ◌∙◌}
use mathlib.Core.Bool.{true}
use mathlib.Core.List.{List, [], ◌∷◌, ◌++◌, map, map-map, map-id}
use Prim.Native.Nat.{ℕ, zero, suc, ◌+◌, ◌-◌, ◌≤◌, ◌<◌}
use native.Mathlib.Numerals.{add-one}
use native.Mathlib.Omega.{arith}
use lib.IntN.{ℤ}
use lib.ListN.{length, get_or, take, drop, length-map}
use lib.Seq.{slice, slice_empty, take-add, drop-drop, drop-cons}
use borrow.Author.Tests.{eq-eqb, ne_eqb}
use Rattle.base.specs.Lists.{concat, range}
use Rattle.base.proofs.Lists.{take-drop}
use Rattle.matrix.specs.Matrix.{Matrix, columns_of, values_of, lookup, entry, ascending, is_matrix}
use Rattle.matrix.proofs.Matrix.{matrix_facts}
use Rattle.matrix.proofs.Ascending.{ascending_tail}
use Rattle.matrix.proofs.Checks.{matrix_tidy}
use Rattle.matrix.proofs.Rows.{columns-part, values-part, length-columns}
use Rattle.matrix.proofs.Symmetry.{row_lengths}
use Rattle.market.specs.Parse.{Triplet, triplet}
use Rattle.market.specs.FullRows.{row_of, rows_of, starts_from, row_starts, columns, values, of_triplets}
use Rattle.market.specs.Text.{lower}
use Rattle.market.specs.WriteThenRead.{size, exactly}
use Rattle.base.proofs.Pieces.{map-members, map_pieces, pieces_same, pieces_snoc}
use Rattle.market.proofs.Lower.Columns.{first_below}
use Rattle.market.proofs.Lower.Rows.{row-lower}

-- the values beside ascending columns
values-beside : (cs : List ℕ) (vs : List ℤ) → ascending cs ≡ true → length cs ≡ length vs → map (λ j. lookup j cs vs) cs ≡ vs
unfolding lookup
values-beside [] [] a e = refl
values-beside [] (v ∷ vs) a e = absurd (omega arith)
values-beside (c ∷ cs) [] a e = absurd (omega arith)
values-beside (c ∷ cs) (v ∷ vs) a e =
    rw (eq-eqb c c refl)
    (ap (λ (l : List ℤ). v ∷ l) (map-members (λ j. lookup j (c ∷ cs) (v ∷ vs)) (λ j. lookup j cs vs) cs (λ j h. rw (ne_eqb j c (λ (z : j ≡ c). omega (arith, first_below c cs j a h))))
    ∙ values-beside cs vs (ascending_tail c cs a) (omega arith)))

-- one row start after the other
starts-back : (s : List ℕ) (row : ℕ → List Triplet) (l k : ℕ) → k + l < length s → ((i : ℕ) → k ≤ i → i < k + l → get_or s i 0 + length (row i) ≡ get_or s (suc i) 0) → starts_from (get_or s k 0) (map row (range k l)) ≡ take (suc l) (drop k s)
unfolding starts_from
starts-back s row zero k h e = rw (drop-cons s k 0 (omega arith)) (ap (λ (r : List ℕ). get_or s k 0 ∷ r) (sym (none (drop (suc k) s))))
  where
    none : (xs : List ℕ) → take 0 xs ≡ []
    none [] = refl
    none (x ∷ xs) = refl
starts-back s row (suc l) k h e =
    rw (drop-cons s k 0 (omega arith), e k (omega arith) (omega arith)) (ap (λ (r : List ℕ). get_or s k 0 ∷ r) (starts-back s row l (suc k) (omega arith) (λ i a b. e i (omega arith) (omega arith))))

module _ {A : Type 0} (xs : List A) where
  -- two parts that lie side by side
  slice_append : (a b c : ℕ) → a ≤ b → b ≤ c → slice a b xs ++ slice b c xs ≡ slice a c xs
  slice_append a b c h k =
      let n : b - a + (c - b) ≡ c - a = omega arith in
      let d : a + (b - a) ≡ b = omega arith in
      sym (sym (take-drop a c xs) ∙ ap (λ (i : ℕ). take i (drop a xs)) (sym n) ∙ take-add (b - a) (c - b) (drop a xs)
      ∙ rw (take-drop a b xs, drop-drop (b - a) a xs, d, take-drop b c xs))

  -- parts one after the other, between the starts s k and s (k + l)
  module _ (s : ℕ → ℕ) (k : ℕ) where
    climbs : (l : ℕ) → ((i : ℕ) → k ≤ i → i < k + l → s i ≤ s (suc i)) → s k ≤ s (k + l)
    climbs zero h = let e : k + 0 ≡ k = omega arith in rw e (omega arith)
    climbs (suc l) h = let e : k + suc l ≡ suc (k + l) = omega arith in rw e (omega (arith, climbs l (λ i a b. h i a (omega arith)), h (k + l) (omega arith) (omega arith)))

    slices_back : (l : ℕ) → ((i : ℕ) → k ≤ i → i < k + l → s i ≤ s (suc i)) → concat (map (λ i. slice (s i) (s (suc i)) xs) (range k l)) ≡ slice (s k) (s (k + l)) xs
    slices_back zero h = let e : k + 0 ≡ k = omega arith in rw e (sym (slice_empty (s k) xs))
    slices_back (suc l) h =
        let e : k + suc l ≡ suc (k + l) = omega arith in
        let rising : (i : ℕ) → k ≤ i → i < k + l → s i ≤ s (suc i) = λ i a b. h i a (omega arith) in
        pieces_snoc (λ i. slice (s i) (s (suc i)) xs) k l
        ∙ rw (slices_back l rising, e) (slice_append (s k) (s (k + l)) (s (suc (k + l))) (climbs l rising) (h (k + l) (omega arith) (omega arith)))

module _ (m : Matrix) (ok : is_matrix m ≡ true) where
  -- where row i starts
  abbrev start_at : ℕ → ℕ
  start_at i = get_or m.starts i 0

  rising : (i : ℕ) → 0 ≤ i → i < 0 + m.n → start_at i ≤ start_at (suc i)
  rising i a b = ((matrix_facts m ok).row i (omega arith)).rises

  -- the row starts
  starts-are : row_starts m.n (lower m) ≡ take (suc m.n) m.starts
  unfolding row_starts
  starts-are =
      ap (λ (k : ℕ). starts_from k (map (row_of m.n (lower m)) (range 0 m.n))) (sym (matrix_facts m ok).starts_first)
      ∙ starts-back m.starts (row_of m.n (lower m)) m.n 0 (omega (arith, (matrix_facts m ok).starts_long)) each
    where
      each : (i : ℕ) → 0 ≤ i → i < 0 + m.n → start_at i + length (row_of m.n (lower m) i) ≡ start_at (suc i)
      each i a b =
          let l : i < m.n = omega arith in
          omega (arith, rising i a b, ap length (row-lower m ok i l), length-map (columns_of m i) (λ j. triplet i j (entry m i j)), length-columns m (matrix_tidy m ok).shape i l, ap start_at (add-one i))

  -- what a function of entries gives of the rows, where of each row it gives a part of a list
  parts_are : {A : Type 0} (g : Triplet → A) (part : ℕ → List A) (xs : List A) → ((i : ℕ) → i < m.n → map (λ j. g (triplet i j (entry m i j))) (columns_of m i) ≡ part i) → ((i : ℕ) → i < m.n → part i ≡ slice (start_at i) (start_at (i + 1)) xs)
      → map g (rows_of m.n (lower m)) ≡ take (size m) xs
  unfolding rows_of size
  parts_are g part xs row_is part-is =
      map_pieces g (row_of m.n (lower m)) (range 0 m.n)
      ∙ pieces_same (λ i. map g (row_of m.n (lower m) i)) (λ i. slice (start_at i) (start_at (suc i)) xs) 0 m.n
      (λ i a b. let l : i < m.n = omega arith in ap (map g) (row-lower m ok i l) ∙ map-map g (λ j. triplet i j (entry m i j)) (columns_of m i) ∙ row_is i l ∙ part-is i l ∙ rw (add-one i))
      ∙ slices_back xs start_at 0 m.n rising ∙ rw (matrix_facts m ok).starts_first (let e : 0 + m.n ≡ m.n = omega arith in rw e)

  columns_are : columns m.n (lower m) ≡ take (size m) m.columns
  unfolding columns
  columns_are = parts_are (λ (e : Triplet). e.column) (columns_of m) m.columns (λ i l. map-id (columns_of m i)) (columns-part m)

  values_are : values m.n (lower m) ≡ take (size m) m.values
  unfolding values entry
  values_are =
      parts_are (λ (e : Triplet). e.value) (values_of m) m.values
      (λ i l. values-beside (columns_of m i) (values_of m i) ((matrix_facts m ok).row i l).ascends (row_lengths m (matrix_tidy m ok).shape i l refl refl)) (values-part m)

  -- The full rows of the entries that are written are the matrix.
  pub matrix-back : of_triplets m.n (lower m) ≡ exactly m
  unfolding of_triplets exactly
  matrix-back = rw (starts-are, columns_are, values_are)
