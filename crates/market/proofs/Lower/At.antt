-- What the entries on and below the diagonal of a matrix have at each place: each that is stored, once.
use mathlib.Core.Path.{◌≡◌, refl, ap, ◌∙◌}
use mathlib.Core.Logic.{◌≢◌}
use mathlib.Core.Bool.{Bool, true, false, ◌&&◌, and_comm}
use mathlib.Core.List.{List, [], ◌∷◌, map}
use Prim.Native.Nat.{ℕ, zero, suc, ◌+◌, ◌≤◌, ◌<◌}
use native.Mathlib.Omega.{arith}
use lib.Dec.{eqb, leb}
use lib.ListN.{length}
use borrow.Author.Tests.{eqb-true, eqb-false, eq-eqb, ne_eqb, leb-true, le-leb}
use Rattle.base.specs.Lists.{filter, keep, is_in, concat, range}
use Rattle.base.specs.Integers.{within}
use Rattle.base.proofs.Booleans.{and_false, and_left}
use Rattle.base.proofs.Each.{Each, each_append}
use Rattle.base.proofs.Lists.{filter_ext, filter_swap, filter_none, range_in}
use Rattle.matrix.specs.Limits.{max_value}
use Rattle.matrix.specs.Matrix.{Matrix, columns_of, entry, is_matrix}
use Rattle.matrix.proofs.Matrix.{small-entry}
use Rattle.market.specs.Parse.{Triplet, triplet, is_at}
use Rattle.market.specs.Text.{column_of, lower}
use Rattle.base.proofs.Pieces.{filter_map, filter_pieces, pieces_one}
use Rattle.market.proofs.Stored.{Fits, Stored}

-- ---- lists

-- the one number of a range that is i
filter-one : (i k l : ℕ) → k ≤ i → i < k + l → filter (λ r. eqb r i) (range k l) ≡ i ∷ []
filter-one i k zero a b = absurd (omega arith)
filter-one i k (suc l) a b = go (eqb k i) refl (λ c. filter-one i (suc k) l c (omega arith))
  where
    go : (t : Bool) → eqb k i ≡ t → (suc k ≤ i → filter (λ r. eqb r i) (range (suc k) l) ≡ i ∷ []) → keep t k (filter (λ r. eqb r i) (range (suc k) l)) ≡ i ∷ []
    go true e ih =
        let q = eqb-true k i e in
        rw (filter_none (λ r. eqb r i) (range (suc k) l) (λ v m. ne_eqb v i (λ (f : v ≡ i). omega (arith, range_in v (suc k) l m)))) (ap (λ (y : ℕ). y ∷ []) q)
    go false e ih = let q : k ≢ i = eqb-false k i e in ih (omega arith)

module _ {A : Type 0} (P : A → Type 0) where
  each_pieces : (f : ℕ → List A) (k l : ℕ) → ((c : ℕ) → k ≤ c → c < k + l → Each P (f c)) → Each P (concat (map f (range k l)))
  each_pieces f k zero h = tt
  each_pieces f k (suc l) h = each_append P (f k) (concat (map f (range (suc k) l))) (h k (omega arith) (omega arith)) (each_pieces f (suc k) l (λ c a b. h c (omega arith) (omega arith)))

  each_passing : (f : ℕ → A) (p : ℕ → Bool) (k l : ℕ) → ((c : ℕ) → c < k + l → p c ≡ true → P (f c)) → Each P (map f (filter p (range k l)))
  each_passing f p k zero h = tt
  each_passing f p k (suc l) h = go (p k) refl (each_passing f p (suc k) l (λ c b t. h c (omega arith) t))
    where
      go : (t : Bool) → p k ≡ t → Each P (map f (filter p (range (suc k) l))) → Each P (map f (keep t k (filter p (range (suc k) l))))
      go true e ih = (h k (omega arith) e, ih)
      go false e ih = ih

-- ---- a place

module _ (m : Matrix) where
  -- entry (r, c) is written
  abbrev is_written : (c r : ℕ) → Bool
  is_written c r = leb c r && is_in (columns_of m r) c

  abbrev entry_of : (c r : ℕ) → Triplet
  entry_of c r = triplet r c (entry m r c)

  module _ (i j : ℕ) (li : i < m.n) where
    column_at : (c : ℕ) → filter (is_at i j) (column_of m c) ≡ map (entry_of c) (filter (λ r. eqb r i && eqb c j) (filter (is_written c) (range 0 m.n)))
    unfolding column_of
    column_at c = filter_map (entry_of c) (is_at i j) (filter (is_written c) (range 0 m.n))

    -- another column has nothing there
    column-other : (c : ℕ) → c ≢ j → filter (is_at i j) (column_of m c) ≡ []
    column-other c d =
        column_at c ∙ ap (map (entry_of c)) (filter_none (λ r. eqb r i && eqb c j) (filter (is_written c) (range 0 m.n)) (λ v h. rw (ne_eqb c j d) (and_false (eqb v i))))

    -- column j has the entry if it is written
    column-own : filter (is_at i j) (column_of m j) ≡ keep (is_written j i) (entry_of j i) []
    column-own =
        let rows = filter (is_written j) (range 0 m.n) in
        let plain : filter (λ r. eqb r i && eqb j j) rows ≡ filter (λ r. eqb r i) rows =
        filter_ext (λ r. eqb r i && eqb j j) (λ r. eqb r i) rows (λ v h. rw (eq-eqb j j refl) (and_comm (eqb v i) true)) in
        column_at j
        ∙ ap (map (entry_of j)) (plain ∙ filter_swap (is_written j) (λ r. eqb r i) (range 0 m.n) ∙ ap (filter (is_written j)) (filter-one i 0 m.n (omega arith) (omega arith)))
        ∙ go (is_written j i)
      where
        go : (b : Bool) → map (entry_of j) (keep b i []) ≡ keep b (entry_of j i) []
        go true = refl
        go false = refl

    -- what is written of (i, j)
    pub lower_at : j < m.n → filter (is_at i j) (lower m) ≡ keep (leb j i && is_in (columns_of m i) j) (triplet i j (entry m i j)) []
    unfolding lower
    lower_at lj =
        filter_pieces (is_at i j) (column_of m) (range 0 m.n)
        ∙ pieces_one (λ c. filter (is_at i j) (column_of m c)) 0 m.n j (omega arith) (omega arith) (λ c a b d. column-other c d) ∙ column-own

-- ---- all places

module _ (m : Matrix) (ok : is_matrix m ≡ true) where
  lower-fits : Each (Fits m.n) (lower m)
  unfolding lower column_of within
  lower-fits =
      each_pieces (Fits m.n) (column_of m) 0 m.n (λ j a b.
      each_passing (Fits m.n) (entry_of m j) (is_written m j) 0 m.n (λ i l t. fits i j (omega arith) (leb-true j i (and_left (leb j i) (is_in (columns_of m i) j) t))))
    where
      fits : (i j : ℕ) → i < m.n → j ≤ i → Fits m.n (triplet i j (entry m i j))
      fits i j l h = rw (le-leb 1 (suc j) (omega arith), le-leb (suc j) (suc i) (omega arith), le-leb (suc i) m.n l, le-leb _ max_value (small-entry m ok i j))

  -- the entries are such that a text may hold them
  pub lower-stored : Stored m.n (lower m)
  lower-stored = record { fits = lower-fits; once = λ i j li lj. rw (lower_at m i j li lj) (one (is_written m j i) (entry_of m j i)) }
    where
      one : (b : Bool) (e : Triplet) → length (keep b e []) ≤ 1
      one true e = omega arith
      one false e = omega arith
