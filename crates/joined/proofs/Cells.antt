-- Some entries of one row, each column at most once: what stands in a cell.
use mathlib.Core.Path.{◌≡◌, refl, sym, ap, ◌∙◌}
use mathlib.Core.Logic.{◌≢◌}
use mathlib.Core.Bool.{Bool, true, false, ◌&&◌, cond}
use mathlib.Core.List.{List, [], ◌∷◌, ◌++◌, map, map-append}
use Prim.Native.Nat.{ℕ, zero, suc, ◌+◌, ◌-◌, ◌≤◌, ◌<◌}
use native.Mathlib.Numerals.{add-one}
use native.Mathlib.Omega.{arith}
use lib.Dec.{eqb}
use lib.IntN.{ℤ}
use borrow.Author.Tests.{eq-eqb, ne_eqb}
use Rattle.base.specs.Lists.{filter, keep, all, concat, range}
use Rattle.base.specs.Integers.{within}
use Rattle.base.proofs.Booleans.{and_false, eqb_sym}
use Rattle.base.proofs.Each.{Each, each_append}
use Rattle.base.proofs.Lists.{all_append, concat-append, range-append}
use Rattle.base.proofs.Pieces.{filter_pieces, pieces_snoc, pieces_same, pieces_none, pieces_one}
use Rattle.matrix.specs.Limits.{max_value}
use Rattle.market.specs.Parse.{Triplet, triplet, is_at}
use Rattle.joined.specs.Code.Rows.{cells_of, are_small}

module _ (i : ℕ) (passes : ℕ → Bool) (column : ℕ → ℕ) (value : ℕ → ℤ) where
  abbrev piece : ℕ → List Triplet
  piece l = cond (passes (column l)) (triplet i (column l) (value l) ∷ []) []

  pub cells-none : cells_of i passes column value 0 ≡ []
  unfolding cells_of
  cells-none = refl

  -- one more
  pub cells-next : (k : ℕ) → cells_of i passes column value (k + 1) ≡ cells_of i passes column value k ++ piece k
  unfolding cells_of
  cells-next k = let z : 0 + k ≡ k = omega arith in rw (add-one k) (pieces_snoc piece 0 k ∙ ap (λ (j : ℕ). concat (map piece (range 0 k)) ++ piece j) z)

  -- the first k, and then the others
  pub cells-split : (k n : ℕ) → k ≤ n → cells_of i passes column value n ≡ cells_of i passes column value k ++ concat (map piece (range k (n - k)))
  unfolding cells_of
  cells-split k n l =
      let e : k + (n - k) ≡ n = omega arith in
      let z : 0 + k ≡ k = omega arith in
      ap (λ (j : ℕ). concat (map piece (range 0 j))) (sym e) ∙ ap (λ (r : List ℕ). concat (map piece r)) (range-append 0 k (n - k))
      ∙ ap concat (map-append piece (range 0 k) (range (0 + k) (n - k))) ∙ concat-append (map piece (range 0 k)) (map piece (range (0 + k) (n - k))) ∙ rw z

  -- what holds of each
  module _ (P : Triplet → Type 0) where
    pub cells-each : (k : ℕ) → ((l : ℕ) → l < k → passes (column l) ≡ true → P (triplet i (column l) (value l))) → Each P (cells_of i passes column value k)
    unfolding cells_of
    cells-each zero h = tt
    cells-each (suc k) h = let z : 0 + k ≡ k = omega arith in rw (pieces_snoc piece 0 k, z) (each_append P (concat (map piece (range 0 k))) (piece k) (cells-each k (λ l m. h l (omega arith))) (go (passes (column k)) refl))
      where
        go : (b : Bool) → passes (column k) ≡ b → Each P (cond b (triplet i (column k) (value k) ∷ []) [])
        go true e = (h k (omega arith) e, tt)
        go false e = tt

  pub cells-small : (k : ℕ) → ((l : ℕ) → l < k → passes (column l) ≡ true → within max_value (value l) ≡ true) → are_small (cells_of i passes column value k) ≡ true
  unfolding cells_of are_small
  cells-small zero h = refl
  cells-small (suc k) h = let z : 0 + k ≡ k = omega arith in rw (pieces_snoc piece 0 k, z) (all_append (λ (t : Triplet). within max_value t.value) (concat (map piece (range 0 k))) (piece k) ∙ rw (cells-small k (λ l m. h l (omega arith)), go (passes (column k)) refl))
    where
      go : (b : Bool) → passes (column k) ≡ b → all (λ (t : Triplet). within max_value t.value) (cond b (triplet i (column k) (value k) ∷ []) []) ≡ true
      go true e = rw (h k (omega arith) e)
      go false e = refl

  -- ---- a cell

  at_piece : (r c l : ℕ) → column l ≢ c → filter (is_at r c) (piece l) ≡ []
  at_piece r c l d = go (passes (column l))
    where
      go : (b : Bool) → filter (is_at r c) (cond b (triplet i (column l) (value l) ∷ []) []) ≡ []
      go true = rw (ne_eqb (column l) c d, and_false (eqb i r))
      go false = refl

  -- no column is c
  pub cells_free : (r c n : ℕ) → ((l : ℕ) → l < n → column l ≢ c) → filter (is_at r c) (cells_of i passes column value n) ≡ []
  unfolding cells_of
  cells_free r c n h = filter_pieces (is_at r c) piece (range 0 n) ∙ pieces_none (λ l. filter (is_at r c) (piece l)) 0 n (λ l a b. at_piece r c l (h l (omega arith)))

  -- one is
  pub cells-one : (r c n q : ℕ) → q < n → column q ≡ c → ((l : ℕ) → l < n → column l ≡ c → l ≡ q) → filter (is_at r c) (cells_of i passes column value n) ≡ cond (eqb r i && passes c) (triplet i c (value q) ∷ []) []
  unfolding cells_of
  cells-one r c n q l e h =
      filter_pieces (is_at r c) piece (range 0 n)
      ∙ pieces_one (λ l. filter (is_at r c) (piece l)) 0 n q (omega arith) (omega arith) (λ k a b d. at_piece r c k (λ f. d (h k (omega arith) f)))
      ∙ rw e (go (passes c))
    where
      own : (b : Bool) → keep (b && eqb c c) (triplet i c (value q)) [] ≡ cond (b && true) (triplet i c (value q) ∷ []) []
      own true = rw (eq-eqb c c refl)
      own false = refl

      go : (b : Bool) → filter (is_at r c) (cond b (triplet i c (value q) ∷ []) []) ≡ cond (eqb r i && b) (triplet i c (value q) ∷ []) []
      go true = rw (eqb_sym i r) (own (eqb r i))
      go false = rw (and_false (eqb r i))

-- the same entries, by tests and numbers that agree
pub cells_same : (i : ℕ) (passes passes' : ℕ → Bool) (column : ℕ → ℕ) (value value' : ℕ → ℤ) (n : ℕ) → ((l : ℕ) → l < n → passes (column l) ≡ passes' (column l)) → ((l : ℕ) → l < n → value l ≡ value' l)
    → cells_of i passes column value n ≡ cells_of i passes' column value' n
unfolding cells_of
cells_same i passes passes' column value value' n h g = pieces_same (piece i passes column value) (piece i passes' column value') 0 n (λ l a b. rw (h l (omega arith), g l (omega arith)))
