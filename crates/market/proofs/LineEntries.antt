-- The matrix of an accepted text has the entries of its lines.
use mathlib.Core.Path.{◌≡◌, refl, sym, ap, ◌∙◌}
use mathlib.Core.Logic.{◌⊎◌, inl, inr}
use mathlib.Core.Bool.{Bool, true, false, not, cond}
use mathlib.Core.List.{List, [], ◌∷◌}
use Prim.Native.Nat.{ℕ, ◌≤◌, ◌<◌}
use native.Mathlib.Omega.{arith}
use lib.Dec.{leb}
use lib.IntN.{pos}
use lib.ListN.{length, get_or}
use borrow.Author.Tests.{le-leb, eq-eqb}
use Rattle.base.specs.Lists.{filter, is_in, is_empty}
use Rattle.base.proofs.Booleans.{clash}
use Rattle.matrix.specs.Matrix.{Matrix, columns_of}
use Rattle.matrix.specs.Tabulated.{tabulated}
use Rattle.matrix.proofs.Matrix.{column-row}
use Rattle.matrix.proofs.Tabulated.{tab_low, tab_stored, tab_entry}
use Rattle.market.specs.FullRows.{of_triplets}
use Rattle.market.specs.Parse.{Triplet, triplet, is_at}
use Rattle.market.specs.Texts.{entry_on, StoredAt, SameEntries}
use Rattle.market.proofs.Accepted.{Accepted}
use Rattle.market.proofs.Stored.{Fits, fits-inside, at_place}
use Rattle.market.proofs.Once.{each-get, filter-one, filter_where}
use Rattle.market.proofs.Cells.{stored_at, stored-both, has, value_at, first}
use Rattle.market.proofs.TextMatrix.{text-is}

module _ {n : ℕ} {es : List Triplet} (a : Accepted n es) where
  abbrev none : Triplet
  none = triplet 0 0 (pos 0)

  abbrev table : Matrix
  table = tabulated n (has es) (value_at es)

  module _ (k : ℕ) (l : k < length es) where
    abbrev e : Triplet
    e = entry_on es k

    in_rows_lem : (e.row < n) × (e.column < n) × (e.column ≤ e.row)
    unfolding entry_on
    in_rows_lem = let i = fits-inside n (get_or es k none) (each-get (Fits n) es none a.stored.fits k l) in (omega (arith, i.last), omega (arith, i.below, i.last), omega (arith, i.below))

    -- it alone is stored there
    stored_there : stored_at es e.row e.column ≡ e ∷ []
    unfolding stored_at entry_on
    stored_there =
        let own : is_at e.row e.column e ≡ true = rw (eq-eqb e.row e.row refl, eq-eqb e.column e.column refl) in
        rw (le-leb e.column e.row in_rows_lem.2) (filter-one (is_at e.row e.column) none es k l own (a.stored.once e.row e.column in_rows_lem.0 in_rows_lem.1))

    at_place-of : (i j : ℕ) → i < n → j < n → stored_at es i j ≡ e ∷ [] → StoredAt table i j e.value
    at_place-of i j li lj s =
        let there : is_in (columns_of table i) j ≡ true = tab_stored n (has es) (value_at es) i j li lj ∙ ap (λ (xs : List Triplet). not (is_empty xs)) s in
        record { there = there; value = tab_entry n (has es) (value_at es) i j li there ∙ ap first s }

  some_of : (xs : List Triplet) → not (is_empty xs) ≡ true → 1 ≤ length xs
  some_of [] h = absurd (clash h refl)
  some_of (x ∷ xs) h = omega arith

  -- what is stored comes from a line
  from-line : (r c : ℕ) → is_in (columns_of table r) c ≡ true
      → (i : ℕ) × (i < length es) × ((((entry_on es i).row ≡ r) × ((entry_on es i).column ≡ c)) ⊎ (((entry_on es i).row ≡ c) × ((entry_on es i).column ≡ r)))
  unfolding entry_on stored_at tabulated
  from-line r c h =
      let lr : r < n = column-row table r c h in
      let lc = tab_low n (has es) (value_at es) r c lr h in
      found (leb c r) (sym (tab_stored n (has es) (value_at es) r c lr lc) ∙ h)
    where
      place_of : (i j : ℕ) → 1 ≤ length (filter (is_at i j) es) → (k : ℕ) × (k < length es) × (((entry_on es k).row ≡ i) × ((entry_on es k).column ≡ j))
      place_of i j s = let (k, l, t) = filter_where (is_at i j) none es s in (k, l, at_place i j (get_or es k none) t)

      found : (b : Bool) → not (is_empty (cond b (filter (is_at r c) es) (filter (is_at c r) es))) ≡ true
          → (i : ℕ) × (i < length es) × ((((entry_on es i).row ≡ r) × ((entry_on es i).column ≡ c)) ⊎ (((entry_on es i).row ≡ c) × ((entry_on es i).column ≡ r)))
      found true s = let (k, l, t) = place_of r c (some_of (filter (is_at r c) es) s) in (k, l, inl t)
      found false s = let (k, l, t) = place_of c r (some_of (filter (is_at c r) es) s) in (k, l, inr t)

  pub same_entries : SameEntries (of_triplets n es) n es
  unfolding of_triplets
  same_entries = record {
    rows = refl;
    stored = λ k l. let (i, j, b) = in_rows_lem k l in rw (text-is a) (at_place-of k l (entry_on es k).row (entry_on es k).column i j (stored_there k l));
    mirrored = λ k l. let (i, j, b) = in_rows_lem k l in rw (text-is a) (at_place-of k l (entry_on es k).column (entry_on es k).row j i (stored-both es (entry_on es k).column (entry_on es k).row ∙ stored_there k l));
    only = λ r c h. from-line r c (rw (text-is a) at h);
  }
