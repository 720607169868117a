-- What entries and their mirror images have at each place of the full matrix.
use mathlib.Core.Path.{◌≡◌, refl, ◌∙◌}
use mathlib.Core.Bool.{Bool, true, false, not, cond, and_comm}
use mathlib.Core.List.{List, [], ◌∷◌, ◌++◌, map}
use Prim.Native.Nat.{ℕ, ◌≤◌, ◌<◌}
use native.Mathlib.Omega.{arith}
use lib.Dec.{eqb, leb}
use lib.IntN.{ℤ, pos}
use lib.ListN.{length}
use borrow.Author.Tests.{eqb-true, eqb-false, leb-true, leb-false}
use Rattle.base.specs.Lists.{filter, keep, concat, is_empty}
use Rattle.base.proofs.Booleans.{is_false}
use Rattle.base.proofs.Each.{Each, each_map}
use Rattle.base.proofs.Lists.{filter-append}
use Rattle.market.specs.Parse.{Triplet, triplet, is_at}
use Rattle.market.specs.FullRows.{both, full, cell}
use Rattle.market.proofs.Stored.{Fits, Stored, fits-inside, at_place}

-- ---- one entry

-- the value of an entry, at another place
abbrev pub moved : ℕ → ℕ → Triplet → Triplet
moved i j e = triplet i j e.value

-- on or below the diagonal
abbrev pub Low : Triplet → Type 0
Low e = e.column ≤ e.row

module _ (i j : ℕ) (e : Triplet) (low : Low e) where
  abbrev mirror : Triplet
  mirror = triplet e.column e.row e.value

  -- on and below the diagonal: the entry itself
  both_below : j ≤ i → filter (is_at i j) (both e) ≡ map (moved i j) (keep (is_at i j e) e [])
  both_below h = rw (other (eqb e.row e.column) refl) (own (is_at i j e) refl)
    where
      other : (b : Bool) → eqb e.row e.column ≡ b → filter (is_at i j) (cond b [] (mirror ∷ [])) ≡ []
      other true d = refl
      other false d =
          let off : is_at i j mirror ≡ false = is_false (λ t. let (a, b) = at_place i j mirror t in eqb-false e.row e.column d (omega arith)) in
          rw off

      own : (b : Bool) → is_at i j e ≡ b → keep b e [] ≡ map (moved i j) (keep b e [])
      own true t = let (a, b) = at_place i j e t in rw (← a, ← b)
      own false t = refl

  -- above it: its mirror image
  both_above : i < j → filter (is_at i j) (both e) ≡ map (moved i j) (keep (is_at j i e) e [])
  both_above h =
      let off : is_at i j e ≡ false = is_false (λ t. let (a, b) = at_place i j e t in omega arith) in
      rw (off, and_comm (eqb e.row j) (eqb e.column i)) (other (eqb e.row e.column) refl (is_at i j mirror) refl)
    where
      other : (b : Bool) → eqb e.row e.column ≡ b → (t : Bool) → is_at i j mirror ≡ t → filter (is_at i j) (cond b [] (mirror ∷ [])) ≡ map (moved i j) (keep t e [])
      other true d true t = let (a, b) = at_place i j mirror t in absurd (omega (arith, eqb-true e.row e.column d))
      other true d false t = refl
      other false d true t = let (a, b) = at_place i j mirror t in rw (t, ← a, ← b)
      other false d false t = rw t

-- ---- all entries

module _ (i j : ℕ) where
  -- one entry more
  cell_more : (r c : ℕ) (e : Triplet) (es : List Triplet) → filter (is_at i j) (both e) ≡ map (moved i j) (keep (is_at r c e) e []) → cell es i j ≡ map (moved i j) (filter (is_at r c) es)
      → cell (e ∷ es) i j ≡ map (moved i j) (filter (is_at r c) (e ∷ es))
  unfolding cell full
  cell_more r c e es one rest = filter-append (is_at i j) (both e) (concat (map both es)) ∙ rw (one, rest) (go (is_at r c e))
    where
      go : (b : Bool) → map (moved i j) (keep b e []) ++ map (moved i j) (filter (is_at r c) es) ≡ map (moved i j) (keep b e (filter (is_at r c) es))
      go true = refl
      go false = refl

  cell-none : cell [] i j ≡ []
  unfolding cell full
  cell-none = refl

  pub cell_below : j ≤ i → (es : List Triplet) → Each Low es → cell es i j ≡ map (moved i j) (filter (is_at i j) es)
  cell_below h [] l = cell-none
  cell_below h (e ∷ es) l = cell_more i j e es (both_below i j e l.0 h) (cell_below h es l.1)

  pub cell_above : i < j → (es : List Triplet) → Each Low es → cell es i j ≡ map (moved i j) (filter (is_at j i) es)
  cell_above h [] l = cell-none
  cell_above h (e ∷ es) l = cell_more j i e es (both_above i j e l.0 h) (cell_above h es l.1)

-- what is stored for (i, j): its own entry on and below the diagonal, above it that of (j, i)
unfoldable pub stored_at : List Triplet → (i j : ℕ) → List Triplet
stored_at es i j = cond (leb j i) (filter (is_at i j) es) (filter (is_at j i) es)

-- the same for (j, i)
pub stored-both : (es : List Triplet) (i j : ℕ) → stored_at es i j ≡ stored_at es j i
unfolding stored_at
stored-both es i j = go (leb j i) refl (leb i j) refl
  where
    go : (a : Bool) → leb j i ≡ a → (b : Bool) → leb i j ≡ b → cond a (filter (is_at i j) es) (filter (is_at j i) es) ≡ cond b (filter (is_at j i) es) (filter (is_at i j) es)
    go true e true f = let q : i ≡ j = omega (arith, leb-true j i e, leb-true i j f) in rw q
    go true e false f = refl
    go false e true f = refl
    go false e false f = absurd (omega (arith, leb-false j i e, leb-false i j f))

-- its value
abbrev pub first : List Triplet → ℤ
first [] = pos 0
first (e ∷ es) = e.value

module _ (es : List Triplet) where
  -- whether something is stored for (i, j)
  abbrev pub has : ℕ → ℕ → Bool
  has i j = not (is_empty (stored_at es i j))

  abbrev pub value_at : ℕ → ℕ → ℤ
  value_at i j = first (stored_at es i j)

-- every entry that is stored for (i, j) has a property that every entry has
pub first-each : (P : ℤ → Type 0) → P (pos 0) → (es : List Triplet) → Each (λ (e : Triplet). P e.value) es → (i j : ℕ) → P (value_at es i j)
unfolding stored_at
first-each P z es h i j = go (leb j i)
  where
    of : (p : Triplet → Bool) (es : List Triplet) → Each (λ (e : Triplet). P e.value) es → P (first (filter p es))
    of p [] h = z
    of p (e ∷ es) h = at (p e) (of p es h.1)
      where
        at : (b : Bool) → P (first (filter p es)) → P (first (keep b e (filter p es)))
        at true ih = h.0
        at false ih = ih

    go : (b : Bool) → P (first (cond b (filter (is_at i j) es) (filter (is_at j i) es)))
    go true = of (is_at i j) es h
    go false = of (is_at j i) es h

module _ {n : ℕ} {es : List Triplet} (s : Stored n es) (i j : ℕ) (li : i < n) (lj : j < n) where
  cell-stored : cell es i j ≡ map (moved i j) (stored_at es i j)
  unfolding stored_at
  cell-stored = go (leb j i) refl
    where
      low : Each Low es
      low = each_map (Fits n) Low (λ e f. omega (arith, (fits-inside n e f).below)) es s.fits

      go : (b : Bool) → leb j i ≡ b → cell es i j ≡ map (moved i j) (cond b (filter (is_at i j) es) (filter (is_at j i) es))
      go true t = cell_below i j (leb-true j i t) es low
      go false t = cell_above i j (leb-false j i t) es low

  stored-once : length (stored_at es i j) ≤ 1
  unfolding stored_at
  stored-once = go (leb j i)
    where
      go : (b : Bool) → length (cond b (filter (is_at i j) es) (filter (is_at j i) es)) ≤ 1
      go true = s.once i j li lj
      go false = s.once j i lj li

  -- a cell has one entry or none
  pub cell-is : cell es i j ≡ cond (has es i j) (triplet i j (value_at es i j) ∷ []) []
  cell-is = cell-stored ∙ go (stored_at es i j) stored-once
    where
      go : (xs : List Triplet) → length xs ≤ 1 → map (moved i j) xs ≡ cond (not (is_empty xs)) (triplet i j (first xs) ∷ []) []
      go [] l = refl
      go (x ∷ []) l = refl
      go (x ∷ y ∷ xs) l = absurd (omega arith)
