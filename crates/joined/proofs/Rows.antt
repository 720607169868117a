-- The joined net's entries on and below the diagonal, row by row.
use mathlib.Core.Path.{◌≡◌, refl, sym, ap, ◌∙◌}
use mathlib.Core.Logic.{inl, inr, ⊎_elim, ◌≢◌}
use mathlib.Core.Bool.{Bool, true, false, not, ◌||◌, ◌&&◌, cond}
use mathlib.Core.List.{List, [], ◌∷◌, ◌++◌}
use Prim.Native.Nat.{ℕ, suc, ◌+◌, ◌≤◌, ◌<◌}
use native.Mathlib.Omega.{arith}
use lib.Dec.{eqb, ltb, leb}
use lib.IntN.{ℤ, pos, ◌+ℤ◌, +ℤ_idl}
use lib.ListN.{length, get_or, replicate, length-append}
use borrow.Author.Tests.{leb-true, ltb-true, ltb-false, lt-ltb, le-ltb, le-leb, eq-eqb, ne_eqb, not-true}
use Rattle.base.specs.Lists.{filter, keep, all, is_in, position_of}
use Rattle.base.specs.Integers.{within}
use Rattle.base.proofs.Booleans.{and_left, and_right, and_false, or_true, or_false, both_ways, clash, is_false, same_or}
use Rattle.base.proofs.Positions.{position_at}
use Rattle.base.proofs.Each.{Each, each_append}
use Rattle.base.proofs.Lists.{all_append, in_get, filter-append, get_d_zeros}
use Rattle.matrix.specs.Limits.{max_rows, max_entries, max_value}
use Rattle.matrix.specs.Matrix.{Matrix, part_of, columns_of, values_of, lookup, entry, ascending, is_matrix, lower_entries}
use Rattle.matrix.proofs.Ascending.{ascending_less, lookup-get}
use Rattle.matrix.proofs.Checks.{matrix_tidy}
use Rattle.matrix.proofs.Matrix.{lookup_position, lookup-none, matrix_facts, column-low}
use Rattle.matrix.proofs.Symmetry.{row_lengths}
use Rattle.market.specs.Parse.{Triplet, triplet, is_at}
use Rattle.market.proofs.Accepted.{Inner}
use Rattle.market.proofs.Cells.{Low}
use Rattle.joined.specs.Joined.{are_places, stored_in, stiffness, joined, in_limits}
use Rattle.joined.specs.Code.Rows.{from_first, from_second, row_entries, tenant_of, are_small, is_inside, Before, FirstRow, SecondRow, Added, Broken, Sewing, Collected}
use Rattle.joined.proofs.Entries.{small-values}
use Rattle.joined.proofs.Gathering.{many-entries}
use Rattle.joined.proofs.Part.{Part, part_none, part_same, part-append, part-few}
use Rattle.joined.proofs.Places.{long, apart, at_low, from_at, at_from, from-none}
use Rattle.joined.proofs.Emitting.{small-append}
use Rattle.joined.proofs.Cells.{cells-each, cells-small, cells_free, cells-one}

-- ---- a row of a matrix, past the last one too

module _ (m : Matrix) (ok : is_matrix m ≡ true) (i : ℕ) where
  pub row-ascends : ascending (columns_of m i) ≡ true
  unfolding columns_of part_of ascending
  row-ascends = go (ltb i m.n) refl
    where
      go : (b : Bool) → ltb i m.n ≡ b → ascending (columns_of m i) ≡ true
      go true e = ((matrix_facts m ok).row i (ltb-true i m.n e)).ascends
      go false e = rw e

  pub row-beside : length (columns_of m i) ≡ length (values_of m i)
  unfolding columns_of values_of part_of
  row-beside = go (ltb i m.n) refl
    where
      go : (b : Bool) → ltb i m.n ≡ b → length (columns_of m i) ≡ length (values_of m i)
      go true e = row_lengths m (matrix_tidy m ok).shape i (ltb-true i m.n e) refl refl
      go false e = rw e

-- past the last row there is nothing
pub part-past : {A : Type 0} (m : Matrix) (xs : List A) (i : ℕ) → m.n ≤ i → part_of m xs i ≡ []
unfolding part_of
part-past m xs i l = rw (le-ltb i m.n l)

-- ascending columns stand once
ascending-once : (cs : List ℕ) → ascending cs ≡ true → (k l : ℕ) → k < length cs → l < length cs → get_or cs k 0 ≡ get_or cs l 0 → k ≡ l
ascending-once cs h k l a b e = go (ltb k l) refl (ltb l k) refl
  where
    go : (s : Bool) → ltb k l ≡ s → (t : Bool) → ltb l k ≡ t → k ≡ l
    go true p t q = absurd (omega (arith, ascending_less cs k l h (ltb-true k l p) b))
    go false p true q = absurd (omega (arith, ascending_less cs l k h (ltb-true l k q) a))
    go false p false q = omega (arith, ltb-false k l p, ltb-false l k q)

module _ (a b : Matrix) (places : List ℕ) (n : ℕ) (w : Sewing a b places n) (i : ℕ) (l : i < n) where
  abbrev cs : List ℕ
  cs = columns_of a i

  abbrev vs : List ℤ
  vs = values_of a i

  abbrev ds : List ℕ
  ds = columns_of b (position_of places i)

  abbrev ws : List ℤ
  ws = values_of b (position_of places i)

  -- the row's entries
  abbrev pub new : List Triplet
  new = row_entries i places cs vs ds ws

  abbrev second : ℕ → ℤ
  second c = lookup (position_of places c) ds ws

  abbrev firsts : List Triplet
  firsts = from_first i cs vs second (length cs)

  abbrev seconds : List Triplet
  seconds = from_second i places ds ws (is_in cs) (length ds)

  -- ---- what stands in a cell

  first_cell : (r c : ℕ) → filter (is_at r c) firsts ≡ cond (eqb r i && (is_in cs c && leb c i)) (triplet i c (lookup c cs vs +ℤ second c) ∷ []) []
  first_cell r c = go (is_in cs c) refl
    where
      go : (t : Bool) → is_in cs c ≡ t → filter (is_at r c) firsts ≡ cond (eqb r i && (t && leb c i)) (triplet i c (lookup c cs vs +ℤ second c) ∷ []) []
      go true e =
          let p = position_at cs c e in
          cells-one i (λ c. leb c i) (λ k. get_or cs k 0) (λ k. get_or vs k (pos 0) +ℤ second (get_or cs k 0)) r c (length cs) (position_of cs c) p.0 p.1 (λ k m f. ascending-once cs (row-ascends a w.first i) k (position_of cs c) m p.0 (f ∙ sym p.1))
          ∙ rw (p.1, lookup_position c cs vs (row-beside a w.first i))
      go false e =
          cells_free i (λ c. leb c i) (λ k. get_or cs k 0) (λ k. get_or vs k (pos 0) +ℤ second (get_or cs k 0)) r c (length cs) (λ k m f. clash (in_get cs k m) (rw (← f) at e))
          ∙ rw (and_false (eqb r i))

  -- a column of the second net's row is below its rows, and comes from its place
  second-low : (k : ℕ) → k < length ds → get_or ds k 0 < b.n
  second-low k m = column-low b w.second (position_of places i) (get_or ds k 0) (in_get ds k m)

  second_from : (k : ℕ) → k < length ds → position_of places (get_or places (get_or ds k 0) 0) ≡ get_or ds k 0
  second_from k m = from_at a b places w.placed (get_or ds k 0) (second-low k m)

  second-cell : (r c : ℕ) → filter (is_at r c) seconds ≡ cond (eqb r i && (is_in ds (position_of places c) && (leb c i && not (is_in cs c)))) (triplet i c (second c) ∷ []) []
  second-cell r c = go (is_in ds (position_of places c)) refl
    where
      go : (t : Bool) → is_in ds (position_of places c) ≡ t → filter (is_at r c) seconds ≡ cond (eqb r i && (t && (leb c i && not (is_in cs c)))) (triplet i c (second c) ∷ []) []
      go true e =
          let p = position_at ds (position_of places c) e in
          let q = position_of ds (position_of places c) in
          let at : get_or places (get_or ds (position_of ds (position_of places c)) 0) 0 ≡ c = ap (λ (k : ℕ). get_or places k 0) p.1 ∙ at_from a b places w.placed c (column-low b w.second (position_of places i) (position_of places c) e) in
          cells-one i (λ c. leb c i && not (is_in cs c)) (λ k. get_or places (get_or ds k 0) 0) (λ k. get_or ws k (pos 0)) r c (length ds) q p.0 at
          (λ k m f. ascending-once ds (row-ascends b w.second (position_of places i)) k q m p.0 (sym (second_from k m) ∙ ap (position_of places) f ∙ sym p.1))
          ∙ rw (lookup_position (position_of places c) ds ws (row-beside b w.second (position_of places i)))
      go false e =
          cells_free i (λ c. leb c i && not (is_in cs c)) (λ k. get_or places (get_or ds k 0) 0) (λ k. get_or ws k (pos 0)) r c (length ds) (λ k m f. clash (in_get ds k m) (ap (is_in ds) (sym (second_from k m) ∙ ap (position_of places) f) ∙ e))
          ∙ rw (and_false (eqb r i))

  row-cell : (r c : ℕ) → filter (is_at r c) new ≡ cond (eqb r i && (stored_in a b places r c && leb c r)) (triplet r c (stiffness a b places r c) ∷ []) []
  unfolding row_entries stored_in stiffness entry
  row-cell r c = filter-append (is_at r c) firsts seconds ∙ rw (first_cell r c, second-cell r c) (⊎_elim (λ e. rw e (rw (eq-eqb i i refl) (go (is_in cs c) refl (is_in ds (position_of places c)) (leb c i)))) (λ d. rw (ne_eqb r i d)) (same_or r i))
    where
      go : (s : Bool) → is_in cs c ≡ s → (t u : Bool) → cond (s && u) (triplet i c (lookup c cs vs +ℤ second c) ∷ []) [] ++ cond (t && (u && not s)) (triplet i c (second c) ∷ []) [] ≡ cond ((s || t) && u) (triplet i c (lookup c cs vs +ℤ second c) ∷ []) []
      go true e true true = refl
      go true e true false = refl
      go true e false true = refl
      go true e false false = refl
      go false e true true = rw (lookup-none c cs vs e, +ℤ_idl (second c))
      go false e true false = refl
      go false e false u = refl

  pub row-part : Part n (stiffness a b places) (λ r c. eqb r i && (stored_in a b places r c && leb c r)) new
  unfolding row_entries
  row-part = record {
    low = each_both Low (λ c v h. h);
    inner = each_both (Inner n) (λ c v h. (l, omega arith));
    cells = row-cell;
  }
    where
      each_both : (P : Triplet → Type 0) → ((c : ℕ) (v : ℤ) → c ≤ i → P (triplet i c v)) → Each P (firsts ++ seconds)
      each_both P h =
          each_append P firsts seconds
          (cells-each i (λ c. leb c i) (λ k. get_or cs k 0) (λ k. get_or vs k (pos 0) +ℤ second (get_or cs k 0)) P (length cs) (λ k m e. h _ _ (leb-true (get_or cs k 0) i e)))
          (cells-each i (λ c. leb c i && not (is_in cs c)) (λ k. get_or places (get_or ds k 0) 0) (λ k. get_or ws k (pos 0)) P (length ds) (λ k m e. h _ _ (leb-true (get_or places (get_or ds k 0) 0) i (and_left (leb (get_or places (get_or ds k 0) 0) i) (not (is_in cs (get_or places (get_or ds k 0) 0))) e))))

  -- ---- where the joined net is within its limits, so are they

  module _ (k : ℕ) (m : k < length cs) where
    first-stored : stored_in a b places i (get_or cs k 0) ≡ true
    unfolding stored_in
    first-stored = rw (in_get cs k m)

    first-value : stiffness a b places i (get_or cs k 0) ≡ get_or vs k (pos 0) +ℤ second (get_or cs k 0)
    unfolding stiffness entry
    first-value = rw (lookup-get cs vs k (row-ascends a w.first i) m)

  module _ (k : ℕ) (m : k < length ds) where
    abbrev at : ℕ
    at = get_or places (get_or ds k 0) 0

    second-stored : stored_in a b places i at ≡ true
    unfolding stored_in
    second-stored = rw (second_from k m, in_get ds k m) (or_true (is_in cs at))

    second-value : is_in cs at ≡ false → stiffness a b places i at ≡ get_or ws k (pos 0)
    unfolding stiffness entry
    second-value free = rw (lookup-none at cs vs free, second_from k m, lookup-get ds ws k (row-ascends b w.second (position_of places i)) m) (+ℤ_idl (get_or ws k (pos 0)))

  row_small : in_limits (joined a b places) ≡ true → are_small new ≡ true
  unfolding row_entries are_small
  row_small fit =
      all_append (λ (t : Triplet). within max_value t.value) firsts seconds
      ∙ rw (
        cells-small i (λ c. leb c i) (λ k. get_or cs k 0) (λ k. get_or vs k (pos 0) +ℤ second (get_or cs k 0)) (length cs) first_small,
        cells-small i (λ c. leb c i && not (is_in cs c)) (λ k. get_or places (get_or ds k 0) 0) (λ k. get_or ws k (pos 0)) (length ds) second-small,
      )
    where
      small : (c : ℕ) → c ≤ i → stored_in a b places i c ≡ true → within max_value (stiffness a b places i c) ≡ true
      small c k s = small-values a b places w.first w.second w.placed fit i c (rw (← w.rows) l) (rw (← w.rows) (omega arith)) s

      first_small : (k : ℕ) → k < length cs → leb (get_or cs k 0) i ≡ true → within max_value (get_or vs k (pos 0) +ℤ second (get_or cs k 0)) ≡ true
      first_small k m e = rw (first-value k m) at (small (get_or cs k 0) (leb-true (get_or cs k 0) i e) (first-stored k m))

      second-small : (k : ℕ) (m : k < length ds) → leb (at k m) i && not (is_in cs (at k m)) ≡ true → within max_value (get_or ws k (pos 0)) ≡ true
      second-small k m e =
          rw (second-value k m (not-true (is_in cs (at k m)) (and_right (leb (at k m) i) (not (is_in cs (at k m))) e)))
          at (small (at k m) (leb-true (at k m) i (and_left (leb (at k m) i) (not (is_in cs (at k m))) e)) (second-stored k m))

-- ---- the rows as they are handed over

pub entries-same : (i : ℕ) (places : List ℕ) {cs cs' ds ds' : List ℕ} {vs vs' ws ws' : List ℤ} → cs ≡ cs' → vs ≡ vs' → ds ≡ ds' → ws ≡ ws' → row_entries i places cs vs ds ws ≡ row_entries i places cs' vs' ds' ws'
entries-same i places e f g h = rw (e, f, g, h)

pub first-row : (m : Matrix) → is_matrix m ≡ true → (i : ℕ) {cs : List ℕ} {vs : List ℤ} → cs ≡ columns_of m i → vs ≡ values_of m i → FirstRow cs vs
first-row m ok i e f = rw (e, f) (record { beside = row-beside m ok i; low = λ k l. omega (arith, column-low m ok i (get_or (columns_of m i) k 0) (in_get (columns_of m i) k l), (matrix_facts m ok).few) })

pub second-row : (a b : Matrix) (places : List ℕ) (n : ℕ) → Sewing a b places n → (r : ℕ) {ds : List ℕ} {ws : List ℤ} → ds ≡ columns_of b r → ws ≡ values_of b r → SecondRow places ds ws
second-row a b places n w r e f = rw (e, f) (record {
  beside = row-beside b w.second r;
  ascends = row-ascends b w.second r;
  apart = apart a b places w.placed;
  inside = λ k l. omega (arith, low k l, long a b places w.placed);
  low = λ k l. omega (arith, at_low a b places w.placed (get_or (columns_of b r) k 0) (low k l), w.rows, w.few);
})
  where
    low : (k : ℕ) → k < length (columns_of b r) → get_or (columns_of b r) k 0 < b.n
    low k l = column-low b w.second r (get_or (columns_of b r) k 0) (in_get (columns_of b r) k l)

-- the second net's row, by its tenant
pub tenant_row : (a b : Matrix) (places : List ℕ) → are_places a b places ≡ true → (i : ℕ) {tenant r : ℕ} → tenant ≡ tenant_of places i → (tenant ≡ 0 → r ≡ b.n) → ((k : ℕ) → tenant ≡ suc k → r ≡ k) → r ≡ position_of places i
unfolding tenant_of
tenant_row a b places h i {tenant} {r} e none some = go (is_in places i) refl e
  where
    go : (t : Bool) → is_in places i ≡ t → tenant ≡ cond t (suc (position_of places i)) 0 → r ≡ position_of places i
    go true q f = some (position_of places i) f
    go false q f = none f ∙ sym (from-none a b places h i q)

-- a table in which nothing is marked
pub zeros-before : Before 1 (replicate max_rows 0)
zeros-before c = omega (arith, get_d_zeros max_rows c)

-- ---- the rows before row i

-- of entries that are small, those of a cell are
small-filter : (q : Triplet → Bool) (ts : List Triplet) → are_small ts ≡ true → are_small (filter q ts) ≡ true
unfolding are_small
small-filter q [] h = refl
small-filter q (t ∷ ts) h = go (q t) (small-filter q ts (and_right (within max_value t.value) (all (λ (t : Triplet). within max_value t.value) ts) h))
  where
    go : (b : Bool) → all (λ (t : Triplet). within max_value t.value) (filter q ts) ≡ true → all (λ (t : Triplet). within max_value t.value) (keep b t (filter q ts)) ≡ true
    go true ih = rw (and_left (within max_value t.value) (all (λ (t : Triplet). within max_value t.value) ts) h) ih
    go false ih = ih

module _ (a b : Matrix) (places : List ℕ) (n : ℕ) where
  -- the cells on and below the diagonal that are stored, of the rows before row i
  abbrev before : ℕ → ℕ → ℕ → Bool
  before i r c = ltb r i && (stored_in a b places r c && leb c r)

  -- they are the entries so far
  pub record Going (i : ℕ) (es : List Triplet) : Type 0 where
    pub part : Part n (stiffness a b places) (before i) es
    pub small : are_small es ≡ true

  pub going_start : Going 0 []
  unfolding are_small
  going_start = record { part = part_same n (stiffness a b places) (λ r c. sym (rw (le-ltb r 0 (omega arith)))) (part_none n (stiffness a b places)); small = refl }

  module _ (w : Sewing a b places n) {i : ℕ} {es : List Triplet} (g : Going i es) (l : i < n) where
    abbrev row : List Triplet
    row = new a b places n w i l

    next : (r c : ℕ) → before i r c || eqb r i && (stored_in a b places r c && leb c r) ≡ before (i + 1) r c
    next r c = ⊎_elim (λ e. rw e (rw (eq-eqb i i refl, le-ltb i i (omega arith), lt-ltb i (i + 1) (omega arith)))) (λ d. rw (ne_eqb r i d, or_false (ltb r i && (stored_in a b places r c && leb c r)), ltb_next d)) (same_or r i)
      where
        ltb_next : r ≢ i → ltb r (i + 1) ≡ ltb r i
        ltb_next d = both_ways (ltb r (i + 1)) (ltb r i) (λ e. lt-ltb r i (omega (arith, ltb-true r (i + 1) e, d))) (λ e. lt-ltb r (i + 1) (omega (arith, ltb-true r i e)))

    longer : Part n (stiffness a b places) (before (i + 1)) (es ++ row)
    longer = part_same n (stiffness a b places) next (part-append n (stiffness a b places) g.part (row-part a b places n w i l) apart)
      where
        apart : (r c : ℕ) → before i r c ≡ true → eqb r i && (stored_in a b places r c && leb c r) ≡ false
        apart r c e = rw (ne_eqb r i (λ q. omega (arith, ltb-true r i (and_left (ltb r i) (stored_in a b places r c && leb c r) e))))

    -- one row more
    pub going_row : {es' : List Triplet} → Added row es es' → Going (i + 1) es'
    going_row e = record {
      part = rw e.is longer;
      small = rw e.is (small-append es row ∙ rw (g.small, e.small));
    }

    -- or the joined net breaks a limit
    pub going_past : Broken row es → in_limits (joined a b places) ≡ false
    going_past (inl s) = is_false (λ fit. clash (row_small a b places n w i l fit) s)
    going_past (inr k) = many-entries a b places w.first w.second w.placed many
      where
        many : max_entries < lower_entries (joined a b places)
        many = unfold joined in
            rw (← w.rows)
            (omega (arith, k, length-append es row, part-few n (stiffness a b places) (stored_in a b places) longer (λ r c e. and_right (ltb r (i + 1)) (stored_in a b places r c && leb c r) e)))

  -- all rows
  inside_all : (es : List Triplet) → Each Low es → Each (Inner n) es → all (is_inside n) es ≡ true
  inside_all [] h q = refl
  inside_all (t ∷ ts) h q = rw (le-leb t.column t.row h.0, lt-ltb t.row n q.0.0) (inside_all ts h.1 q.1)

  pub going_end : {i : ℕ} {es : List Triplet} → Going i es → i ≡ n → Collected n (stored_in a b places) (stiffness a b places) es
  going_end {i} {es} g e = record {
    inside = inside_all es g.part.low g.part.inner;
    small = small;
    cells = λ r c k. g.part.cells r c ∙ ap (λ (t : Bool). cond t (triplet r c (stiffness a b places r c) ∷ []) []) (done r c k);
  }
    where
      done : (r c : ℕ) → r < n → before i r c ≡ stored_in a b places r c && leb c r
      done r c k = rw (lt-ltb r i (omega (arith, e)))

      small : (r c : ℕ) → c ≤ r → r < n → stored_in a b places r c ≡ true → within max_value (stiffness a b places r c) ≡ true
      small r c l k s = unfold are_small in
          let one : filter (is_at r c) es ≡ triplet r c (stiffness a b places r c) ∷ [] = g.part.cells r c ∙ rw (done r c k, s, le-leb c r l) in
          and_left (within max_value (stiffness a b places r c)) true (rw one at (small-filter (is_at r c) es g.small))
