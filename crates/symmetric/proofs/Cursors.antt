-- Cursors: rows are met in ascending order, so the mirror of an entry below the diagonal stands at the cursor of its
-- own row.
use mathlib.Core.Path.{◌≡◌, refl, sym, ap, ◌∙◌, subst}
use mathlib.Core.Logic.{◌⊎◌, inl, inr, ◌≢◌}
use mathlib.Core.Bool.{Bool, true, false, ◌&&◌, ◌||◌, and-true}
use mathlib.Core.List.{List, [], ◌∷◌}
use Prim.Native.Nat.{ℕ, zero, suc, ◌+◌, ◌-◌, ◌≤◌, ◌<◌}
use native.Mathlib.Numerals.{add-one}
use native.Mathlib.Omega.{arith}
use lib.Dec.{eqb, ltb}
use lib.IntN.{ℤ, pos}
use lib.ListN.{length, get_or, take, set, length-set}
use lib.Seq.{take-suc, get_or-set_same, get_or-set_other}
use borrow.Author.Tests.{ltb-true, ltb-false, lt-ltb, eqb-true, eq-eqb, ne_eqb}
use Rattle.base.specs.Lists.{is_in, bit}
use Rattle.base.specs.Integers.{same}
use Rattle.base.proofs.Booleans.{and_left, and_right, or_false, same_or, clash, is_false}
use Rattle.base.proofs.Lists.{is_in-append, is_in-filter, length-filter-le}
use Rattle.base.proofs.Integers.{same_true, same_refl}
use Rattle.matrix.specs.Limits.{max_rows}
use Rattle.matrix.specs.Matrix.{Matrix, columns_of, values_of, lookup, entry}
use Rattle.matrix.specs.Code.Checks.{shaped, place_in}
use Rattle.symmetric.specs.Code.Cursors.{regular, Mirror, Met, Cursors}
use Rattle.matrix.proofs.Checks.{shape}
use Rattle.matrix.proofs.Ascending.{ascending_less, before-place, is_in-place, is_in-get, lookup-get, place-past, place-before, place-missing, place_more, take-place}
use Rattle.matrix.proofs.Rows.{length-columns, columns-in, values_in}
use Rattle.symmetric.proofs.Regular.{column-get, value-get, ascends, mirror-of, both_ways}

-- ---- what is met of a row

-- a greater bound
met_wider : (m : Matrix) {b i e : ℕ} (b' : ℕ) → b ≤ b' → Met m b i e → Met m b' i e
met_wider m b' h t = record { low = t.low; high = t.high; climbs = t.climbs; below = λ p a l. omega (arith, t.below p a l); mirror = t.mirror }

-- the entry at the end has a mirror, and its column is not below the bound
met_more : (m : Matrix) {b i e : ℕ} → Met m b i e → e < get_or m.starts (i + 1) 0 → b ≤ get_or m.columns e 0 → Mirror m i e → Met m (get_or m.columns e 0 + 1) i (e + 1)
met_more m {b} {i} {e} t h up r = record {
  low = omega (arith, t.low);
  high = omega arith;
  climbs = λ p a l. climbs p a l (same_or (p + 1) e);
  below = λ p a l. below p a l (same_or p e);
  mirror = λ p a l. mirror p a l (same_or p e);
}
  where
    climbs : (p : ℕ) → get_or m.starts i 0 ≤ p → p + 1 < e + 1 → (p + 1 ≡ e) ⊎ (p + 1 ≢ e) → get_or m.columns p 0 < get_or m.columns (p + 1) 0
    climbs p a l (inl q) = rw q (omega (arith, t.below p a (omega arith)))
    climbs p a l (inr d) = t.climbs p a (omega arith)

    below : (p : ℕ) → get_or m.starts i 0 ≤ p → p < e + 1 → (p ≡ e) ⊎ (p ≢ e) → get_or m.columns p 0 < get_or m.columns e 0 + 1
    below p a l (inl q) = rw q (omega arith)
    below p a l (inr d) = omega (arith, t.below p a (omega arith))

    mirror : (p : ℕ) → get_or m.starts i 0 ≤ p → p < e + 1 → (p ≡ e) ⊎ (p ≢ e) → Mirror m i p
    mirror p a l (inl q) = rw q r
    mirror p a l (inr d) = t.mirror p a (omega arith)

-- ---- a turn of the loop over a row

-- Row i is met up to place p, its columns are below `least`; the rows before it are met up to their cursors. In a
-- regular matrix the columns that are left are at least `least`, and the cursor of row j has passed its columns below
-- i, and column i too if row i has met column j.
pub record Turns (m : Matrix) (i p least : ℕ) (cursors : List ℕ) : Type 0 where
  pub size : m.n ≤ length cursors
  pub own : Met m least i p
  pub few : least ≤ i
  pub others : (j : ℕ) → j < i → Met m (i + 1) j (get_or cursors j 0)
  pub fresh : (j : ℕ) → j < i → least ≤ j → Met m i j (get_or cursors j 0)
  pub rest : regular m ≡ true → (q : ℕ) → p ≤ q → q < get_or m.starts (i + 1) 0 → least ≤ get_or m.columns q 0
  pub exact : regular m ≡ true → (j : ℕ) → j < i
      → get_or cursors j 0 ≡ get_or m.starts j 0 + (place_in (columns_of m j) i + bit (is_in (take (p - get_or m.starts i 0) (columns_of m i)) j))

pub turns-first : (m : Matrix) → shaped m ≡ true → {i : ℕ} → i < m.n → {cursors : List ℕ} → Cursors m i cursors → Turns m i (get_or m.starts i 0) 0 cursors
turns-first m h {i} l c = record {
  size = c.size;
  own = record {
    low = omega arith;
    high = (columns-in m h i l).rises;
    climbs = λ p a b. absurd (omega arith);
    below = λ p a b. absurd (omega arith);
    mirror = λ p a b. absurd (omega arith);
  };
  few = omega arith;
  others = λ j b. met_wider m (i + 1) (omega arith) (c.met j b);
  fresh = λ j b a. c.met j b;
  rest = λ g q a b. omega arith;
  exact = λ g j b. let e : get_or m.starts i 0 - get_or m.starts i 0 ≡ 0 = omega arith in rw e (omega (arith, c.exact g j b));
}

-- place p of row i holds a column below the diagonal
abbrev pub is_lower : (m : Matrix) (i p : ℕ) → Bool
is_lower m i p = ltb p (get_or m.starts (i + 1) 0) && ltb (get_or m.columns p 0) i

-- what stands at the cursor of row j is the mirror of the entry of row i in column j with the value v
abbrev pub meets : (m : Matrix) (i j q : ℕ) → ℤ → Bool
meets m i j q v = ltb q (get_or m.starts (j + 1) 0) && eqb (get_or m.columns q 0) i && same (get_or m.values q (pos 0)) v

-- every index of the turn is within its list
pub record Turn (m : Matrix) (p : ℕ) (cursors : List ℕ) : Type 0 where
  pub few : m.n ≤ max_rows
  pub column : get_or m.columns p 0 < m.n
  pub in_columns : p < length m.columns
  pub in_values : p < length m.values
  pub in_starts : get_or m.columns p 0 + 1 < length m.starts
  pub in_cursors : get_or m.columns p 0 < length cursors
  pub ends-columns : get_or m.starts (get_or m.columns p 0 + 1) 0 ≤ length m.columns
  pub ends-values : get_or m.starts (get_or m.columns p 0 + 1) 0 ≤ length m.values

module _ (m : Matrix) (h : shaped m ≡ true) {i : ℕ} (l : i < m.n) {p least : ℕ} {cursors : List ℕ} (t : Turns m i p least cursors) (low : is_lower m i p ≡ true) where
  -- the entry at p: its column and its value, and the cursor of its mirror's row
  abbrev j : ℕ
  j = get_or m.columns p 0

  abbrev q : ℕ
  q = get_or cursors j 0

  abbrev v : ℤ
  v = get_or m.values p (pos 0)

  pub turn_in : p < get_or m.starts (i + 1) 0
  turn_in = ltb-true p (get_or m.starts (i + 1) 0) (and_left (ltb p (get_or m.starts (i + 1) 0)) (ltb j i) low)

  j_low : j < i
  j_low = ltb-true j i (and_right (ltb p (get_or m.starts (i + 1) 0)) (ltb j i) low)

  j_row : j < m.n
  j_row = omega (arith, j_low)

  pub turn : Turn m p cursors
  turn = record {
    few = (shape m h).few;
    column = j_row;
    in_columns = omega (arith, turn_in, (columns-in m h i l).ends);
    in_values = omega (arith, turn_in, (values_in m h i l).ends);
    in_starts = (columns-in m h j j_row).starts-long;
    in_cursors = omega (arith, j_row, t.size);
    ends-columns = (columns-in m h j j_row).ends;
    ends-values = (values_in m h j j_row).ends;
  }

  -- place p as a place of row i
  abbrev k : ℕ
  k = p - get_or m.starts i 0

  k_is : get_or m.starts i 0 + k ≡ p
  k_is = omega (arith, t.own.low)

  in-row : k < length (columns_of m i)
  in-row = omega (arith, turn_in, length-columns m h i l, t.own.low)

  column-is : get_or (columns_of m i) k 0 ≡ j
  column-is = column-get m i l k (omega (arith, turn_in, k_is)) ∙ ap (λ (x : ℕ). get_or m.columns x 0) k_is

  value-is : regular m ≡ true → entry m i j ≡ v
  unfolding entry
  value-is g =
      ap (λ (c : ℕ). lookup c (columns_of m i) (values_of m i)) (sym column-is) ∙ lookup-get (columns_of m i) (values_of m i) k (ascends m g i l) in-row
      ∙ value-get m i l k (omega (arith, turn_in, k_is)) ∙ ap (λ (x : ℕ). get_or m.values x (pos 0)) k_is

  unmet : regular m ≡ true → is_in (take k (columns_of m i)) j ≡ false
  unmet g = subst (λ (c : ℕ). is_in (take k (columns_of m i)) c ≡ false) column-is (before-place (columns_of m i) k (ascends m g i l) in-row)

  -- a column below the least that may come: the columns do not ascend
  pub turn_falls : j < least → regular m ≡ false
  turn_falls f = is_false (λ g. omega (arith, t.rest g p (omega arith) turn_in))

  -- in a regular matrix the mirror stands at the cursor
  regular_meets : regular m ≡ true → meets m i j q v ≡ true
  unfolding entry
  regular_meets g =
      let ds = columns_of m j in
      let stored : is_in (columns_of m i) j ≡ true = subst (λ (c : ℕ). is_in (columns_of m i) c ≡ true) column-is (is_in-get (columns_of m i) k in-row) in
      let back = mirror-of m g i j l stored in
      let up = ascends m g j j_row in
      let at = is_in-place ds i up back.0 in
      let d = place_in ds i in
      let e : q ≡ get_or m.starts j 0 + d = t.exact g j j_low ∙ rw (unmet g) (omega arith) in
      let inside : get_or m.starts j 0 + d < get_or m.starts (j + 1) 0 = omega (arith, at.0, length-columns m h j j_row) in
      let column : get_or m.columns q 0 ≡ i = ap (λ (x : ℕ). get_or m.columns x 0) e ∙ sym (column-get m j j_row d inside) ∙ at.1 in
      let value : get_or m.values q (pos 0) ≡ v =
      ap (λ (x : ℕ). get_or m.values x (pos 0)) e ∙ sym (value-get m j j_row d inside)
      ∙ sym (lookup-get ds (values_of m j) d up at.0) ∙ ap (λ (c : ℕ). lookup c ds (values_of m j)) at.1 ∙ sym back.1 ∙ value-is g in
      rw (lt-ltb q (get_or m.starts (j + 1) 0) (omega arith), eq-eqb (get_or m.columns q 0) i column, value) (same_refl v)

  -- the test at the cursor fails
  pub turn_misses : meets m i j q v ≡ false → regular m ≡ false
  turn_misses f = is_false (λ g. clash (regular_meets g) f)

  -- it holds
  module _ (f : meets m i j q v ≡ true) where
    abbrev in_row : Bool
    in_row = ltb q (get_or m.starts (j + 1) 0)

    abbrev in_column : Bool
    in_column = eqb (get_or m.columns q 0) i

    pub turn-ends : q < get_or m.starts (j + 1) 0
    turn-ends = ltb-true q (get_or m.starts (j + 1) 0) (and_left in_row in_column (and_left (in_row && in_column) (same (get_or m.values q (pos 0)) v) f))

    met-column : get_or m.columns q 0 ≡ i
    met-column = eqb-true (get_or m.columns q 0) i (and_right in_row in_column (and_left (in_row && in_column) (same (get_or m.values q (pos 0)) v) f))

    met-value : get_or m.values q (pos 0) ≡ v
    met-value = same_true (get_or m.values q (pos 0)) v (and_right (in_row && in_column) (same (get_or m.values q (pos 0)) v) f)

    -- the entries at p and q are each other's mirrors
    mirror-p : Mirror m i p
    mirror-p = record { place = q; low = (t.others j j_low).low; high = turn-ends; column = met-column; value = met-value }

    mirror_q : Mirror m j q
    mirror_q = record { place = p; low = rw met-column t.own.low; high = rw met-column turn_in; column = refl; value = sym met-value }

    -- one more column of row i is met
    met-columns : (c : ℕ) → is_in (take (p + 1 - get_or m.starts i 0) (columns_of m i)) c ≡ is_in (take k (columns_of m i)) c || eqb c j
    met-columns c =
        let e : p + 1 - get_or m.starts i 0 ≡ k + 1 = omega (arith, t.own.low) in
        rw (e, add-one k, take-suc (columns_of m i) k 0 in-row, column-is)
        (is_in-append (take k (columns_of m i)) (j ∷ []) c ∙ ap (λ (x : Bool). is_in (take k (columns_of m i)) c || x) (or_false (eqb c j)))

    pub turn-next : least ≤ j → Turns m i (p + 1) (j + 1) (set cursors j (q + 1))
    turn-next up = record {
      size = rw (length-set cursors j (q + 1)) t.size;
      own = met_more m t.own turn_in up mirror-p;
      few = omega (arith, j_low);
      others = λ c n. others c n (same_or c j);
      fresh = λ c n d. rw (get_or-set_other cursors j c (q + 1) 0 (λ e. omega arith)) (t.fresh c n (omega arith));
      rest = rest;
      exact = λ g c n. exactly g c n (same_or c j);
    }
      where
        here : get_or (set cursors j (q + 1)) j 0 ≡ q + 1
        here = get_or-set_same cursors j (q + 1) 0 turn.in_cursors

        others : (c : ℕ) → c < i → (c ≡ j) ⊎ (c ≢ j) → Met m (i + 1) c (get_or (set cursors j (q + 1)) c 0)
        others c n (inl e) = rw (e, here) (rw met-column at (met_more m (t.fresh j j_low up) turn-ends (omega (arith, met-column)) mirror_q))
        others c n (inr d) = rw (get_or-set_other cursors j c (q + 1) 0 d) (t.others c n)

        rest : regular m ≡ true → (x : ℕ) → p + 1 ≤ x → x < get_or m.starts (i + 1) 0 → j + 1 ≤ get_or m.columns x 0
        rest g x c n =
            let y = x - get_or m.starts i 0 in
            let e : get_or m.starts i 0 + y ≡ x = omega (arith, t.own.low) in
            let is : get_or (columns_of m i) y 0 ≡ get_or m.columns x 0 = column-get m i l y (omega arith) ∙ ap (λ (z : ℕ). get_or m.columns z 0) e in
            let less = ascending_less (columns_of m i) k y (ascends m g i l) (omega (arith, t.own.low)) (omega (arith, length-columns m h i l, t.own.low)) in
            omega (arith, column-is)

        exactly : regular m ≡ true → (c : ℕ) → c < i → (c ≡ j) ⊎ (c ≢ j)
            → get_or (set cursors j (q + 1)) c 0 ≡ get_or m.starts c 0 + (place_in (columns_of m c) i + bit (is_in (take (p + 1 - get_or m.starts i 0) (columns_of m i)) c))
        exactly g c n (inl e) = rw (e, here, met-columns j, unmet g, eq-eqb j j refl) (omega (arith, rw (unmet g) at (t.exact g j j_low)))
        exactly g c n (inr d) =
            rw (get_or-set_other cursors j c (q + 1) 0 d, met-columns c, ne_eqb c j d, or_false (is_in (take k (columns_of m i)) c)) (t.exact g c n)

-- ---- the end of a row

-- row i is met up to its first column that is not below i, and its cursor goes past its diagonal
-- the turn at p, by what the code's test of it answered
pub turn-now : {m : Matrix} {i p least : ℕ} {cursors : List ℕ} {b : Bool} → shaped m ≡ true → i < m.n → Turns m i p least cursors → b ≡ is_lower m i p → b ≡ true → Turn m p cursors
turn-now {m} h l t e f = turn m h l t (sym e ∙ f)

module _ (m : Matrix) (h : shaped m ≡ true) {i : ℕ} (l : i < m.n) {p least : ℕ} {cursors : List ℕ} (t : Turns m i p least cursors)
    (stop : is_lower m i p ≡ false) where
  abbrev cs : List ℕ
  cs = columns_of m i

  abbrev inside : Bool
  inside = ltb p (get_or m.starts (i + 1) 0)

  abbrev diagonal : Bool
  diagonal = inside && eqb (get_or m.columns p 0) i

  -- how many columns of row i were met
  abbrev many : ℕ
  many = p - get_or m.starts i 0

  -- the column at p, if p is in the row
  next-column : p < get_or m.starts (i + 1) 0 → (many < length cs) × (get_or cs many 0 ≡ get_or m.columns p 0)
  next-column a =
      let e : get_or m.starts i 0 + many ≡ p = omega (arith, t.own.low) in
      (omega (arith, length-columns m h i l, t.own.low), column-get m i l many (omega arith) ∙ ap (λ (x : ℕ). get_or m.columns x 0) e)

  -- in a regular matrix they are those below i
  placed : regular m ≡ true → many ≡ place_in cs i
  unfolding place_in
  placed g = omega (arith, at_most many refl, at_least inside refl)
    where
      at_most : (k : ℕ) → k ≡ many → k ≤ place_in cs i
      at_most zero e = omega arith
      at_most (suc k) e =
          let is = column-get m i l k (omega (arith, t.own.low, t.own.high)) in
          let low = t.own.below (get_or m.starts i 0 + k) (omega arith) (omega (arith, t.own.low)) in
          place-past cs i k (ascends m g i l) (omega (arith, length-columns m h i l, t.own.low, t.own.high)) (omega (arith, t.few))

      at_least : (b : Bool) → inside ≡ b → place_in cs i ≤ many
      at_least true e =
          let c = next-column (ltb-true p (get_or m.starts (i + 1) 0) e) in
          let past : ltb (get_or m.columns p 0) i ≡ false = rw e at stop in
          place-before cs i many (ascends m g i l) c.0 (omega (arith, c.1, ltb-false (get_or m.columns p 0) i past))
      at_least false e =
          omega (arith, length-filter-le (λ x. ltb x i) cs, length-columns m h i l, t.own.low, t.own.high, ltb-false p (get_or m.starts (i + 1) 0) e)

  -- .. and column i is there if it stands at p
  on_diagonal : regular m ≡ true → is_in cs i ≡ diagonal
  on_diagonal g = go diagonal refl
    where
      go : (b : Bool) → diagonal ≡ b → is_in cs i ≡ b
      go true d =
          let c = next-column (ltb-true p (get_or m.starts (i + 1) 0) (and_left inside (eqb (get_or m.columns p 0) i) d)) in
          subst (λ (x : ℕ). is_in cs x ≡ true) (c.1 ∙ eqb-true (get_or m.columns p 0) i (and_right inside (eqb (get_or m.columns p 0) i) d)) (is_in-get cs many c.0)
      go false d = place-missing cs i many (ascends m g i l) (placed g) (λ b e. clash (found b e) d)
        where
          found : many < length cs → get_or cs many 0 ≡ i → diagonal ≡ true
          found b e =
              let a : p < get_or m.starts (i + 1) 0 = omega (arith, length-columns m h i l, t.own.low) in
              rw (lt-ltb p (get_or m.starts (i + 1) 0) a) (eq-eqb (get_or m.columns p 0) i (sym (next-column a).1 ∙ e))

  pub own-met : (r : ℕ) → r ≡ p + bit diagonal → Met m (i + 1) i r
  own-met r e = go diagonal refl e
    where
      go : (b : Bool) → diagonal ≡ b → r ≡ p + bit b → Met m (i + 1) i r
      go true d f =
          let a = ltb-true p (get_or m.starts (i + 1) 0) (and_left inside (eqb (get_or m.columns p 0) i) d) in
          let c : get_or m.columns p 0 ≡ i = eqb-true (get_or m.columns p 0) i (and_right inside (eqb (get_or m.columns p 0) i) d) in
          let self : Mirror m i p = record { place = p; low = rw c t.own.low; high = rw c a; column = c; value = refl } in
          rw f (rw c at (met_more m t.own a (omega (arith, t.few)) self))
      go false d f = let e : r ≡ p = omega arith in rw e (met_wider m (i + 1) (omega (arith, t.few)) t.own)

  pub turns_end : (r : ℕ) → r ≡ p + bit diagonal → Cursors m (i + 1) (set cursors i r)
  turns_end r e = record {
    size = rw (length-set cursors i r) t.size;
    met = λ j b. met j b (same_or j i);
    exact = λ g j b. exactly g j b (same_or j i);
  }
    where
      here : get_or (set cursors i r) i 0 ≡ r
      here = get_or-set_same cursors i r 0 (omega (arith, t.size))

      met : (j : ℕ) → j < i + 1 → (j ≡ i) ⊎ (j ≢ i) → Met m (i + 1) j (get_or (set cursors i r) j 0)
      met j b (inl d) = rw (d, here) (own-met r e)
      met j b (inr d) = rw (get_or-set_other cursors i j r 0 d) (t.others j (omega arith))

      -- column j was met if it is there
      all-met : regular m ≡ true → (j : ℕ) → j < i → is_in (take many cs) j ≡ is_in cs j
      all-met g j b =
          ap (λ (k : ℕ). is_in (take k cs) j) (placed g) ∙ ap (λ (xs : List ℕ). is_in xs j) (take-place cs i (ascends m g i l)) ∙ is_in-filter (λ x. ltb x i) cs j
          ∙ rw (lt-ltb j i b) (and-true (is_in cs j))

      exactly : regular m ≡ true → (j : ℕ) → j < i + 1 → (j ≡ i) ⊎ (j ≢ i) → get_or (set cursors i r) j 0 ≡ get_or m.starts j 0 + place_in (columns_of m j) (i + 1)
      exactly g j b (inl d) = rw (d, here, place_more cs i (ascends m g i l), on_diagonal g) (omega (arith, e, placed g, t.own.low))
      exactly g j b (inr d) =
          let lj : j < i = omega arith in
          let ln : j < m.n = omega arith in
          rw (get_or-set_other cursors i j r 0 d, place_more (columns_of m j) i (ascends m g j ln), ← both_ways m g i j l ln, ← all-met g j lj) (t.exact g j lj)
