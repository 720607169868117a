-- The rows of lent lists: where each lies, and that together they are the lists.
use mathlib.Core.Path.{◌≡◌, sym, ap, ◌∙◌}
use mathlib.Core.Bool.{Bool, true, ◌&&◌, and-true}
use mathlib.Core.List.{List, [], ◌∷◌}
use Prim.Native.Nat.{ℕ, zero, suc, ◌+◌, ◌-◌, ◌≤◌, ◌<◌}
use native.Mathlib.Numerals.{add-one}
use native.Mathlib.Omega.{arith}
use lib.IntN.{ℤ, pos}
use lib.ListN.{length, get_or, take, take-append-drop}
use lib.Seq.{slice, length-slice, take-take}
use borrow.Author.Tests.{lt-ltb, le-ltb, leb-true}
use Rattle.base.specs.Lists.{all, range}
use Rattle.base.proofs.Lists.{all_append, all-range, range_snoc}
use Rattle.matrix.specs.Matrix.{Matrix, part_of, columns_of, values_of, lookup, entry}
use Rattle.matrix.specs.Code.Checks.{RowIn, rises, shaped}
use Rattle.matrix.proofs.Checks.{shape}

-- ---- where a row lies

module _ {ℓ} {A : Type ℓ} where
  -- the part of a list that belongs to row i
  row-part : (m : Matrix) (xs : List A) (i : ℕ) → i < m.n → part_of m xs i ≡ slice (get_or m.starts i 0) (get_or m.starts (i + 1) 0) xs
  unfolding part_of
  row-part m xs i l = rw (lt-ltb i m.n l, add-one i)

pub columns-part : (m : Matrix) (i : ℕ) → i < m.n → columns_of m i ≡ slice (get_or m.starts i 0) (get_or m.starts (i + 1) 0) m.columns
unfolding columns_of
columns-part m i l = row-part m m.columns i l

pub values-part : (m : Matrix) (i : ℕ) → i < m.n → values_of m i ≡ slice (get_or m.starts i 0) (get_or m.starts (i + 1) 0) m.values
unfolding values_of
values-part m i l = row-part m m.values i l

-- an entry is looked up in its row
pub entry_row : (m : Matrix) (i j : ℕ) {cs : List ℕ} {vs : List ℤ} → cs ≡ columns_of m i → vs ≡ values_of m i → lookup j cs vs ≡ entry m i j
unfolding entry
entry_row m i j e f = rw (e, f)

-- past the last row every entry is 0
pub entry_past : (m : Matrix) (i j : ℕ) → m.n ≤ i → entry m i j ≡ pos 0
unfolding entry columns_of part_of lookup
entry_past m i j h = rw (le-ltb i m.n h)

-- row starts never fall
pub starts_climb : (starts : List ℕ) (n : ℕ) → all (rises starts) (range 0 n) ≡ true → (i d : ℕ) → i + d ≤ n → get_or starts i 0 ≤ get_or starts (i + d) 0
starts_climb starts n h i zero l = let e : i + 0 ≡ i = omega arith in rw e (omega arith)
starts_climb starts n h i (suc d) l =
    let e : i + suc d ≡ suc (i + d) = omega arith in
    let step = leb-true (get_or starts (i + d) 0) (get_or starts (suc (i + d)) 0) (all-range (rises starts) n (i + d) h (omega arith)) in
    rw e (omega (arith, starts_climb starts n h i d (omega arith)))

module _ (m : Matrix) (h : shaped m ≡ true) (i : ℕ) (l : i < m.n) where
  -- row i lies within a list that holds the last row
  pub row_in : (size : ℕ) → get_or m.starts m.n 0 ≤ size → RowIn m.starts size i
  row_in size long =
      let s = shape m h in
      let e : i + 1 + (m.n - (i + 1)) ≡ m.n = omega arith in
      let last = rw e at (starts_climb m.starts m.n s.rising (i + 1) (m.n - (i + 1)) (omega arith)) in
      record {
        starts-long = omega (arith, s.starts-long);
        rises = starts_climb m.starts m.n s.rising i 1 (omega arith);
        ends = omega arith;
      }

  -- row i lies within both lists
  pub columns-in : RowIn m.starts (length m.columns) i
  columns-in = row_in (length m.columns) (shape m h).columns-long

  pub values_in : RowIn m.starts (length m.values) i
  values_in = row_in (length m.values) (shape m h).values-long

  pub length-columns : length (columns_of m i) ≡ get_or m.starts (i + 1) 0 - get_or m.starts i 0
  length-columns = rw (columns-part m i l) (length-slice (get_or m.starts i 0) (get_or m.starts (i + 1) 0) m.columns columns-in.ends)

  pub length-values : length (values_of m i) ≡ get_or m.starts (i + 1) 0 - get_or m.starts i 0
  length-values = rw (values-part m i l) (length-slice (get_or m.starts i 0) (get_or m.starts (i + 1) 0) m.values values_in.ends)

-- ---- the values of all rows

-- the rows lie one after the other: all values up to the last row's end are theirs
pub values-tiled : (m : Matrix) → shaped m ≡ true → (p : ℤ → Bool) (i : ℕ) → i ≤ m.n → all p (take (get_or m.starts i 0) m.values) ≡ all (λ k. all p (values_of m k)) (range 0 i)
values-tiled m h p zero l = rw (shape m h).starts_first
values-tiled m h p (suc i) l =
    let from = get_or m.starts i 0 in
    let to = get_or m.starts (suc i) 0 in
    let q : ℕ → Bool = λ k. all p (values_of m k) in
    let rises : from ≤ to = rw (← add-one i) (values_in m h i l).rises in
    let row : values_of m i ≡ slice from to m.values = rw (← add-one i) (values-part m i l) in
    let e : 0 + i ≡ i = omega arith in
    ap (all p) (sym (take-append-drop from (take to m.values))) ∙ all_append p (take from (take to m.values)) (slice from to m.values)
    ∙ ap (λ (b : Bool). b && all p (slice from to m.values)) (ap (all p) (take-take from to m.values rises) ∙ values-tiled m h p i (omega arith))
    ∙ ap (λ (b : Bool). all q (range 0 i) && b) (ap (all p) (sym row) ∙ sym (and-true (q i)))
    ∙ sym (all_append q (range 0 i) (i ∷ [])) ∙ ap (all q) (sym (rw e at (range_snoc 0 i)))
