-- The check of a matrix as the conjunction of its parts, and the first of its passes.
use mathlib.Core.Path.{◌≡◌, refl, sym, ap, ◌∙◌}
use mathlib.Core.Bool.{Bool, true, false, ◌&&◌, and_comm}
use mathlib.Core.List.{List, [], ◌∷◌}
use Prim.Native.Nat.{ℕ, suc, ◌≤◌, ◌<◌}
use lib.Dec.{eqb, ltb, leb}
use lib.ListN.{length, get_or}
use borrow.Author.Tests.{leb-true, le-leb, eqb-true, eq-eqb}
use Rattle.base.specs.Lists.{all, range}
use Rattle.base.specs.Integers.{within}
use Rattle.base.proofs.Booleans.{and_left, and_right, conj, conj_first, conj_at}
use Rattle.base.proofs.Left.{all-and, all_same}
use Rattle.matrix.specs.Limits.{max_rows, max_entries, max_value}
use Rattle.matrix.specs.Matrix.{Matrix, columns_of, values_of, ascending, is_row, lower_entries, is_matrix}
use Rattle.matrix.specs.Code.Checks.{rises, shaped, is_ordered, mirrored_row, symmetric}

abbrev size_tests : Matrix → List Bool
size_tests m =
    leb m.n max_rows ∷ leb (suc m.n) (length m.starts) ∷ eqb (get_or m.starts 0 0) 0
    ∷ leb (get_or m.starts m.n 0) (length m.columns) ∷ leb (get_or m.starts m.n 0) (length m.values) ∷ []

-- every row's columns and values are in order
abbrev pub ordered_row : Matrix → ℕ → Bool
ordered_row m i = is_ordered m.n (columns_of m i) (values_of m i)

unfoldable pub ordered : Matrix → Bool
ordered m = all (ordered_row m) (range 0 m.n)

-- the lists are shaped and their rows in order
pub record Tidy (m : Matrix) : Type 0 where
  pub shape : shaped m ≡ true
  pub order : ordered m ≡ true

-- ---- the whole check

row-parts : (m : Matrix) (i : ℕ) → is_row m i ≡ rises m.starts i && ordered_row m i && mirrored_row m i
unfolding is_row is_ordered
row-parts m i = go (rises m.starts i) (ascending (columns_of m i)) (all (λ j. ltb j m.n) (columns_of m i)) (all (within max_value) (values_of m i)) (mirrored_row m i)
  where
    go : (a b c d e : Bool) → a && b && c && d && e ≡ a && (b && c && d) && e
    go true b c d e = refl
    go false b c d e = refl

rows-parts : (m : Matrix) (is : List ℕ) → all (is_row m) is ≡ all (rises m.starts) is && all (ordered_row m) is && all (mirrored_row m) is
rows-parts m is =
    all_same (is_row m) (λ i. rises m.starts i && ordered_row m i && mirrored_row m i) is (row-parts m)
    ∙ all-and (λ i. rises m.starts i && ordered_row m i) (mirrored_row m) is
    ∙ ap (λ (b : Bool). b && all (mirrored_row m) is) (all-and (rises m.starts) (ordered_row m) is)

-- lists are a matrix if they are shaped, their rows in order and few, and their entries mirrored
pub matrix-parts : (m : Matrix) → is_matrix m ≡ shaped m && (ordered m && leb (lower_entries m) max_entries) && symmetric m
unfolding is_matrix shaped ordered symmetric
matrix-parts m =
    let rows = range 0 m.n in
    rw (rows-parts m rows) (go (conj (leb 1 m.n) (size_tests m)) (all (rises m.starts) rows) (all (ordered_row m) rows) (all (mirrored_row m) rows) (leb (lower_entries m) max_entries))
  where
    go : (p s o t l : Bool) → p && (s && o && t) && l ≡ p && s && (o && l) && t
    go false s o t l = refl
    go true false o t l = refl
    go true true false t l = refl
    go true true true t l = and_comm t l

pub matrix_unshaped : (m : Matrix) → shaped m ≡ false → is_matrix m ≡ false
matrix_unshaped m h = matrix-parts m ∙ rw h

-- a matrix passes
pub matrix_tidy : (m : Matrix) → is_matrix m ≡ true → Tidy m
matrix_tidy m h =
    let lower = leb (lower_entries m) max_entries in
    let both : shaped m && (ordered m && lower) ≡ true = and_left (shaped m && (ordered m && lower)) (symmetric m) (sym (matrix-parts m) ∙ h) in
    record { shape = and_left (shaped m) (ordered m && lower) both; order = and_left (ordered m) lower (and_right (shaped m) (ordered m && lower) both) }

-- ---- the first pass

-- all tests but the last pass
pub shape-rises : (m : Matrix) → 1 ≤ m.n → m.n ≤ max_rows → m.n < length m.starts → get_or m.starts 0 0 ≡ 0
    → get_or m.starts m.n 0 ≤ length m.columns → get_or m.starts m.n 0 ≤ length m.values → all (rises m.starts) (range 0 m.n) ≡ shaped m
unfolding shaped
shape-rises m some few long first columns values =
    rw (
      le-leb 1 m.n some,
      le-leb m.n max_rows few,
      le-leb (suc m.n) (length m.starts) long,
      eq-eqb (get_or m.starts 0 0) 0 first,
      le-leb (get_or m.starts m.n 0) (length m.columns) columns,
      le-leb (get_or m.starts m.n 0) (length m.values) values,
    )

-- what it says
pub record Shape (m : Matrix) : Type 0 where
  pub some : 1 ≤ m.n
  pub few : m.n ≤ max_rows
  pub starts-long : m.n < length m.starts
  pub starts_first : get_or m.starts 0 0 ≡ 0
  pub columns-long : get_or m.starts m.n 0 ≤ length m.columns
  pub values-long : get_or m.starts m.n 0 ≤ length m.values
  pub rising : all (rises m.starts) (range 0 m.n) ≡ true

pub shape : (m : Matrix) → shaped m ≡ true → Shape m
unfolding shaped
shape m h = record {
  some = leb-true 1 m.n (conj_first (leb 1 m.n) (size_tests m) sizes);
  few = leb-true m.n max_rows (at 0);
  starts-long = leb-true (suc m.n) (length m.starts) (at 1);
  starts_first = eqb-true (get_or m.starts 0 0) 0 (at 2);
  columns-long = leb-true (get_or m.starts m.n 0) (length m.columns) (at 3);
  values-long = leb-true (get_or m.starts m.n 0) (length m.values) (at 4);
  rising = and_right (conj (leb 1 m.n) (size_tests m)) (all (rises m.starts) (range 0 m.n)) h;
}
  where
    sizes : conj (leb 1 m.n) (size_tests m) ≡ true
    sizes = and_left (conj (leb 1 m.n) (size_tests m)) (all (rises m.starts) (range 0 m.n)) h

    at : (k : ℕ) → get_or (size_tests m) k true ≡ true
    at k = conj_at (leb 1 m.n) (size_tests m) sizes k

-- lists of the right shape
pub shape-made : (m : Matrix) → Shape m → shaped m ≡ true
shape-made m s = sym (shape-rises m s.some s.few s.starts-long s.starts_first s.columns-long s.values-long) ∙ s.rising
