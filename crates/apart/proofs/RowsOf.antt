-- The rows of a matrix: where they lie, what their columns are, and that they are a graph, whatever its values are.
use mathlib.Core.Path.{◌≡◌, refl, sym, ◌∙◌, subst, fun_ext}
use mathlib.Core.Bool.{true}
use mathlib.Core.List.{List}
use Prim.Native.Nat.{ℕ, ◌+◌, ◌<◌}
use lib.IntN.{ℤ}
use lib.ListN.{length, get_or}
use lib.Seq.{slice}
use Rattle.base.proofs.Lists.{in_get}
use Rattle.base.proofs.Graph.{Graph}
use Rattle.matrix.specs.Matrix.{Matrix, part_of, columns_of, neighbours, is_matrix, matrix_of}
use Rattle.matrix.specs.Code.Pattern.{pattern}
use Rattle.matrix.proofs.Matrix.{matrix_facts, column-low, graph}
use Rattle.matrix.proofs.Checks.{matrix_tidy}
use Rattle.matrix.proofs.Rows.{columns-in, columns-part}
use Rattle.apart.specs.Code.Net.{IsGraph}

pub row_is : (m : Matrix) (u : ℕ) → u < m.n → slice (get_or m.starts u 0) (get_or m.starts (u + 1) 0) m.columns ≡ columns_of m u
row_is m u l = sym (columns-part m u l)

pub graph_of : (m : Matrix) → IsGraph m → Graph (neighbours m) m.n
graph_of m g = record { below = g.below; both = g.both }

-- adjacency does not look at values
pub neighbours-pattern : (n : ℕ) (starts columns : List ℕ) (values : List ℤ) → neighbours (matrix_of n starts columns values) ≡ neighbours (pattern n starts columns)
unfolding neighbours columns_of part_of
neighbours-pattern n starts columns values = fun_ext (λ i. refl)

-- the rows of a matrix are so beside other values too
module _ (n : ℕ) (starts columns : List ℕ) (values : List ℤ) (is : is_matrix (matrix_of n starts columns values) ≡ true) (others : List ℤ) where
  abbrev m : Matrix
  m = matrix_of n starts columns values

  abbrev m' : Matrix
  m' = matrix_of n starts columns others

  same-columns : (u : ℕ) → columns_of m u ≡ columns_of m' u
  unfolding columns_of part_of
  same-columns u = refl

  same-graph : Graph (neighbours m) n → Graph (neighbours m') n
  same-graph = subst (λ (adj : ℕ → List ℕ). Graph adj n) (neighbours-pattern n starts columns values ∙ sym (neighbours-pattern n starts columns others))

  pub is_graph : IsGraph m'
  is_graph = record {
    few = (matrix_facts m is).few;
    rows = λ u l. columns-in m (matrix_tidy m is).shape u l;
    low = λ u j l. subst (λ (zs : List ℕ). j < length zs → get_or zs j 0 < n) (same-columns u)
        (λ h. column-low m is u (get_or (columns_of m u) j 0) (in_get (columns_of m u) j h));
    below = (same-graph (graph m is)).below;
    both = (same-graph (graph m is)).both;
  }
