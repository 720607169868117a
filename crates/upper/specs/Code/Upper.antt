-- The upper triangle of the matrix in plan order, with its diagonal: what the tables hold of it while they are made,
-- and then.
use Rattle.std.specs.Prelude.{◌≡◌, ◌≢◌, true, ◌||◌, List, ℕ, ◌+◌, ◌-◌, ◌≤◌, ◌<◌, eqb, ltb, length, get_or, take, ℤ, pos}
use Rattle.base.specs.Lists.{filter, range}
use Rattle.matrix.specs.Limits.{max_rows}
use Rattle.matrix.specs.Matrix.{Matrix, entry, adjacent, is_matrix, displacement, matrix_of}
use Rattle.plan.specs.Sound.{each_once}
use Rattle.tables.specs.Code.Laid.{max_updates}

-- where the rows at the first k positions of the order stand
pub record Positions (k : ℕ) (order position : List ℕ) : Type 0 where
  pub long : length position ≡ max_rows
  pub is : (p : ℕ) → p < k → get_or position (get_or order p 0) 0 ≡ p

-- the displacements of those rows, in plan order
pub record Displaced (k : ℕ) (x : List ℤ) (order : List ℕ) (displaced : List ℤ) : Type 0 where
  pub long : length displaced ≡ max_rows
  pub is : (p : ℕ) → p < k → get_or displaced p (pos 0) ≡ displacement x (get_or order p 0)

-- a matrix, and an order of its rows
pub record Ordered (m : Matrix) (order : List ℕ) : Type 0 where
  pub matrix : is_matrix m ≡ true
  pub once : each_once m.n order ≡ true

-- lent lists that hold both
pub record Lent (n : ℕ) (starts columns : List ℕ) (values : List ℤ) (order : List ℕ) : Type 0 where
  pub ordered : Ordered (matrix_of n starts columns values) (take n order)
  pub long : n ≤ length order

-- the positions from p on and before q: p itself, and those whose rows are adjacent to the row at p
unfoldable pub upper_to : Matrix → (order : List ℕ) (p q : ℕ) → List ℕ
upper_to m order p q = filter (λ r. eqb r p || adjacent m (get_or order p 0) (get_or order r 0)) (range p (q - p))

-- .. all of them
abbrev pub upper_of : Matrix → (order : List ℕ) → ℕ → List ℕ
upper_of m order p = upper_to m order p m.n

-- those of some rows that stand after position p
abbrev pub later_in : (position : List ℕ) (p : ℕ) → List ℕ → List ℕ
later_in position p rows = filter (λ i. ltb p (get_or position i 0)) rows

-- how many entries the rows at the first k positions have
pub record Sizes (m : Matrix) (order : List ℕ) (k : ℕ) (sizes : List ℕ) : Type 0 where
  pub long : length sizes ≡ max_rows
  pub is : (p : ℕ) → p < k → get_or sizes p 0 ≡ length (upper_of m order p)

-- where the parts of the rows begin: there is room for each row's entries, apart from those of the others
pub record Parts (m : Matrix) (order begins : List ℕ) : Type 0 where
  pub room : (p : ℕ) → p < m.n → get_or begins p 0 + length (upper_of m order p) ≤ max_updates
  pub apart : (p r c d : ℕ) → p < m.n → r < m.n → p ≢ r → c < length (upper_of m order p) → d < length (upper_of m order r) → get_or begins p 0 + c ≢ get_or begins r 0 + d

-- where the part of row i can begin: there is room for all its entries, and for its diagonal one if that is not stored
abbrev pub part_at : (starts : List ℕ) → ℕ → ℕ
part_at starts i = get_or starts i 0 + i

-- the parts of the rows at the first k positions begin there
pub record Begun (k : ℕ) (starts order parts : List ℕ) : Type 0 where
  pub long : length parts ≡ max_rows
  pub is : (p : ℕ) → p < k → get_or parts p 0 ≡ part_at starts (get_or order p 0)

-- For each position p a list of positions L p. They stand in `at` from p's part on, beside their entries, and next[p]
-- is the place after them
pub record Placed (m : Matrix) (order begins : List ℕ) (L : ℕ → List ℕ) (next at : List ℕ) (beside : List ℤ) : Type 0 where
  pub next_long : length next ≡ max_rows
  pub at_long : length at ≡ max_updates
  pub beside_long : length beside ≡ max_updates
  pub at_low : (k : ℕ) → get_or at k 0 < m.n
  pub ends : (p : ℕ) → p < m.n → get_or next p 0 ≡ get_or begins p 0 + length (L p)
  pub inside : (p : ℕ) → p < m.n → length (L p) ≤ length (upper_of m order p)
  pub positions : (p c : ℕ) → p < m.n → c < length (L p) → get_or at (get_or begins p 0 + c) 0 ≡ get_or (L p) c 0
  pub entries : (p c : ℕ) → p < m.n → c < length (L p) → get_or beside (get_or begins p 0 + c) (pos 0) ≡ entry m (get_or order p 0) (get_or order (get_or (L p) c 0) 0)

-- the entries of the upper triangle before position q
abbrev pub Upper : Matrix → (order begins : List ℕ) (q : ℕ) (next at : List ℕ) (beside : List ℤ) → Type 0
Upper m order begins q next at beside = Placed m order begins (λ p. upper_to m order p q) next at beside

-- all of them, in parts that begin there and have room
pub record UpperLaid (m : Matrix) (order begins at : List ℕ) (beside : List ℤ) : Type 0 where
  pub parts : Parts m order begins
  pub next : List ℕ
  pub placed : Upper m order begins m.n next at beside
