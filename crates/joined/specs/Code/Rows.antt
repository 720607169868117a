-- The entries of the joined net on and below the diagonal, row by row, in a list.
use Rattle.std.specs.Prelude.{Option, Some, None, ◌≡◌, ◌⊎◌, Bool, true, false, not, ◌&&◌, cond, List, [], ◌∷◌, ◌++◌, map, ℕ, suc, ◌+◌, ◌≤◌, ◌<◌, eqb, ltb, leb, ℤ, pos, ◌+ℤ◌, length, get_or}
use Rattle.base.specs.Lists.{filter, all, concat, is_in, range, distinct, position_of}
use Rattle.base.specs.Integers.{within}
use Rattle.matrix.specs.Limits.{max_rows, max_entries, max_value}
use Rattle.matrix.specs.Matrix.{Matrix, lookup, ascending, is_matrix}
use Rattle.market.specs.Parse.{Triplet, triplet, is_at}
use Rattle.joined.specs.Joined.{joined_rows, are_places, stored_in, stiffness, joined, in_limits}

-- ---- entries of a row

-- the first k of some entries of row i, those whose column passes a test
unfoldable pub cells_of : (i : ℕ) (passes : ℕ → Bool) (column : ℕ → ℕ) (value : ℕ → ℤ) (k : ℕ) → List Triplet
cells_of i passes column value k = concat (map (λ l. cond (passes (column l)) (triplet i (column l) (value l) ∷ []) []) (range 0 k))

-- from a row of the first net: its values, with the second net's in the same place
abbrev pub from_first : (i : ℕ) (cs : List ℕ) (vs : List ℤ) (second : ℕ → ℤ) (k : ℕ) → List Triplet
from_first i cs vs second = cells_of i (λ c. leb c i) (λ k. get_or cs k 0) (λ k. get_or vs k (pos 0) +ℤ second (get_or cs k 0))

-- from a row of the second net: its values in their places, where the first net has none
abbrev pub from_second : (i : ℕ) (places cs : List ℕ) (vs : List ℤ) (first : ℕ → Bool) (k : ℕ) → List Triplet
from_second i places cs vs first = cells_of i (λ c. leb c i && not (first c)) (λ k. get_or places (get_or cs k 0) 0) (λ k. get_or vs k (pos 0))

-- both, of the rows' own columns and values
unfoldable pub row_entries : (i : ℕ) (places cs : List ℕ) (vs : List ℤ) (ds : List ℕ) (ws : List ℤ) → List Triplet
row_entries i places cs vs ds ws = from_first i cs vs (λ c. lookup (position_of places c) ds ws) (length cs) ++ from_second i places ds ws (is_in cs) (length ds)

-- ---- tables, one number for each row of the joined net; a turn is a row's number plus 1

abbrev pub marked : (turn : ℕ) (marks : List ℕ) → ℕ → Bool
marked turn marks c = eqb (get_or marks c 0) turn

-- the number that is held for column c in this turn, 0 if there is none
abbrev pub held_at : (turn : ℕ) (marks : List ℕ) (held : List ℤ) → ℕ → ℤ
held_at turn marks held c = cond (marked turn marks c) (get_or held c (pos 0)) (pos 0)

-- no turn was later
abbrev pub Before : (turn : ℕ) (marks : List ℕ) → Type 0
Before turn marks = (c : ℕ) → get_or marks c 0 < turn

-- the second net's row is held: for each column its value there
pub record Held (turn : ℕ) (second : ℕ → ℤ) (marks : List ℕ) (held : List ℤ) : Type 0 where
  pub late : (c : ℕ) → get_or marks c 0 ≤ turn
  pub is : (c : ℕ) → held_at turn marks held c ≡ second c

-- the first net's row is marked
pub record Seen (turn : ℕ) (first : ℕ → Bool) (seen : List ℕ) : Type 0 where
  pub late : (c : ℕ) → get_or seen c 0 ≤ turn
  pub is : (c : ℕ) → marked turn seen c ≡ first c

-- rows as they are handed over: of the first net, and of the second with the places of its columns
pub record FirstRow (cs : List ℕ) (vs : List ℤ) : Type 0 where
  pub beside : length cs ≡ length vs
  pub low : (k : ℕ) → k < length cs → get_or cs k 0 < max_rows

pub record SecondRow (places ds : List ℕ) (ws : List ℤ) : Type 0 where
  pub beside : length ds ≡ length ws
  pub ascends : ascending ds ≡ true
  pub apart : distinct places ≡ true
  pub inside : (k : ℕ) → k < length ds → get_or ds k 0 < length places
  pub low : (k : ℕ) → k < length ds → get_or places (get_or ds k 0) 0 < max_rows

-- the tenant of c, as a place: 1 plus its position in a list, 0 if it is not there
unfoldable pub tenant_of : List ℕ → ℕ → ℕ
tenant_of xs c = cond (is_in xs c) (suc (position_of xs c)) 0

-- ---- entries in a list

unfoldable pub are_small : List Triplet → Bool
are_small ts = all (λ (t : Triplet). within max_value t.value) ts

-- after some entries come new ones, whose values are within their limit
pub record Added (new es es' : List Triplet) : Type 0 where
  pub small : are_small new ≡ true
  pub is : es' ≡ es ++ new

-- .. or a value passes its limit, or they are too many
abbrev pub Broken : (new es : List Triplet) → Type 0
Broken new es = (are_small new ≡ false) ⊎ (max_entries < length es + length new)

-- .. as the code tells it: none if a limit is broken
abbrev pub Told : (new es : List Triplet) → Option (Unit {0}) → List Triplet → Type 0
Told new es (Some u) es' = Added new es es'
Told new es None es' = Broken new es

-- ---- the whole net

-- two nets and places that pass 5, 5 and 23, and rows that pass 24
pub record Sewing (a b : Matrix) (places : List ℕ) (n : ℕ) : Type 0 where
  pub first : is_matrix a ≡ true
  pub second : is_matrix b ≡ true
  pub placed : are_places a b places ≡ true
  pub rows : n ≡ joined_rows a places
  pub few : n ≤ max_rows

-- an entry on or below the diagonal, of n rows
abbrev pub is_inside : ℕ → Triplet → Bool
is_inside n t = leb t.column t.row && ltb t.row n

-- the entries are those of n rows on and below the diagonal, each once, with its value
pub record Collected (n : ℕ) (stored : ℕ → ℕ → Bool) (value : ℕ → ℕ → ℤ) (es : List Triplet) : Type 0 where
  pub inside : all (is_inside n) es ≡ true
  pub small : (i j : ℕ) → j ≤ i → i < n → stored i j ≡ true → within max_value (value i j) ≡ true
  pub cells : (i j : ℕ) → i < n → filter (is_at i j) es ≡ cond (stored i j && leb j i) (triplet i j (value i j) ∷ []) []

-- the list after the gathering: the entries of the joined net, or a limit of it is broken
abbrev pub Gathers : (a b : Matrix) (places : List ℕ) (n : ℕ) → Option (Unit {0}) → List Triplet → Type 0
Gathers a b places n (Some u) es = Collected n (stored_in a b places) (stiffness a b places) es
Gathers a b places n None es = in_limits (joined a b places) ≡ false
