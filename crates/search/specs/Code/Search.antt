-- What the functions of the search require and ensure. The rows found stand in a queue, a level after the other; marks
-- are as in Marks.
use Rattle.std.specs.Prelude.{◌≡◌, ◌⊎◌, ◌≢◌, true, cond, List, [], ◌∷◌, ◌++◌, map, ℕ, ◌+◌, ◌*◌, ◌-◌, ◌≤◌, ◌<◌, eqb, length, get_or, set, take}
use Rattle.std.proofs.Math.Seq.{slice}
use Rattle.base.specs.Lists.{filter, is_in, range, bit}
use Rattle.matrix.specs.Limits.{max_rows}
use Rattle.levels.specs.Levels.{root, levels_from, levels}
use Rattle.search.specs.Code.Marks.{at_mark, how_many, unreached}

-- ---- visits

-- the marks, and the rows found so far
pub record Wave : Type 0 where
  pub marks : List ℕ
  pub queue : List ℕ

abbrev pub wave : (marks queue : List ℕ) → Wave
wave marks queue = record { marks = marks; queue = queue }

-- v is visited: if it has mark c, it gets mark m and joins the queue
unfoldable pub visited : (c m : ℕ) → Wave → ℕ → Wave
visited c m w v = cond (eqb (get_or w.marks v 0) c) (wave (set w.marks v m) (w.queue ++ v ∷ [])) w

-- one row after the other is visited
unfoldable pub visited_all : (c m : ℕ) → Wave → List ℕ → Wave
visited_all c m w [] = w
visited_all c m w (v ∷ vs) = visited_all c m (visited c m w v) vs

-- two arrays, the queue filled up to tail: it has room for every row with mark c
pub record Ready (n c : ℕ) (marks queue : List ℕ) (tail : ℕ) : Type 0 where
  pub small : n ≤ max_rows
  pub marks_long : length marks ≡ max_rows
  pub queue_long : length queue ≡ max_rows
  pub room : tail + how_many n marks c ≤ n

-- the arrays hold the wave w
pub record After (n c : ℕ) (marks queue : List ℕ) (tail : ℕ) (w : Wave) : Type 0 where
  pub is : wave marks (take tail queue) ≡ w
  pub ready : Ready n c marks queue tail

-- rows of another mark than c
abbrev pub Front : (n c : ℕ) (marks rows : List ℕ) → Type 0
Front n c marks rows = (u : ℕ) → is_in rows u ≡ true → (u < n) × (get_or marks u 0 ≢ c)

-- ---- levels

-- k levels are done, the last stands in the queue from lo to hi, no mark is higher, and 2 × n levels are enough for the
-- rows not yet reached. Between two components the last level is empty: lo and hi are 0
pub record Frontier (n k : ℕ) (marks queue : List ℕ) (lo hi : ℕ) : Type 0 where
  pub ready : Ready n 1 marks queue hi
  pub low : lo ≤ hi
  pub fresh : (v : ℕ) → v < n → get_or marks v 0 ≤ k + 2
  pub front : (u : ℕ) → is_in (slice lo hi queue) u ≡ true → u < n
  pub front_is : (u : ℕ) → u < n → is_in (slice lo hi queue) u ≡ eqb (get_or marks u 0) (k + 2)
  pub enough : k + 2 * unreached n marks + (1 - (1 - (hi - lo))) ≤ 2 * n

-- T's first k levels are the rows with marks 3 .. k + 2, and the next ones come from the last of them and the rows not
-- yet reached
abbrev pub SoFar : (adj : ℕ → List ℕ) (reach n : ℕ) (T : List ℕ) (k : ℕ) (marks : List ℕ) → Type 0
SoFar adj reach n T k marks =
    levels adj reach n T ≡ map (at_mark n marks) (range 3 k) ++ levels_from adj (2 * n - k) T (at_mark n marks (k + 2)) (at_mark n marks 1)

-- a mark is as it was, or is a level
abbrev pub Kept : (marks marks' : List ℕ) → Type 0
Kept marks marks' = (v : ℕ) → (get_or marks' v 0 ≡ get_or marks v 0) ⊎ (3 ≤ get_or marks' v 0)

-- from k levels to k', and then one that is empty: whatever T and its region are, its levels are so far right if they
-- were
pub record Spread (adj : ℕ → List ℕ) (n k k' : ℕ) (marks marks' queue' : List ℕ) : Type 0 where
  pub frontier : Frontier n k' marks' queue' 0 0
  pub kept : Kept marks marks'
  pub so_far : (reach : ℕ) (T : List ℕ) → SoFar adj reach n T k marks → SoFar adj reach n T k' marks'

-- rows to start from, in their order: whatever is reached, the root is the first of them that is not
pub record Roots (adj : ℕ → List ℕ) (n : ℕ) (T roots : List ℕ) : Type 0 where
  pub below : (i : ℕ) → i < length roots → get_or roots i 0 < n
  pub first : (marks : List ℕ) → root adj T (at_mark n marks 1) ≡ take 1 (filter (λ v. eqb (get_or marks v 0) 1) roots)

-- the first i rows are reached
abbrev pub Passed : (rows marks : List ℕ) (i : ℕ) → Type 0
Passed rows marks i = (j : ℕ) → j < i → get_or marks (get_or rows j 0) 0 ≢ 1

-- between two components: T's first k levels are done, the last of them empty, and the first i rows to start from are
-- reached
pub record Between (adj : ℕ → List ℕ) (reach n : ℕ) (T roots : List ℕ) (k i : ℕ) (marks queue : List ℕ) : Type 0 where
  pub frontier : Frontier n k marks queue 0 0
  pub so_far : SoFar adj reach n T k marks
  pub passed : Passed roots marks i

-- the marks are the levels of T, whose rows all have one; those from k on are empty
pub record Levelled (adj : ℕ → List ℕ) (reach n : ℕ) (T : List ℕ) (k : ℕ) (marks : List ℕ) : Type 0 where
  pub levels_are : levels adj reach n T ≡ map (at_mark n marks) (range 3 (2 * n))
  pub few : k ≤ 2 * n
  pub fresh : (v : ℕ) → v < n → get_or marks v 0 ≤ k + 2
  pub reached : (v : ℕ) → is_in T v ≡ true → 3 ≤ get_or marks v 0

-- own are the rows of T, ascending, and they have mark 1, the others 0
pub record Gathered (n : ℕ) (T own marks : List ℕ) : Type 0 where
  pub own_is : own ≡ filter (is_in T) (range 0 n)
  pub marked : (v : ℕ) → get_or marks v 0 ≡ bit (is_in T v)
  pub all : length own ≡ unreached n marks

-- own are the rows of T, ascending, and the marks its levels
pub record Searched (adj : ℕ → List ℕ) (reach n : ℕ) (T own : List ℕ) (k : ℕ) (marks : List ℕ) : Type 0 where
  pub own_is : own ≡ filter (is_in T) (range 0 n)
  pub levelled : Levelled adj reach n T k marks
