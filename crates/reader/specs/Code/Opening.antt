-- What the code that passes over the lines before the size line answers.
use Rattle.std.specs.Prelude.{Option, Some, None, ◌≡◌, true, false, List, [], ℕ, suc, ◌+◌, ◌≤◌, ◌<◌, length, drop}
use Rattle.reader.specs.declared.opening.LineStart.{LineStart}
use Rattle.market.specs.Parse.{Place, place, comments}

-- what comes after a % line, line k, that ends so
abbrev pub after_line : List ℕ → ℕ → Option ℕ → Place
after_line s k (Some e) = comments false (suc k) (drop e s)
after_line s k None = place k []

-- the end lies after the position
abbrev pub Ends : List ℕ → ℕ → Option ℕ → Type 0
Ends s p (Some e) = (p < e) × (e ≤ length s)
Ends s p None = Unit

-- where the line at p ends
pub record LineEnds (s : List ℕ) (p : ℕ) (r : Option ℕ) : Type 0 where
  pub rest : (k : ℕ) → comments true k (drop p s) ≡ after_line s k r
  pub later : Ends s p r

-- the first line from p, line k, on that does not begin with %
pub record Skipped (s : List ℕ) (p k : ℕ) (r : LineStart) : Type 0 where
  pub rest : comments false k (drop p s) ≡ place r.line (drop r.pos s)
  pub small : r.line + p ≤ k + length s
