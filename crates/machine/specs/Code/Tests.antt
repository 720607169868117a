-- Tests on all workers' counts, for the contracts of the state's methods.
use Rattle.std.specs.Prelude.{Bool, true, ◌&&◌, List, ℕ, zero, suc, ◌*◌, leb}
use Rattle.run.specs.Updates.{count}
use Rattle.tables.specs.Code.Laid.{updates_in}

-- every number below k passes the test
unfoldable pub all_below : (ℕ → Bool) → ℕ → Bool
all_below f zero = true
all_below f (suc w) = f w && all_below f w

-- worker w has made at most two accesses for each of its updates
abbrev pub fine : (first made : List ℕ) → ℕ → Bool
fine first made w = leb (count made w) (2 * updates_in first w)

-- .. at least two
abbrev pub done : (first made : List ℕ) → ℕ → Bool
done first made w = leb (2 * updates_in first w) (count made w)
