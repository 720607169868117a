-- Levels one after the other in a stretch of the order, and where each ends: for the contracts of the planners.
use Rattle.std.specs.Prelude.{◌≡◌, List, [], ◌∷◌, map, true, ℕ, ◌+◌, ◌-◌, ◌≤◌, ◌<◌, length, take, drop, get_or}
use Rattle.base.specs.Lists.{is_in, concat, sum}
use Rattle.matrix.specs.Limits.{max_rows}
use Rattle.extents.specs.Code.Scans.{max_load}
use Rattle.sort.specs.Code.Sort.{max_levels}

-- the levels that end at ends in a stretch, done rows before it
unfoldable pub levels_in : (done : ℕ) (ends stretch : List ℕ) → List (List ℕ)
levels_in done [] stretch = []
levels_in done (e ∷ ends) stretch = take (e - done) stretch ∷ levels_in e ends (drop (e - done) stretch)

-- where each level ends, done rows before the first
unfoldable pub ends_of : (done : ℕ) → List (List ℕ) → List ℕ
ends_of done [] = []
ends_of done (l ∷ ls) = (done + length l) ∷ ends_of (done + length l) ls

-- the stretch is these levels, and they end there
pub record Levelled (done : ℕ) (ends stretch : List ℕ) (ls : List (List ℕ)) : Type 0 where
  pub ends_are : ends ≡ ends_of done ls
  pub rows_are : stretch ≡ concat ls

-- the load of rows by their keys: a row's key is its weight and 2 more
abbrev pub key_weight : (keys : List ℕ) → ℕ → ℕ
key_weight keys v = get_or keys v 0 - 2

abbrev pub key_load : (keys vs : List ℕ) → ℕ
key_load keys vs = sum (map (key_weight keys) vs)

-- rows that have keys, and whose load is within its limit
pub record Weighed (keys vs : List ℕ) : Type 0 where
  pub each : (v : ℕ) → is_in vs v ≡ true → (v < max_rows) × (3 ≤ get_or keys v 0)
  pub few : key_load keys vs ≤ max_load

-- the load of a stretch, and in front of an array those of its levels
pub record Loaded (load : List ℕ → ℕ) (stretch : List ℕ) (ls : List (List ℕ)) (all : ℕ) (loads : List ℕ) : Type 0 where
  pub all_is : all ≡ load stretch
  pub long : length loads ≡ max_levels
  pub loads_are : take (length ls) loads ≡ map load ls
