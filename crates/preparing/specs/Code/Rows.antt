-- The numbers of the head of a prepared list.
use Rattle.std.specs.Prelude.{◌≡◌, List, ℕ, ◌+◌, ◌*◌, ◌<◌, length, get_or}
use Rattle.plan.specs.Sound.{max_workers}
use Rattle.tables.specs.Code.Laid.{updates_in}
use Rattle.prepared.specs.Format.{mark}

-- the numbers of a head, those of the first k workers
pub record HeadTo (k n workers : ℕ) (first head : List ℕ) : Type 0 where
  pub long : length head ≡ 36
  pub mark_is : get_or head 0 0 ≡ mark
  pub rows_are : get_or head 1 0 ≡ n
  pub crew_is : get_or head 2 0 ≡ workers
  pub count_is : get_or head 3 0 ≡ get_or first max_workers 0
  pub most_is : (w : ℕ) → w < k → get_or head (4 + w) 0 ≡ 2 * updates_in first w
  pub first_is : (w : ℕ) → w < k → get_or head (20 + w) 0 ≡ get_or first w 0
