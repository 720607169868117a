-- The test of a plan's first record.
use Rattle.std.specs.Prelude.{Bool, ◌&&◌, ℕ, eqb, leb}
use Rattle.plan.specs.Groups.{Group, whole}
use Rattle.plan.specs.Sound.{max_workers}

-- "the whole covers all freedoms and 1 to 16 workers from 0"
unfoldable pub is_whole : (n : ℕ) → Group → Bool
is_whole n g =
    eqb g.start 0 && eqb g.length n && eqb g.first 0 && eqb g.colour whole && eqb g.parent 0 && eqb g.depth 0
    && leb 1 g.workers && leb g.workers max_workers
