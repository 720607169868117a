-- `add_both`: the first sum, and where the rows differ the second.
use mir.Facts.{to_z-of_z}
use Rattle.upkeep.proofs.BothSums.{was_fits, first_fits, second_was, second_fits, both-added}
use Rattle.upkeep.proofs.adding.add_both.Goals as goal

pub returns-then-i-j : goal.returns-then-i-j
returns-then-i-j c =
    let d = c.if-i-j.true in
    simp (to_z-of_z c.ranges.first, to_z-of_z (was_fits _ _ _ _ _ c.requires c.args.i), to_z-of_z (first_fits _ _ _ _ _ c.requires), to_z-of_z (second_was _ _ _ _ _ c.requires d), to_z-of_z c.ranges.second, to_z-of_z (second_fits _ _ _ _ _ c.requires d))
    (both-added _ _ _ _ _ c.requires d)
