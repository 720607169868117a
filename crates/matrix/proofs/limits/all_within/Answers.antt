use mathlib.Core.Path.{◌≡◌, ap, ◌∙◌}
use mathlib.Core.Bool.{Bool, ◌&&◌, and_assoc}
use native.Mathlib.Omega.{arith}
use lib.IntN.{pos, ◌-ℤ◌}
use lib.ListN.{get_or}
use lib.Signed.{le_z}
use mir.Syntax.{w32}
use mir.Val.{SFits, to_z}
use borrow.Author.Rules.{rules}
use mir.Facts.{to_z-of_z, to_z_pos}
use Rattle.base.specs.Integers.{within}
use Rattle.base.proofs.Integers.{abs-sub, fits-abs}
use Rattle.matrix.proofs.Within.{within_both}
use Rattle.base.proofs.Found.{found-next}
use Rattle.matrix.proofs.limits.all_within.Goals as goal

pub loop-z-preserved : goal.loop-z-preserved
loop-z-preserved c =
    let most_is : to_z w32 c.args.limit ≡ pos c.args.limit = to_z_pos w32 (omega (arith, c.requires)) in
    let least_fits : SFits w32 (pos 0 -ℤ pos c.args.limit) = fits-abs (omega (arith, abs-sub (pos 0) (pos c.args.limit), c.requires)) in
    let z = get_or c.args.numbers.now c.loop-z.z-index (pos 0) in
    let f : SFits w32 z = search rules in
    let least = pos 0 -ℤ pos c.args.limit in
    let both : c.loop-z.inside && le_z least z && le_z z (pos c.args.limit) ≡ c.loop-z.inside && within c.args.limit z =
    and_assoc c.loop-z.inside (le_z least z) (le_z z (pos c.args.limit)) ∙ ap (λ (b : Bool). c.loop-z.inside && b) (within_both z c.args.limit) in
    found-next _ _ (pos 0) c.loop-z.invariant c.loop-z-test.true (rw (most_is, to_z-of_z least_fits, to_z-of_z f) both)
