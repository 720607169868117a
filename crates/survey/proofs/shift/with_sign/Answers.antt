-- `with_sign`: test by test.
use mathlib.Core.Path.{◌≡◌}
use native.Mathlib.Omega.{arith}
use lib.IntN.{pos, ◌-ℤ◌}
use mir.Syntax.{w32}
use mir.Val.{SFits, to_z}
use mir.Facts.{to_z-of_z, to_z_pos}
use Rattle.base.proofs.Integers.{abs-sub, fits-abs}
use Rattle.survey.proofs.Rows.{sign_up, sign_down, sign_none}
use Rattle.survey.proofs.shift.with_sign.Goals as goal

pub returns-then-v-gt0 : goal.returns-then-v-gt0
returns-then-v-gt0 c =
    let up_is : to_z w32 c.args.t ≡ pos c.args.t = to_z_pos w32 (omega arith) in
    rw up_is (sign_up c.args.t c.args.v (simp (to_z-of_z c.ranges.v) at c.if-v-gt0.true))

pub returns-then-v-lt0 : goal.returns-then-v-lt0
returns-then-v-lt0 c =
    let up_is : to_z w32 c.args.t ≡ pos c.args.t = to_z_pos w32 (omega arith) in
    let down_fits : SFits w32 (pos 0 -ℤ pos c.args.t) = fits-abs (omega (arith, abs-sub (pos 0) (pos c.args.t))) in
    simp (up_is, to_z-of_z down_fits) (sign_down c.args.t c.args.v (simp (to_z-of_z c.ranges.v) at c.if-v-lt0.true))

pub returns-else-v-lt0 : goal.returns-else-v-lt0
returns-else-v-lt0 c = sign_none c.args.t c.args.v (simp (to_z-of_z c.ranges.v) at c.if-v-gt0.false) (simp (to_z-of_z c.ranges.v) at c.if-v-lt0.false)
