use mathlib.Core.Path.{◌≡◌, refl, ap, ◌∙◌}
use native.Mathlib.Omega.{arith}
use lib.IntN.{pos}
use borrow.Author.Rules.{rules}
use mir.Syntax.{w32}
use mir.Val.{SFits}
use mir.Facts.{to_z-of_z}
use Rattle.base.proofs.Fill.{filled_next}
use Rattle.matrix.specs.Matrix.{lookup}
use Rattle.survey.specs.Survey.{with_sign}
use Rattle.survey.proofs.Rows.{passed_none}
use Rattle.survey.proofs.shift.put_shift.Goals as goal

pub loop-j-init : goal.loop-j-init
loop-j-init c = (passed_none _ c.requires.ascends, refl)

pub loop-j-preserved : goal.loop-j-preserved
loop-j-preserved c =
    let a = c.args in
    let f : SFits w32 c.with_sign.result = search rules in
    let g : SFits w32 c.value.result = search rules in
    let is : c.with_sign.result ≡ with_sign a.t (lookup c.loop-j.j a.columns.now a.values.now) = (simp (to_z-of_z g) at c.with_sign.ensures) ∙ ap (with_sign a.t) c.value.ensures in (
      c.past-k.ensures,
      rw (to_z-of_z f, is, c.loop-j.invariant.1) (filled_next (λ j. with_sign a.t (lookup j a.columns.now a.values.now)) a.out.now (pos 0) c.loop-j.j (omega (arith, c.requires.long))),
    )
