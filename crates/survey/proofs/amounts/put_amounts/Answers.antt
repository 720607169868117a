use mathlib.Core.Path.{◌≡◌, sym, ap, ◌∙◌}
use native.Mathlib.Omega.{arith}
use lib.IntN.{pos, nat_abs, ◌*ℤ◌}
use borrow.Author.Rules.{rules}
use mir.Syntax.{w64}
use mir.Val.{SFits, to_z}
use mir.Facts.{to_z-of_z, to_z_pos}
use Rattle.base.specs.Lists.{sum_below}
use Rattle.base.proofs.Fill.{filled_next}
use Rattle.base.proofs.Integers.{fits-abs}
use Rattle.matrix.specs.Matrix.{Matrix, values_of, entry}
use Rattle.matrix.specs.Held.{held}
use Rattle.matrix.proofs.Checks.{matrix_tidy}
use Rattle.matrix.proofs.Rows.{values-part, values_in}
use Rattle.survey.specs.Survey.{amount, amounts_of}
use Rattle.survey.proofs.Rows.{row_sizes, row_fits}
use Rattle.survey.proofs.SurveyError.{fits}
use Rattle.survey.proofs.amounts.put_amounts.Goals as goal

pub values_of-requires : goal.values_of-requires
values_of-requires c = values_in _ (matrix_tidy _ c.requires.matrix).shape c.loop-i.i c.loop-i-test.true

pub sizes-requires : goal.sizes-requires
sizes-requires c =
    let given : Matrix = held c.args.m.now in
    row_fits given c.requires.matrix c.loop-i.i c.loop-i-test.true (c.values_of.ensures ∙ sym (values-part given c.loop-i.i c.loop-i-test.true))

pub overflow_mul-out : goal.overflow_mul-out
unfolding amount
overflow_mul-out c =
    let times-is : to_z w64 c.args.t ≡ pos c.args.t = to_z_pos w64 (omega arith) in
    let given : Matrix = held c.args.m.now in
    let values : c.values_of.result.now ≡ values_of given c.loop-i.i = c.values_of.ensures ∙ sym (values-part given c.loop-i.i c.loop-i-test.true) in
    let summed : c.sizes.result ≡ pos (sum_below (λ j. nat_abs (entry given c.loop-i.i j)) given.n) = c.sizes.ensures ∙ ap pos (row_sizes given c.requires.matrix c.loop-i.i c.loop-i-test.true values) in
    let made-fits : SFits w64 (pos c.args.t *ℤ c.sizes.result) = rw summed (fits-abs (omega (arith, fits given c.args.t c.requires.matrix c.requires.error c.loop-i.i))) in
    let f : SFits w64 c.sizes.result = search rules in
    simp (times-is, to_z-of_z f) made-fits

pub loop-i-preserved : goal.loop-i-preserved
unfolding amount
loop-i-preserved c =
    let times-is : to_z w64 c.args.t ≡ pos c.args.t = to_z_pos w64 (omega arith) in
    let given : Matrix = held c.args.m.now in
    let values : c.values_of.result.now ≡ values_of given c.loop-i.i = c.values_of.ensures ∙ sym (values-part given c.loop-i.i c.loop-i-test.true) in
    let summed : c.sizes.result ≡ pos (sum_below (λ j. nat_abs (entry given c.loop-i.i j)) given.n) = c.sizes.ensures ∙ ap pos (row_sizes given c.requires.matrix c.loop-i.i c.loop-i-test.true values) in
    let made : pos c.args.t *ℤ c.sizes.result ≡ pos (amount given c.args.t c.loop-i.i) = rw summed in
    let made-fits : SFits w64 (pos c.args.t *ℤ c.sizes.result) = rw made (fits-abs (omega (arith, fits given c.args.t c.requires.matrix c.requires.error c.loop-i.i))) in
    let f : SFits w64 c.sizes.result = search rules in
    simp (times-is, to_z-of_z f, to_z-of_z made-fits)
    (rw (made, c.loop-i.invariant) (filled_next (λ i. pos (amount given c.args.t i)) c.args.out.now (pos 0) c.loop-i.i (omega (arith, c.requires.long))))

pub returns : goal.returns
unfolding amounts_of
returns c = let e : c.loop-i.i ≡ c.args.m.now.n = omega arith in rw e at c.loop-i.invariant
