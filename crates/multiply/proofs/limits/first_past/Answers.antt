use mathlib.Core.Path.{◌≡◌, sym, ◌∙◌}
use native.Mathlib.Numerals.{add-one}
use native.Mathlib.Omega.{arith}
use lib.IntN.{pos}
use lib.ListN.{length, get_or}
use borrow.Author.Rules.{rules}
use mir.Syntax.{w32}
use mir.Val.{SFits}
use mir.Facts.{to_z-of_z}
use Rattle.base.specs.Integers.{within}
use Rattle.matrix.proofs.Within.{past-here, past-later, past_end}
use Rattle.multiply.proofs.limits.first_past.Goals as goal

pub returns-then-not-is_within : goal.returns-then-not-is_within
returns-then-not-is_within c =
    let f : SFits w32 (get_or c.args.numbers.now c.loop-k.k (pos 0)) = search rules in
    let tested : within c.args.limit (get_or c.args.numbers.now c.loop-k.k (pos 0)) ≡ c.is_within.result = sym (simp (to_z-of_z f) at c.is_within.ensures) in
    omega (arith, past-here c.args.limit c.args.numbers.now c.loop-k.k (omega arith) (tested ∙ c.if-not-is_within.true))

pub loop-k-preserved : goal.loop-k-preserved
loop-k-preserved c =
    let f : SFits w32 (get_or c.args.numbers.now c.loop-k.k (pos 0)) = search rules in
    let tested : within c.args.limit (get_or c.args.numbers.now c.loop-k.k (pos 0)) ≡ c.is_within.result = sym (simp (to_z-of_z f) at c.is_within.ensures) in
    let e = past-later c.args.limit c.args.numbers.now c.loop-k.k (omega arith) (tested ∙ c.if-not-is_within.false) in
    rw add-one (omega arith)

pub returns : goal.returns
returns c =
    let e : c.loop-k.k ≡ length c.args.numbers.now = omega arith in
    omega (arith, past_end c.args.limit c.args.numbers.now, rw e at c.loop-k.invariant)
