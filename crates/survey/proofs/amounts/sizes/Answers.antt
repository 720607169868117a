use mathlib.Core.Path.{◌≡◌}
use Prim.Native.Nat.{suc}
use native.Mathlib.Numerals.{add-one}
use native.Mathlib.Omega.{arith}
use lib.IntN.{pos, nat_abs, ◌+ℤ◌}
use lib.ListN.{get_or}
use borrow.Author.Rules.{rules}
use mir.Syntax.{w32, w64}
use mir.Val.{SFits, to_z}
use mir.Facts.{to_z-of_z, to_z_pos}
use Rattle.base.proofs.Integers.{fits-abs}
use Rattle.survey.specs.Code.Rows.{sizes_to}
use Rattle.survey.proofs.Rows.{sizes_none, sizes_next, sizes_up}
use Rattle.survey.proofs.amounts.sizes.Goals as goal

pub loop-v-init : goal.loop-v-init
loop-v-init c = rw (sizes_none c.args.values.now)

pub overflow_add-sum : goal.overflow_add-sum
overflow_add-sum c =
    let vs = c.args.values.now in
    let k = c.loop-v.v-index in
    let narrow : SFits w32 (get_or vs k (pos 0)) = search rules in
    let made : c.unsigned_abs.result ≡ nat_abs (get_or vs k (pos 0)) = simp (to_z-of_z narrow) at c.unsigned_abs.ensures.value in
    let is : to_z w64 c.unsigned_abs.result ≡ pos c.unsigned_abs.result = to_z_pos w64 (omega arith) in
    rw (c.loop-v.invariant, is) (fits-abs (omega (arith, made, sizes_next vs k, sizes_up vs (suc k) c.loop-v-test.true, c.requires)))

pub loop-v-preserved : goal.loop-v-preserved
loop-v-preserved c =
    let vs = c.args.values.now in
    let k = c.loop-v.v-index in
    let narrow : SFits w32 (get_or vs k (pos 0)) = search rules in
    let made : c.unsigned_abs.result ≡ nat_abs (get_or vs k (pos 0)) = simp (to_z-of_z narrow) at c.unsigned_abs.ensures.value in
    let is : to_z w64 c.unsigned_abs.result ≡ pos c.unsigned_abs.result = to_z_pos w64 (omega arith) in
    let fits : SFits w64 (pos (sizes_to vs k) +ℤ pos c.unsigned_abs.result) = fits-abs (omega (arith, made, sizes_next vs k, sizes_up vs (suc k) c.loop-v-test.true, c.requires)) in
    rw (c.loop-v.invariant, is, to_z-of_z fits, add-one k, sizes_next vs k, made)
