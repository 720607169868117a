-- `put`: the two tests, then the entry.
use mathlib.Core.Bool.{not}
use mathlib.Core.Path.{ap}
use mathlib.Core.Path.{◌≡◌}
use native.Mathlib.Omega.{arith}
use lib.IntN.{ℤ, nat_abs}
use mathlib.Core.Bool.{true}
use mir.Syntax.{w32}
use mir.Val.{SFits}
use mir.Facts.{to_z-of_z}
use borrow.Author.Tests.{leb-true}
use Rattle.compress.proofs.entries.Listed.{length_listed}
use Rattle.base.specs.Integers.{within}
use Rattle.base.proofs.Booleans.{fails, holds}
use Rattle.base.proofs.Integers.{fits-abs}
use Rattle.matrix.specs.Limits.{max_value}
use Rattle.joined.proofs.Emitting.{added_one, broken_large, broken_many}
use Rattle.joined.proofs.puts.put.Goals as goal

narrow : (z : ℤ) → within max_value z ≡ true → SFits w32 z
unfolding within
narrow z h = fits-abs (omega (arith, leb-true (nat_abs z) max_value h))

pub returns-then-not-in_limits : goal.returns-then-not-in_limits
returns-then-not-in_limits c =
    let tested : c.in_limits.result ≡ within max_value c.args.v = simp (to_z-of_z c.ranges.v) at c.in_limits.ensures in
    broken_large _ _ (fails tested (ap not c.if-not-in_limits.true))

pub overflow_cast-v : goal.overflow_cast-v
overflow_cast-v c =
    let tested : c.in_limits.result ≡ within max_value c.args.v = simp (to_z-of_z c.ranges.v) at c.in_limits.ensures in
    simp (to_z-of_z c.ranges.v) (narrow c.args.v (holds tested (ap not c.if-not-in_limits.false)))

pub returns-then-list-ge-MAX_ENTRIES : goal.returns-then-list-ge-MAX_ENTRIES
returns-then-list-ge-MAX_ENTRIES c = broken_many _ _ (omega (arith, length_listed c.args.list.now, c.if-list-ge-MAX_ENTRIES.true))

pub returns : goal.returns
returns c =
    let tested : c.in_limits.result ≡ within max_value c.args.v = simp (to_z-of_z c.ranges.v) at c.in_limits.ensures in
    let small = holds tested (ap not c.if-not-in_limits.false) in
    rw (simp (to_z-of_z c.ranges.v, to_z-of_z (narrow c.args.v small)) at c.push.ensures.entries) (added_one _ _ small)
