use borrow.Author.Rules.{rules}
use native.Mathlib.Omega.{arith}
use mir.Syntax.{w32}
use mir.Val.{SFits}
use mir.Facts.{to_z-of_z}
use Rattle.compress.proofs.entries.Listed.{length_listed}
use Rattle.reader.proofs.entries.Rising.{sorted_more}
use Rattle.reader.proofs.entries.read_sorted.Goals as goal

pub push-requires : goal.push-requires
push-requires c = omega (arith, c.loop-i.invariant.size, length_listed c.loop-i.list, c.args.size.now.within.count)

pub loop-i-preserved : goal.loop-i-preserved
loop-i-preserved c =
    let in-range : SFits w32 c.in-Ok.e.value = search rules in
    rw (simp (to_z-of_z in-range) at c.push.ensures.entries)
    (sorted_more c.loop-i.invariant (omega arith) c.in-Ok.e c.in-Ok.ensures c.if-key-low.false)
