use borrow.Author.Rules.{rules}
use native.Mathlib.Omega.{arith}
use Rattle.writer.proofs.puts.Widths.{reached-start, reached_more}
use Rattle.writer.proofs.puts.width.Goals as goal

pub loop-k-init : goal.loop-k-init
loop-k-init c = (reached-start c.args.v (search rules), c.requires.0)

pub loop-k-preserved : goal.loop-k-preserved
loop-k-preserved c = (reached_more c.loop-k.invariant.0, omega arith)
