use mathlib.Core.Path.{sym, ◌∙◌}
use Prim.Native.Nat.{◌<◌}
use native.Mathlib.Omega.{arith}
use lib.ListN.{length}
use Rattle.base.proofs.Begins.{begins_more, begins_bad}
use Rattle.words.specs.LittleEndian.{number, unsigned}
use Rattle.words.proofs.Blocks.{length_decoded}
use Rattle.planfile.proofs.judge.has_table.Goals as goal

pub returns-then-number_at-table : goal.returns-then-number_at-table
returns-then-number_at-table c =
    let inside : c.loop-k.k < length (unsigned 4 c.args.file.now) = rw (length_decoded number 4 c.args.file.now) (omega arith) in
    let a = c.args in
    sym (begins_bad (unsigned 4 a.file.now) a.table.now c.loop-k.k (omega arith) inside (λ e. c.if-number_at-table.true (c.number_at.ensures ∙ e))) ∙ c.loop-k.invariant.1

pub loop-k-preserved : goal.loop-k-preserved
loop-k-preserved c =
    let inside : c.loop-k.k < length (unsigned 4 c.args.file.now) = rw (length_decoded number 4 c.args.file.now) (omega arith) in
    let a = c.args in
    (omega arith, sym (begins_more (unsigned 4 a.file.now) a.table.now c.loop-k.k (omega arith) inside (sym c.number_at.ensures ∙ c.if-number_at-table.false)) ∙ c.loop-k.invariant.1)
