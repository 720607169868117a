use mathlib.Core.Path.{sym, ◌∙◌}
use native.Mathlib.Omega.{arith}
use Rattle.reader.proofs.opening.Comments.{ends-here, ends-later, never_ends}
use Rattle.reader.proofs.opening.line_end.Goals as goal

pub returns-then-class_of-eq-LINE_END : goal.returns-then-class_of-eq-LINE_END
returns-then-class_of-eq-LINE_END c =
    record {
      rest = λ k. c.loop-i.invariant k ∙ ends-here c.args.s.now c.loop-i.i k (omega arith) (sym c.class_of.ensures ∙ c.if-class_of-eq-LINE_END.true);
      later = (omega arith, omega arith);
    }

pub loop-i-preserved : goal.loop-i-preserved
loop-i-preserved c k =
    c.loop-i.invariant k ∙ ends-later c.args.s.now c.loop-i.i k (omega arith) (λ e. c.if-class_of-eq-LINE_END.false (c.class_of.ensures ∙ e))

pub returns : goal.returns
returns c = record { rest = λ k. c.loop-i.invariant k ∙ never_ends c.args.s.now c.loop-i.i k (omega arith); later = tt }
