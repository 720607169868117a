use mathlib.Core.Path.{◌≡◌, sym, ap, ◌∙◌}
use native.Mathlib.Omega.{arith}
use Rattle.plan.specs.Groups.{Group}
use Rattle.plan.specs.Code.Checks.{record_at}
use Rattle.plan.proofs.Nested.{children-ended, children-past, children-over}
use Rattle.shape.proofs.tiling.next_child.Goals as goal

pub returns-then-parent-k-2 : goal.returns-then-parent-k-2
returns-then-parent-k-2 c =
    let p = c.args.plan.now in
    let parent = ap (λ (g : Group). g.parent) c.record-parent.ensures in
    record {
      from_on = omega (arith, c.requires.3);
      within = omega arith;
      same = c.loop-i.invariant.2
          ∙ children-ended p.count p.groups.now c.requires.1 c.args.k c.loop-i.i (omega (arith, c.requires.2)) (omega arith) (omega (arith, parent))
          ∙ sym (children-over p.count c.args.k p.count p.groups.now (omega arith));
      child = λ i e. absurd (cc);
    }

pub loop-i-preserved : goal.loop-i-preserved
loop-i-preserved c =
    let p = c.args.plan.now in
    let parent = ap (λ (g : Group). g.parent) c.record-parent.ensures in (
      omega arith,
      omega arith,
      c.loop-i.invariant.2 ∙ children-past p.count c.args.k c.loop-i.i p.groups.now (omega arith) (λ (e : (record_at p.groups.now c.loop-i.i).parent ≡ c.args.k). c.if-parent-k.false (parent ∙ e)),
    )
