use mathlib.Core.Path.{sym, ◌∙◌}
use mathlib.Core.Bool.{true≢false}
use native.Mathlib.Omega.{arith}
use lib.ListN.{length-set}
use Rattle.joined.proofs.Settled.{settled_none, settled_next, not-distinct}
use Rattle.joined.proofs.tenants.put_tenants.Goals as goal

pub loop-k-init : goal.loop-k-init
loop-k-init c = (settled_none c.args.n c.args.list.now c.args.tenants.now c.requires.3, c.requires.2)

pub returns-then-tenants-p-ne0 : goal.returns-then-tenants-p-ne0
returns-then-tenants-p-ne0 c =
    record { test = sym (not-distinct c.args.n c.args.list.now c.loop-k.invariant.0 c.loop-k-test.true c.if-tenants-p-ne0.true); tenants = λ e. absurd (true≢false (sym e)) }

pub loop-k-preserved : goal.loop-k-preserved
loop-k-preserved c =
    let low = c.if-n-p.false in
    (settled_next c.args.n c.args.list.now c.loop-k.invariant.0 c.loop-k-test.true low (omega (arith, c.loop-k.invariant.1, c.requires.0)) c.if-tenants-p-ne0.false, length-set c.loop-k.tenants _ _ ∙ c.loop-k.invariant.1)
