use mathlib.Core.Path.{◌≡◌, sym, ◌∙◌}
use Prim.Native.Nat.{◌+◌, ◌-◌}
use native.Mathlib.Omega.{arith}
use Rattle.shape.specs.Code.Shape.{path_of}
use Rattle.shape.proofs.Path.{up-found, up-past}
use Rattle.shape.proofs.nesting.up_to.Goals as goal

pub returns-then-path-k : goal.returns-then-path-k
returns-then-path-k c =
    let a = c.args in
    let e : c.loop-k.k - 1 + 1 ≡ c.loop-k.k = omega arith in
    (rw e (up-found a.path.now c.loop-k.k a.parent (omega arith) c.if-path-k.true ∙ c.loop-k.invariant), omega arith)

pub loop-k-preserved : goal.loop-k-preserved
loop-k-preserved c =
    let a = c.args in
    sym (up-past a.path.now c.loop-k.k a.parent (omega arith) c.if-path-k.false) ∙ c.loop-k.invariant

pub returns : goal.returns
unfolding path_of
returns c =
    let e : c.loop-k.k ≡ 0 = omega arith in
    (rw e at c.loop-k.invariant, omega arith)
