-- `cut` meets its contract.
use mathlib.Core.Path.{sym}
use Prim.Native.Nat.{◌-◌}
use native.Mathlib.Omega.{arith}
use borrow.Author.Rules.{rules}
use lib.ListN.{length}
use lib.Seq.{length-take-le}
use Rattle.extents.proofs.Ends.{sum-split}
use Rattle.extents.proofs.PairEnd.{cut-is}
use Rattle.extents.proofs.cut.Goals as goal

pub slice_bounds-nearest_end-end : goal.slice_bounds-nearest_end-end
slice_bounds-nearest_end-end c = let a = c.args in sym (length-take-le (length a.loads.now - a.reach) a.loads.now (omega arith))

pub nearest_end-requires : goal.nearest_end-requires
nearest_end-requires c =
    let a = c.args in
    let qs = a.loads.now in
    (omega (arith, sum-split (length qs - a.reach) qs), search rules, search rules, rw (length-take-le (length qs - a.reach) qs (omega arith)) (omega arith))

pub returns : goal.returns
returns c =
    let a = c.args in
    cut-is a.reach a.loads.now c.nearest_end.result (omega arith) (omega arith) (rw c.total.ensures at c.nearest_end.ensures.0)
