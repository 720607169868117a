-- `passes::Shaped::is_small`: the row starts and the values reach the last row's end.
use mathlib.Core.Path.{sym}
use native.Mathlib.Omega.{arith}
use lib.ListN.{get_or}
use lib.Seq.{length-take-le}
use Rattle.matrix.proofs.Checks.{shape}
use Rattle.symmetric.proofs.passes.Shaped.is_small.Goals as goal

pub offset_bounds-m-m : goal.offset_bounds-m-m
offset_bounds-m-m c = omega (arith, (shape _ c.args.self.now.shape).few)

pub bounds-m-m : goal.bounds-m-m
bounds-m-m c = (shape _ c.args.self.now.shape).starts-long

pub slice_bounds-all_within-end : goal.slice_bounds-all_within-end
slice_bounds-all_within-end c =
    let m = c.args.self.now.m in
    sym (length-take-le (get_or m.starts.now m.n 0) m.values.now (shape _ c.args.self.now.shape).values-long)
