-- `next_pair` meets its contract.
use mathlib.Core.Path.{refl, sym}
use native.Mathlib.Omega.{arith}
use Prim.Native.Nat.{◌-◌}
use borrow.Author.Rules.{rules}
use lib.Seq.{length-take-le}
use Rattle.extents.proofs.Ends.{sum-split}
use Rattle.cycle.proofs.PairPlans.{levels-found, bounds_found}
use Rattle.cycle.proofs.next_pair.Goals as goal

pub slice_bounds-cut-end : goal.slice_bounds-cut-end
slice_bounds-cut-end c =
    let l = levels-found _ _ _ _ c.args.policy c.requires.1 c.requires.2 c.next_extent-e.ensures.0 in
    sym (length-take-le c.next_extent-e.result.levels c.args.levels.now.loads.now l.1)

pub cut-c-requires : goal.cut-c-requires
cut-c-requires c =
    let qs = c.args.levels.now.loads.now in
    let k = c.next_extent-e.result.levels in
    let l = levels-found _ _ _ _ c.args.policy c.requires.1 c.requires.2 c.next_extent-e.ensures.0 in
    (omega (arith, sum-split k qs), omega arith, rw (length-take-le k qs l.1) l.0)

pub overflow_sub-red_end : goal.overflow_sub-red_end
overflow_sub-red_end c =
    let b = bounds_found _ _ _ _ c.args.policy c.requires.1 c.requires.2 c.next_extent-e.ensures.0 c.cut-c.ensures in omega arith

pub offset_bounds-levels-c : goal.offset_bounds-levels-c
offset_bounds-levels-c c =
    let b = bounds_found _ _ _ _ c.args.policy c.requires.1 c.requires.2 c.next_extent-e.ensures.0 c.cut-c.ensures in search rules

pub bounds-levels-c : goal.bounds-levels-c
bounds-levels-c c =
    let b = bounds_found _ _ _ _ c.args.policy c.requires.1 c.requires.2 c.next_extent-e.ensures.0 c.cut-c.ensures in omega (arith, c.requires)

pub overflow_sub-end : goal.overflow_sub-end
overflow_sub-end c =
    let b = bounds_found _ _ _ _ c.args.policy c.requires.1 c.requires.2 c.next_extent-e.ensures.0 c.cut-c.ensures in omega arith

pub offset_bounds-levels-e : goal.offset_bounds-levels-e
offset_bounds-levels-e c =
    let b = bounds_found _ _ _ _ c.args.policy c.requires.1 c.requires.2 c.next_extent-e.ensures.0 c.cut-c.ensures in search rules

pub bounds-levels-e : goal.bounds-levels-e
bounds-levels-e c =
    let b = bounds_found _ _ _ _ c.args.policy c.requires.1 c.requires.2 c.next_extent-e.ensures.0 c.cut-c.ensures in omega (arith, c.requires)

pub overflow_sub-result : goal.overflow_sub-result
overflow_sub-result c =
    let b = bounds_found _ _ _ _ c.args.policy c.requires.1 c.requires.2 c.next_extent-e.ensures.0 c.cut-c.ensures in
    c.requires.4 (c.cut-c.result - 1) (omega (arith, c.requires.3))

pub overflow_sub-result-2 : goal.overflow_sub-result-2
overflow_sub-result-2 c =
    let b = bounds_found _ _ _ _ c.args.policy c.requires.1 c.requires.2 c.next_extent-e.ensures.0 c.cut-c.ensures in
    c.requires.4 (c.next_extent-e.result.levels - 1) (omega (arith, c.requires.3))

pub returns : goal.returns
returns c = (c.next_extent-e.ensures.0, c.next_extent-e.ensures.1, rw c.cut-c.ensures refl, refl)
