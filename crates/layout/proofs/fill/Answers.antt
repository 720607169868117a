use mathlib.Core.Path.{◌≡◌}
use Prim.Native.Nat.{◌/◌}
use native.Mathlib.Omega.{arith}
use lib.ListN.{length, get_or}
use Rattle.plan.specs.Groups.{width}
use Rattle.layout.proofs.LeafRows.{in_order_lem, read}
use Rattle.layout.proofs.FilledRows.{walked_none, walked_group, walked-read, all_laid}
use Rattle.layout.proofs.CountUpdatesNames.{childless, with_child}
use Rattle.layout.proofs.LayNames.{Fits, EndFits, leaf-stretch, place-is, filled-before, leaf-fits, end-fits}
use borrow.Author.Rules.{rules}
use Rattle.layout.proofs.fill.Goals as goal
use Rattle.layout.proofs.fill.Goals.{After-get-g, After-put_leaf-after}

-- the numbers of a leaf fit
fits : (c : After-get-g) → Fits c.loop-i.i c.get-g.result.first (get_or c.loop-i.next c.get-g.result.first 0)
fits c =
    let s = c.requires in
    leaf-fits s.1 c.loop-i-test.true (childless c.is_leaf.ensures c.if-not-is_leaf.false) c.get-g.ensures (c.loop-i.invariant s.0 s.1 s.2 s.3)

-- .. and so does the place after its updates
ended : (c : After-put_leaf-after) → EndFits c.put_leaf-after.result (get_or c.args.first.now c.get-g.result.first 0)
ended c =
    let s = c.requires in
    let l = c.loop-i-test.true in
    let is = c.get-g.ensures in
    let no = childless c.is_leaf.ensures c.if-not-is_leaf.false in
    let t = c.loop-i.invariant s.0 s.1 s.2 s.3 in
    end-fits s.1 l no is s.2 (c.put_leaf-after.ensures.0 s.0 _ s.1.sized (leaf-stretch s.1 l no is) (place-is s.1 l no is t) (filled-before s.1 l no is t)).0

pub loop-i-init : goal.loop-i-init
loop-i-init c = λ j g k b. walked_none g k b

pub is_leaf-requires : goal.is_leaf-requires
is_leaf-requires c = let g = c.requires.1 in ((in_order_lem g).0, c.loop-i-test.true)

pub loop-i-preserved-then-not-is_leaf : goal.loop-i-preserved-then-not-is_leaf
loop-i-preserved-then-not-is_leaf c = λ j g k b.
    walked_group g k c.loop-i-test.true (c.loop-i.invariant j g k b) (with_child c.is_leaf.ensures c.if-not-is_leaf.true)

pub bounds-next-w : goal.bounds-next-w
bounds-next-w c = let f = fits (goal.at.bounds-next-w c).After-get-g in search rules

pub bounds-next-w-in-loop-i : goal.bounds-next-w-in-loop-i
bounds-next-w-in-loop-i c = let f = fits (goal.at.bounds-next-w-in-loop-i c).After-get-g in search rules

pub bounds-first-w : goal.bounds-first-w
bounds-first-w c = let f = fits (goal.at.bounds-first-w c).After-get-g in search rules

pub bounds-updates-i : goal.bounds-updates-i
bounds-updates-i c = let f = fits (goal.at.bounds-updates-i c).After-get-g in search rules

pub put_leaf-after-requires : goal.put_leaf-after-requires
put_leaf-after-requires c =
    let s = c.requires in
    let no = childless c.is_leaf.ensures c.if-not-is_leaf.false in
    let t = c.loop-i.invariant s.0 s.1 s.2 s.3 in
    (s.0, _, s.1.sized, leaf-stretch s.1 c.loop-i-test.true no c.get-g.ensures, place-is s.1 c.loop-i-test.true no c.get-g.ensures t, filled-before s.1 c.loop-i-test.true no c.get-g.ensures t)

pub overflow_cast-next : goal.overflow_cast-next
overflow_cast-next c = let f = ended (goal.at.overflow_cast-next c).After-put_leaf-after in search rules

pub overflow_cast-updates : goal.overflow_cast-updates
overflow_cast-updates c = let f = ended (goal.at.overflow_cast-updates c).After-put_leaf-after in search rules

pub overflow_sub-updates : goal.overflow_sub-updates
overflow_sub-updates c = let f = ended (goal.at.overflow_sub-updates c).After-put_leaf-after in search rules

pub overflow_mul-updates : goal.overflow_mul-updates
overflow_mul-updates c = let f = ended (goal.at.overflow_mul-updates c).After-put_leaf-after in search rules

pub loop-i-preserved : goal.loop-i-preserved
loop-i-preserved c =
    let no = childless c.is_leaf.ensures c.if-not-is_leaf.false in
    let l = c.loop-i-test.true in
    let is = c.get-g.ensures in
    λ j g k b.
    (let t = c.loop-i.invariant j g k b in
    rw c.put_leaf-after.ensures.1 (walked-read g k l t no (read g c.loop-i.i l no is)
    (c.put_leaf-after.ensures.0 j _ g.sized (leaf-stretch g l no is) (place-is g l no is t) (filled-before g l no is t))))

pub returns : goal.returns
returns c =
    let e : c.loop-i.i ≡ length c.args.plan.now.groups.now / width = omega arith in
    λ j g k b. all_laid g k e (c.loop-i.invariant j g k b)
