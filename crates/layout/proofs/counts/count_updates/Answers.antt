use mathlib.Core.Path.{◌≡◌, refl, sym, ap, ◌∙◌, subst}
use Prim.Native.Nat.{ℕ, ◌+◌, ◌/◌}
use native.Mathlib.Omega.{arith}
use native.Mathlib.Numerals.{add-one}
use lib.ListN.{length, get_or}
use Rattle.base.proofs.Lists.{get_d_zeros}
use Rattle.plan.specs.Groups.{width}
use Rattle.layout.specs.Code.UpdateTable.{Numbers, reached}
use Rattle.layout.proofs.LeafRows.{in_order_lem, reached_group, all-reached}
use Rattle.layout.proofs.CountRows.{numbers-none}
use Rattle.layout.proofs.CountUpdatesNames.{Fits, childless, with_child, leaf-fits, leaf-numbers}
use Rattle.layout.proofs.LayNames.{leaf-stretch}
use borrow.Author.Rules.{rules}
use Rattle.layout.proofs.counts.count_updates.Goals as goal
use Rattle.layout.proofs.counts.count_updates.Goals.{After-leaf_updates}

-- the numbers of a leaf fit
fits : (c : After-leaf_updates) → Fits c.get-g.result.first (get_or c.loop-i.first (c.get-g.result.first + 1) 0) c.leaf_updates.result
fits c =
    let s = c.requires in
    let no = childless c.is_leaf.ensures c.if-not-is_leaf.false in
    let h = leaf-stretch s.1 c.loop-i-test.true no c.get-g.ensures in
    leaf-fits s.1 c.loop-i-test.true no c.get-g.ensures (c.loop-i.invariant s.0 s.1) _ (c.leaf_updates.ensures s.0 _ _ s.1.sized h)

pub loop-i-init : goal.loop-i-init
unfolding reached
loop-i-init c = λ j g. numbers-none j refl (get_d_zeros 17)

pub is_leaf-requires : goal.is_leaf-requires
is_leaf-requires c = let g = c.requires.1 in ((in_order_lem g).0, c.loop-i-test.true)

pub loop-i-preserved-then-not-is_leaf : goal.loop-i-preserved-then-not-is_leaf
loop-i-preserved-then-not-is_leaf c =
    let groups = c.args.plan.now.groups.now in
    λ j g. subst (λ (p : ℕ). Numbers j p c.loop-i.first)
    (sym (ap (reached (length groups / width) groups) (add-one c.loop-i.i) ∙ reached_group g c.loop-i.i c.loop-i-test.true (with_child c.is_leaf.ensures c.if-not-is_leaf.true)))
    (c.loop-i.invariant j g)

pub leaf_updates-requires : goal.leaf_updates-requires
leaf_updates-requires c =
    let s = c.requires in
    (s.0, _, _, s.1.sized, leaf-stretch s.1 c.loop-i-test.true (childless c.is_leaf.ensures c.if-not-is_leaf.false) c.get-g.ensures)

pub overflow_cast-first : goal.overflow_cast-first
overflow_cast-first c = let f = fits (goal.at.overflow_cast-first c).After-leaf_updates in search rules

pub bounds-first-g : goal.bounds-first-g
bounds-first-g c = let f = fits (goal.at.bounds-first-g c).After-leaf_updates in search rules

pub overflow_add-first-in-loop-i : goal.overflow_add-first-in-loop-i
overflow_add-first-in-loop-i c = let f = fits (goal.at.overflow_add-first-in-loop-i c).After-leaf_updates in search rules

pub bounds-first-g-in-loop-i : goal.bounds-first-g-in-loop-i
bounds-first-g-in-loop-i c = let f = fits (goal.at.bounds-first-g-in-loop-i c).After-leaf_updates in search rules

pub loop-i-preserved : goal.loop-i-preserved
loop-i-preserved c =
    let no = childless c.is_leaf.ensures c.if-not-is_leaf.false in
    λ j g. leaf-numbers g c.loop-i-test.true no c.get-g.ensures (c.loop-i.invariant j g) _
    (c.leaf_updates.ensures j _ _ g.sized (leaf-stretch g c.loop-i-test.true no c.get-g.ensures))

pub returns : goal.returns
returns c =
    let groups = c.args.plan.now.groups.now in
    let e : c.loop-i.i ≡ length groups / width = omega arith in
    λ j g. subst (λ (p : ℕ). Numbers j p c.loop-i.first) (ap (reached (length groups / width) groups) e ∙ all-reached g) (c.loop-i.invariant j g)
