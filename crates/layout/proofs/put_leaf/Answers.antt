use mathlib.Core.Path.{◌≡◌, subst}
use Prim.Native.Nat.{ℕ}
use native.Mathlib.Omega.{arith}
use lib.ListN.{get_or}
use Rattle.tables.specs.Code.Laid.{next_of}
use Rattle.layout.specs.Code.UpdateTable.{Filled}
use Rattle.layout.proofs.FilledRows.{filled_row}
use Rattle.layout.proofs.PutLeafNames.{Fits, put-fits}
use borrow.Author.Rules.{rules}
use Rattle.layout.proofs.put_leaf.Goals as goal
use Rattle.layout.proofs.put_leaf.Goals.{In-loop-p}

-- the numbers of a row fit
fits : (c : In-loop-p) → Fits c.args.i c.loop-p.p (get_or c.args.sizes.now c.loop-p.p 0) c.loop-p.next
fits c = let s = c.requires in put-fits s.2 s.3 c.loop-p.auto.p c.loop-p-test.true (c.loop-p.invariant.0 s.0 s.1 s.2 s.3 s.4 s.5)

pub overflow_cast-updates : goal.overflow_cast-updates
overflow_cast-updates c = let f = fits (goal.at.overflow_cast-updates c).In-loop-p in search rules

pub offset_bounds-updates-p : goal.offset_bounds-updates-p
offset_bounds-updates-p c = let f = fits (goal.at.offset_bounds-updates-p c).In-loop-p in search rules

pub bounds-updates-p : goal.bounds-updates-p
bounds-updates-p c = let f = fits (goal.at.bounds-updates-p c).In-loop-p in search rules

pub offset_bounds-updates-p-in-loop-p : goal.offset_bounds-updates-p-in-loop-p
offset_bounds-updates-p-in-loop-p c = let f = fits (goal.at.offset_bounds-updates-p-in-loop-p c).In-loop-p in search rules

pub bounds-updates-p-in-loop-p : goal.bounds-updates-p-in-loop-p
bounds-updates-p-in-loop-p c = let f = fits (goal.at.bounds-updates-p-in-loop-p c).In-loop-p in search rules

pub offset_bounds-sizes-p : goal.offset_bounds-sizes-p
offset_bounds-sizes-p c = let f = fits (goal.at.offset_bounds-sizes-p c).In-loop-p in search rules

pub bounds-sizes-p : goal.bounds-sizes-p
bounds-sizes-p c = let f = fits (goal.at.bounds-sizes-p c).In-loop-p in search rules

pub put_row-next-requires : goal.put_row-next-requires
put_row-next-requires c = let f = fits (goal.at.put_row-next-requires c).In-loop-p in (f.few, f.some, f.room)

pub loop-p-preserved : goal.loop-p-preserved
loop-p-preserved c = (
  λ j w t h e f. (let u = c.loop-p.invariant.0 j w t h e f in filled_row t h c.loop-p.auto.p c.loop-p-test.true u.1 u.0 c.put_row-next.ensures),
  c.loop-p.invariant.1,
)

pub returns : goal.returns
returns c =
    let e : c.loop-p.p ≡ c.args.end = omega (arith, c.loop-p.auto.p-end, c.loop-p-test.false, c.requires.3.rises) in
    let u = c.loop-p.updates in
    (λ j w t h q f. subst (λ (p : ℕ). (c.loop-p.next ≡ next_of j w p) × Filled j p u.row u.begins u.leaves) e (c.loop-p.invariant.0 j w t h q f), c.loop-p.invariant.1)
