use mathlib.Core.Path.{◌≡◌, ap, ◌∙◌}
use Prim.Native.Nat.{ℕ}
use native.Mathlib.Omega.{arith}
use native.Mathlib.Numerals.{add-one}
use lib.ListN.{length, get_or}
use Rattle.run.specs.Updates.{up_to}
use Rattle.layout.proofs.CountRows.{row_fits}
use Rattle.layout.proofs.LeafUpdatesNames.{Fits, updates-fit}
use borrow.Author.Rules.{rules}
use Rattle.layout.proofs.counts.leaf_updates.Goals as goal
use Rattle.layout.proofs.counts.leaf_updates.Goals.{In-loop-p}

-- the numbers of a row fit
fits : (c : In-loop-p) → Fits c.loop-p.p (get_or c.args.sizes.now c.loop-p.p 0) c.loop-p.updates
fits c = let s = c.requires in updates-fit s.3 s.4 c.loop-p.auto.p c.loop-p-test.true (c.loop-p.invariant s.0 s.1 s.2 s.3 s.4)

pub offset_bounds-sizes-p : goal.offset_bounds-sizes-p
offset_bounds-sizes-p c = let f = fits (goal.at.offset_bounds-sizes-p c).In-loop-p in search rules

pub bounds-sizes-p : goal.bounds-sizes-p
bounds-sizes-p c = let f = fits (goal.at.bounds-sizes-p c).In-loop-p in search rules

pub overflow_add-updates : goal.overflow_add-updates
overflow_add-updates c = let f = fits (goal.at.overflow_add-updates c).In-loop-p in search rules

pub loop-p-preserved : goal.loop-p-preserved
loop-p-preserved c = λ j i w t h.
    (let f = row_fits t h c.loop-p.p c.loop-p.auto.p c.loop-p-test.true in
    rw (add-one c.loop-p.p) (omega (arith, f.one_more, f.some, c.loop-p.invariant j i w t h)))

pub returns : goal.returns
returns c =
    let e : c.loop-p.p ≡ c.args.end = omega (arith, c.loop-p.auto.p-end, c.loop-p-test.false, c.requires.4.rises) in
    λ j i w t h. c.loop-p.invariant j i w t h ∙ ap (λ (p : ℕ). length (up_to j w p)) e
