use mathlib.Core.Path.{◌≡◌, ap₂, ◌∙◌}
use mathlib.Core.List.{List, ◌++◌, append-nil}
use Prim.Native.Nat.{ℕ}
use native.Mathlib.Omega.{arith}
use lib.ListN.{length, drop_of_length-le}
use lib.Seq.{take_all}
use borrow.Author.Rules.{rules}
use Rattle.matrix.specs.Limits.{max_rows}
use Rattle.base.proofs.Stored.{copied_next}
use Rattle.upper.proofs.copy_parts.Goals as goal

pub loop-p-preserved : goal.loop-p-preserved
loop-p-preserved c =
    let a = c.args in
    let long : length a.parts.now ≡ max_rows = let g = c.well_formed in search rules in
    let room : length a.sizes.now ≡ max_rows = let g = c.well_formed in search rules in
    rw c.loop-p.invariant (copied_next a.parts.now a.sizes.now c.loop-p.p (omega (arith, long, c.loop-p-test.true)) (omega (arith, long, room)))

pub returns : goal.returns
returns c =
    let a = c.args in
    let p = c.loop-p.p in
    let long : length a.parts.now ≡ max_rows = let g = c.well_formed in search rules in
    let room : length a.sizes.now ≡ max_rows = let g = c.well_formed in search rules in
    c.loop-p.invariant
    ∙ ap₂ (λ (xs ys : List ℕ). xs ++ ys) (take_all p a.parts.now (omega (arith, long, c.loop-p-test.false))) (drop_of_length-le a.sizes.now (omega (arith, room, c.loop-p-test.false)))
    ∙ append-nil a.parts.now
