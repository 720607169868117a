-- `check_current`: the product, then the list against it.
use mathlib.Core.Path.{◌≡◌, refl, sym, ◌∙◌}
use mathlib.Core.Bool.{true, false}
use mathlib.Core.List.{List}
use native.Mathlib.Omega.{arith}
use lib.IntN.{ℤ}
use lib.ListN.{take}
use lib.Seq.{length-take-le}
use lib.Pointwise.{pointwise}
use borrow.Author.Tests.{not-true, not-false}
use Rattle.base.proofs.Booleans.{clash}
use Rattle.std.specs.Bool.{Decides}
use Rattle.std.specs.Ordering.{int_eq}
use Rattle.std.proofs.lemmas.Bool.Decides.{Decides-int_eq}
use Rattle.std.proofs.lemmas.Result.{err_from_is_err_and}
use Rattle.std.proofs.lemmas.Slice.Eq.{slice_eq-Decides}
use Rattle.matrix.specs.Matrix.{Matrix}
use Rattle.matrix.specs.Product.{product}
use Rattle.matrix.specs.Held.{held}
use Rattle.matrix.proofs.Matrix.{matrix_facts}
use Rattle.upkeep.proofs.CurrentReply.{loaded, current-refused, made, current_stale, current-fine}
use Rattle.upkeep.proofs.current.check_current.Goals as goal

pub returns-in_err-product : goal.returns-in_err-product
returns-in_err-product c =
    let p = err_from_is_err_and c.from_residual.result c.from_residual.ensures.1 in
    rw (p.1, p.2) (current-refused (held c.args.m.now) c.args.displacements.now c.args.forces.now _ _ _ c.in_err-product.ensures.reply (omega arith))

pub slice_bounds-full-end : goal.slice_bounds-full-end
slice_bounds-full-end c =
    let g = loaded (held c.args.m.now) _ _ _ c.in_ok-product.ensures.reply in
    let few = (matrix_facts _ g.matrix).few in
    omega (arith, c.product.auto.forces)

pub slice_bounds-now-end : goal.slice_bounds-now-end
slice_bounds-now-end c =
    let g = loaded (held c.args.m.now) _ _ _ c.in_ok-product.ensures.reply in
    let few = (matrix_facts _ g.matrix).few in
    sym (length-take-le c.args.m.now.n c.product.new.forces (omega (arith, c.product.auto.forces)))

pub returns-then-ne : goal.returns-then-ne
returns-then-ne c =
    let given : Matrix = held c.args.m.now in
    let x : List ℤ = c.args.displacements.now in
    let fs : List ℤ = c.args.forces.now in
    let full : take c.args.m.now.n c.product.new.forces ≡ product given x = made given x _ _ _ _ c.in_ok-product.ensures.reply c.product.ensures.lent_forces in
    let d : Decides (pointwise int_eq fs (take c.args.m.now.n c.product.new.forces)) (fs ≡ take c.args.m.now.n c.product.new.forces) = slice_eq-Decides Decides-int_eq _ _ _ refl in
    let differ : pointwise int_eq fs (take c.args.m.now.n c.product.new.forces) ≡ false = not-true _ (sym c.ne.ensures ∙ c.if-ne.true) in
    current_stale given x (loaded given x _ _ c.in_ok-product.ensures.reply) fs (λ e. clash (d.1 (e ∙ sym full)) differ)

pub returns : goal.returns
returns c =
    let given : Matrix = held c.args.m.now in
    let x : List ℤ = c.args.displacements.now in
    let fs : List ℤ = c.args.forces.now in
    let full : take c.args.m.now.n c.product.new.forces ≡ product given x = made given x _ _ _ _ c.in_ok-product.ensures.reply c.product.ensures.lent_forces in
    let d : Decides (pointwise int_eq fs (take c.args.m.now.n c.product.new.forces)) (fs ≡ take c.args.m.now.n c.product.new.forces) = slice_eq-Decides Decides-int_eq _ _ _ refl in
    let equal : pointwise int_eq fs (take c.args.m.now.n c.product.new.forces) ≡ true = not-false _ (sym c.ne.ensures ∙ c.if-ne.false) in
    current-fine given x (loaded given x _ _ c.in_ok-product.ensures.reply) fs (d.0 equal ∙ full)
