-- `product::product_of`: by the reply.
use mathlib.Core.Path.{◌≡◌, refl, sym, ◌∙◌}
use Prim.Native.Nat.{◌/◌, min}
use native.Mathlib.Omega.{arith}
use lib.ListN.{length, take, length-take}
use Rattle.std.proofs.Common.{Err}
use lib.Seq.{length-take-le}
use Rattle.matrix.specs.Limits.{max_rows}
use Rattle.matrix.specs.Held.{held}
use Rattle.office.proofs.Products.{product-made, product-refused, product-stored}
use Rattle.office.proofs.product.product_of.Goals as goal

pub returns-in_err-count : goal.returns-in_err-count
returns-in_err-count c =
    let a = c.args in
    let least : length (take c.min-room.result a.sums.now) ≡ min (length a.forces.now / 8) max_rows = length-take-le c.min-room.result a.sums.now (omega arith) ∙ c.min-room.ensures in
    let up : c.from_residual.result ≡ Err c.in_err-count.field-0.0 = grind arith in
    rw up (product-refused (held a.m.now) a.displacements.now max_rows _ (omega arith) a.forces.now least _ _ c.in_err-count.ensures.reply refl)

pub shared_ref_as_front-store : goal.shared_ref_as_front-store
shared_ref_as_front-store c =
    let a = c.args in
    omega (arith, (product-made (held a.m.now) a.displacements.now _ c.in_ok-count.count (sym c.in_ok-count.ensures.reply)).long, length-take c.min-room.result a.sums.now)

pub returns : goal.returns
returns c =
    let a = c.args in
    let least : length (take c.min-room.result a.sums.now) ≡ min (length a.forces.now / 8) max_rows = length-take-le c.min-room.result a.sums.now (omega arith) ∙ c.min-room.ensures in
    let e = c.in_ok-count.ensures in
    product-stored (held a.m.now) a.displacements.now max_rows _ (omega arith) a.forces.now least _ e.reply _ _ _ e.lent_forces refl c.store.ensures
