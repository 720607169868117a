-- `fill` meets its contract: the table and two copies are the file.
use mathlib.Core.Path.{◌∙◌}
use native.Mathlib.Omega.{arith}
use Rattle.base.proofs.Each.{each-of-get}
use Rattle.words.proofs.Bytes.{IsByte}
use Rattle.planfile.proofs.Parts.{room, filled}
use Rattle.planfile.proofs.write.fill.Goals as goal

pub copy-requires : goal.copy-requires
copy-requires c =
    let w = c.requires in
    (omega (arith, w.rows), rw c.store.auto.bytes (omega (arith, room _ _ _ _ c.args.file.now w)))

pub copy-requires-2 : goal.copy-requires-2
copy-requires-2 c =
    let w = c.requires in
    (omega (arith, w.fields), rw (c.copy.auto.to, c.store.auto.bytes) (omega (arith, room _ _ _ _ c.args.file.now w)))

pub returns : goal.returns
returns c =
    let a = c.args in
    let order_bytes = each-of-get IsByte a.order.now 0 (λ i. omega (arith, c.type_inv.order i)) in
    let groups_bytes = each-of-get IsByte a.groups.now 0 (λ i. omega (arith, c.type_inv.groups i)) in
    c.copy-2.ensures ∙ rw c.copy.ensures
    (filled a.counts.rows a.order.now a.groups.now a.counts.groups a.file.now c.requires order_bytes groups_bytes c.table.ensures c.store.ensures)
