-- `read::read` meets its contract: two copies, where there is room.
use mathlib.Core.Path.{◌∙◌}
use native.Mathlib.Omega.{arith}
use Rattle.base.specs.Replies.{lent}
use Rattle.base.proofs.Each.{each-of-get}
use Rattle.words.proofs.Bytes.{IsByte}
use Rattle.planfile.proofs.Parts.{Readable, read-accepted, whole_file, order_copied, groups_copied}
use Rattle.planfile.proofs.read.read.Goals as goal

pub copy-requires : goal.copy-requires
copy-requires c =
    let ok = c.in_ok-counts.ensures in
    let r : let a = c.args in Readable a.file.now a.order.now a.groups.now = read-accepted _ _ _ _ ok.2 in
    (omega (arith, whole_file r, ok.0), omega (arith, r.rows, ok.0))

pub copy-requires-2 : goal.copy-requires-2
copy-requires-2 c =
    let ok = c.in_ok-counts.ensures in
    let r : let a = c.args in Readable a.file.now a.order.now a.groups.now = read-accepted _ _ _ _ ok.2 in
    (omega (arith, whole_file r, ok.0, ok.1), omega (arith, r.fields, ok.1))

pub returns-clause-order : goal.returns-clause-order
unfolding lent
returns-clause-order c =
    let ok = c.in_ok-counts.ensures in
    let r : let a = c.args in Readable a.file.now a.order.now a.groups.now = read-accepted _ _ _ _ ok.2 in
    c.copy.ensures ∙ rw ok.0 (order_copied r (each-of-get IsByte c.args.file.now 0 (λ i. omega (arith, c.type_inv.file i))))

pub returns-clause-groups : goal.returns-clause-groups
unfolding lent
returns-clause-groups c =
    let ok = c.in_ok-counts.ensures in
    let r : let a = c.args in Readable a.file.now a.order.now a.groups.now = read-accepted _ _ _ _ ok.2 in
    c.copy-2.ensures ∙ rw (ok.0, ok.1) (groups_copied r (each-of-get IsByte c.args.file.now 0 (λ i. omega (arith, c.type_inv.file i))))
