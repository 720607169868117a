-- `next_extent` meets its contract.
use mathlib.Core.Path.{sym, ap, ◌∙◌}
use native.Mathlib.Omega.{arith}
use Prim.Native.Nat.{ℕ}
use borrow.Author.Rules.{rules}
use lib.Seq.{length-take-le}
use Rattle.extents.specs.Extents.{nearest}
use Rattle.extents.specs.Code.Scans.{policy_of}
use Rattle.extents.proofs.Ends.{product-few, nearest-few, sum-split}
use Rattle.extents.proofs.PairEnd.{extent-none, extent-short, extent-full, extent-part}
use Rattle.extents.proofs.next_extent.Goals as goal

pub returns-then-all-k : goal.returns-then-all-k
returns-then-all-k c =
    let a = c.args in
    extent-none a.share.workers a.share.load (policy_of a.policy) a.free a.loads.now c.first_end-k.result c.first_end-k.ensures.0 c.if-all-k.true

pub slice_bounds-total-end : goal.slice_bounds-total-end
slice_bounds-total-end c = sym (length-take-le c.first_end-k.result c.args.loads.now (omega arith))

pub total-requires : goal.total-requires
total-requires c = omega (arith, sum-split c.first_end-k.result c.args.loads.now)

pub nearest-b-requires : goal.nearest-b-requires
nearest-b-requires c = omega (arith, c.total.ensures, sum-split c.first_end-k.result c.args.loads.now)

pub overflow_mul-b : goal.overflow_mul-b
overflow_mul-b c =
    let a = c.args in
    let q = c.total.result in
    rw c.nearest-b.ensures
    (omega (arith, nearest-few q a.share.workers a.share.load, product-few q a.share.workers (omega (arith, c.total.ensures, sum-split c.first_end-k.result a.loads.now)) (omega arith)))

pub returns-then-all-e : goal.returns-then-all-e
returns-then-all-e c =
    let a = c.args in
    let k = c.first_end-k in
    extent-short a.share.workers a.share.load (policy_of a.policy) a.free a.loads.now k.result k.ensures.0 c.nearest-b.result c.nearest_end-e.result (omega (arith, k.ensures.1)) (search rules)
    (c.nearest-b.ensures ∙ ap (λ (q : ℕ). nearest q a.share.workers a.share.load) c.total.ensures) c.nearest_end-e.ensures.0 c.if-all-e.true

pub returns-then-free-b : goal.returns-then-free-b
returns-then-free-b c =
    let a = c.args in
    let k = c.first_end-k in
    extent-full a.share.workers a.share.load (policy_of a.policy) a.free a.loads.now k.result k.ensures.0 c.nearest-b.result c.nearest_end-e.result (omega (arith, k.ensures.1)) (search rules)
    (c.nearest-b.ensures ∙ ap (λ (q : ℕ). nearest q a.share.workers a.share.load) c.total.ensures) c.nearest_end-e.ensures.0 c.if-all-e.false c.if-free-b.true

pub returns : goal.returns
returns c =
    let a = c.args in
    let k = c.first_end-k in
    extent-part a.share.workers a.share.load (policy_of a.policy) a.free a.loads.now k.result k.ensures.0 c.nearest-b.result c.nearest_end-e.result (omega (arith, k.ensures.1)) (search rules)
    (c.nearest-b.ensures ∙ ap (λ (q : ℕ). nearest q a.share.workers a.share.load) c.total.ensures) c.nearest_end-e.ensures.0 c.if-all-e.false c.if-free-b.false
