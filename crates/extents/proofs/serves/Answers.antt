-- `serves` meets its contract.
use native.Mathlib.Omega.{arith}
use Rattle.extents.specs.Extents.{serves, off}
use Rattle.extents.proofs.Ends.{product-few, nearest-few, share-few}
use Rattle.extents.proofs.serves.Goals as goal

pub overflow_mul-q : goal.overflow_mul-q
overflow_mul-q c = let a = c.args in omega (arith, product-few a.q a.share.workers (omega arith) (omega arith))

pub overflow_mul-b : goal.overflow_mul-b
overflow_mul-b c =
    let a = c.args in
    rw c.nearest-b.ensures (omega (arith, product-few a.q a.share.workers (omega arith) (omega arith), nearest-few a.q a.share.workers a.share.load))

pub overflow_mul-result : goal.overflow_mul-result
overflow_mul-result c =
    let a = c.args in
    rw (c.abs_diff.ensures, c.nearest-b.ensures) (omega (arith, product-few a.q a.share.workers (omega arith) (omega arith), nearest-few a.q a.share.workers a.share.load))

pub overflow_mul-result-2 : goal.overflow_mul-result-2
overflow_mul-result-2 c = let a = c.args in omega (arith, share-few a.p a.share.load (omega arith))

pub returns : goal.returns
unfolding serves off
returns c = rw (c.abs_diff.ensures, c.nearest-b.ensures)
