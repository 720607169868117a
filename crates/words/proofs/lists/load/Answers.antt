use Rattle.std.proofs.Common.{arith, ◌≡◌, ◌+◌, ◌/◌, min, length}
use Rattle.words.proofs.Blocks.{load_more, load-all}
use Rattle.words.proofs.lists.load.Goals as goal

pub loop-k-preserved : goal.loop-k-preserved
loop-k-preserved g c =
    let a = c.args in
    let width = g.W.Word.WIDTH in
    let count : c.min-count.result ≡ min (length a.bytes.now / width) (length a.out.now) = rw c.WIDTH-width.ensures at c.min-count.ensures in
    let more = load_more g.W.Word.of_bytes width a.bytes.now a.out.now c.min-count.result (omega arith) (omega arith) in
    more _ (c.loop-k.k + 1) (c.loop-k.k + 2) c.read-second.result (omega arith) (omega arith) (rw c.WIDTH-width.ensures at c.read-second.ensures)
    (more c.loop-k.out c.loop-k.k (c.loop-k.k + 1) c.read-first.result (omega arith) (omega arith) (rw c.WIDTH-width.ensures at c.read-first.ensures) c.loop-k.invariant)

pub returns-then-k-count : goal.returns-then-k-count
returns-then-k-count g c =
    let a = c.args in
    let f = g.W.Word.of_bytes in
    let width = g.W.Word.WIDTH in
    let count : c.min-count.result ≡ min (length a.bytes.now / width) (length a.out.now) = rw c.WIDTH-width.ensures at c.min-count.ensures in (
      count,
      load-all f width a.bytes.now a.out.now c.min-count.result _ (c.loop-k.k + 1) (omega arith)
          (load_more f width a.bytes.now a.out.now c.min-count.result (omega arith) (omega arith) c.loop-k.out c.loop-k.k (c.loop-k.k + 1) c.read.result (omega arith) (omega arith) (rw c.WIDTH-width.ensures at c.read.ensures) c.loop-k.invariant),
    )
