use Rattle.std.proofs.Common.{arith, ◌≡◌, ◌/◌, min, length}
use Rattle.words.proofs.Blocks.{room, store_more}
use Rattle.words.proofs.lists.store.Goals as goal

pub loop-k-preserved : goal.loop-k-preserved
loop-k-preserved g c =
    let a = c.args in
    let width = g.W.Word.WIDTH in
    let count : c.min-k-end.result ≡ min (length a.numbers.now) (length a.bytes.now / width) = rw c.WIDTH-width.ensures at c.min-k-end.ensures in
    store_more g.W.Word.to_bytes width g.met.W.Word.size a.numbers.now a.bytes.now c.min-k-end.result c.loop-k.bytes c.write.new.bytes c.loop-k.k c.index-numbers-k.result (omega arith) (omega arith) (room width c.loop-k.k (length a.bytes.now) (omega arith))
    (rw (← c.WIDTH-width.ensures, ← c.index-numbers-k.is) c.write.ensures)
    c.loop-k.invariant
