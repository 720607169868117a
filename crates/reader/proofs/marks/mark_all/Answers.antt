use mathlib.Core.Path.{◌≡◌}
use mathlib.Core.Bool.{true, ◌&&◌}
use Prim.Native.Nat.{ℕ, ◌≤◌, ◌<◌}
use lib.Dec.{ltb, leb}
use lib.IntN.{pos}
use lib.ListN.{get_or}
use borrow.Author.Tests.{leb-true, ltb-true}
use Rattle.base.proofs.Booleans.{and_left, and_right}
use Rattle.market.specs.Parse.{triplet}
use Rattle.reader.specs.Code.Entries.{is_lower}
use Rattle.compress.proofs.entries.Listed.{triplets_none, triplets_next, all_at}
use Rattle.compress.specs.declared.entries.EntryList.{EntryList}
use Rattle.base.specs.Lists.{all}
use Rattle.compress.specs.Code.Entries.{listed}
use Rattle.matrix.specs.Limits.{max_rows}
use Rattle.reader.proofs.marks.Triangle.{marks_more}
use Rattle.reader.proofs.marks.mark_all.Goals as goal

-- where an entry lies
lower-at : (l : EntryList) → all is_lower (listed l) ≡ true → (k : ℕ) → k < l.count → (get_or l.columns k 0 ≤ get_or l.rows k 0) × (get_or l.rows k 0 < max_rows)
lower-at l h k j =
    let t : leb (get_or l.columns k 0) (get_or l.rows k 0) && ltb (get_or l.rows k 0) max_rows ≡ true = all_at is_lower l.count l.rows l.columns l.values h k j in
    (leb-true (get_or l.columns k 0) (get_or l.rows k 0) (and_left (leb (get_or l.columns k 0) (get_or l.rows k 0)) (ltb (get_or l.rows k 0) max_rows) t), ltb-true (get_or l.rows k 0) max_rows (and_right (leb (get_or l.columns k 0) (get_or l.rows k 0)) (ltb (get_or l.rows k 0) max_rows) t))

pub loop-k-init : goal.loop-k-init
loop-k-init c = rw (triplets_none c.args.list.now.rows c.args.list.now.columns c.args.list.now.values) c.requires.1

pub bit_of-requires : goal.bit_of-requires
bit_of-requires c = lower-at c.args.list.now c.requires.0 c.loop-k.k c.loop-k-test.true

pub loop-k-preserved : goal.loop-k-preserved
loop-k-preserved c =
    let l = c.args.list.now in
    let k = c.loop-k.k in
    rw (triplets_next k l.rows l.columns l.values)
    (marks_more c.loop-k.invariant (triplet (get_or l.rows k 0) (get_or l.columns k 0) (get_or l.values k (pos 0))) (lower-at l c.requires.0 k c.loop-k-test.true).0 c.bit_of.ensures.0 c.bit_of.ensures.1 c.mark.ensures.1)
