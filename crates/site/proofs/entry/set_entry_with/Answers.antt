-- `set_entry_with` meets its contract: the lists are decoded as far as they can reach.
use native.Mathlib.Omega.{arith}
use lib.ListN.{length, length-replicate}
use Rattle.matrix.specs.Code.Room.{Reaches}
use Rattle.matrix.proofs.Cut.{cut-reached}
use Rattle.words.specs.LittleEndian.{number, signed_number}
use Rattle.words.proofs.Blocks.{length_decoded}
use Rattle.lent.specs.Bytes.{matrix_in}
use Rattle.lent.proofs.Loads.{loaded_size, loaded_is}
use Rattle.site.proofs.Changes.{entry-cut}
use Rattle.site.proofs.entry.set_entry_with.Goals as goal

pub slice_bounds-set_entry_of-end : goal.slice_bounds-set_entry_of-end
slice_bounds-set_entry_of-end g c = loaded_size (signed_number 4) 4 c.args.values.now _ c.load-entries.ensures.0 c.load-entries.ensures.1

pub slice_bounds-set_entry_of-end-2 : goal.slice_bounds-set_entry_of-end-2
slice_bounds-set_entry_of-end-2 g c = loaded_size (signed_number 8) 8 c.args.forces.now _ c.load-kept.ensures.0 c.load-kept.ensures.1

pub set_entry_of-requires : goal.set_entry_of-requires
set_entry_of-requires g c =
    let a = c.args in (
      loaded_is (signed_number 8) 8 a.forces.now _ c.load-kept.ensures.0 c.load-kept.ensures.1,
      omega (arith, c.load-entries.ensures.0, loaded_size (signed_number 4) 4 a.values.now _ c.load-entries.ensures.0 c.load-entries.ensures.1),
    )

pub returns : goal.returns
returns g c =
    let a = c.args in
    let m = let b = a.bytes.now in matrix_in b.n b.row_starts.now b.columns.now a.values.now in
    let columns : Reaches g.row.CELLS (length m.columns) = rw (length_decoded number 4 a.bytes.now.columns.now) c.requires.1 in
    let values : Reaches g.row.CELLS (length m.values) = rw (length_decoded (signed_number 4) 4 a.values.now) c.requires.2 in
    let loaded = loaded_is (signed_number 4) 4 a.values.now _ c.load-entries.ensures.0 c.load-entries.ensures.1 in
    entry-cut m _ a.movements.now a.forces.now (cut-reached m g.row.CELLS columns values c.decode.ensures (simp length-replicate at c.decode-2.ensures) (simp length-replicate at loaded)) c.set_entry_of.ensures
