-- `read_with` meets its contract, by the reply.
use mathlib.Core.Path.{refl}
use native.Mathlib.Omega.{arith}
use Rattle.std.proofs.lemmas.Result.{err_from_is_err_and}
use Rattle.lent.proofs.Answers.{begins-fits, begins-size}
use Rattle.texts.proofs.TextReads.{same-reply, read_into, read-refused, read-stored}
use Rattle.texts.proofs.read.read_with.Goals as goal

pub returns-in_err-n : goal.returns-in_err-n
returns-in_err-n g c =
    let a = c.args in
    let r = err_from_is_err_and c.from_residual.result c.from_residual.ensures.1 in
    rw (r.1, r.2)
    (read-refused (same-reply a.text.now g.row.CELLS a.row_starts.now a.columns.now a.values.now c.requires c.min-starts_room.ensures c.min-columns_room.ensures c.min-values_room.ensures) c.in_err-n.ensures.result_value refl)

pub bounds-starts-rows : goal.bounds-starts-rows
bounds-starts-rows g c =
    let e = c.in_ok-n.ensures in
    let h = read_into g.row.CELLS c.requires c.min-starts_room.ensures c.min-columns_room.ensures c.min-values_room.ensures e.result_value e.starts_after e.columns_after e.values_after in
    omega (arith, h.few)

pub slice_bounds-starts-end-2 : goal.slice_bounds-starts-end-2
slice_bounds-starts-end-2 g c =
    let e = c.in_ok-n.ensures in
    let h = read_into g.row.CELLS c.requires c.min-starts_room.ensures c.min-columns_room.ensures c.min-values_room.ensures e.result_value e.starts_after e.columns_after e.values_after in
    begins-fits h.starts_begin

pub slice_bounds-store-end : goal.slice_bounds-store-end
slice_bounds-store-end g c =
    let e = c.in_ok-n.ensures in
    let h = read_into g.row.CELLS c.requires c.min-starts_room.ensures c.min-columns_room.ensures c.min-values_room.ensures e.result_value e.starts_after e.columns_after e.values_after in
    begins-size h.starts_begin

pub shared_whole_as_front-store : goal.shared_whole_as_front-store
shared_whole_as_front-store g c =
    let e = c.in_ok-n.ensures in
    let h = read_into g.row.CELLS c.requires c.min-starts_room.ensures c.min-columns_room.ensures c.min-values_room.ensures e.result_value e.starts_after e.columns_after e.values_after in
    omega (arith, h.cells-few, h.columns-room, c.requires)

pub shared_whole_as_front-store-2 : goal.shared_whole_as_front-store-2
shared_whole_as_front-store-2 g c =
    let e = c.in_ok-n.ensures in
    let h = read_into g.row.CELLS c.requires c.min-starts_room.ensures c.min-columns_room.ensures c.min-values_room.ensures e.result_value e.starts_after e.columns_after e.values_after in
    omega (arith, h.cells-few, h.values-room, c.requires)

pub returns : goal.returns
returns g c =
    let e = c.in_ok-n.ensures in
    let h = read_into g.row.CELLS c.requires c.min-starts_room.ensures c.min-columns_room.ensures c.min-values_room.ensures e.result_value e.starts_after e.columns_after e.values_after in
    read-stored h refl refl c.store.ensures c.store-2.ensures c.store-3.ensures
