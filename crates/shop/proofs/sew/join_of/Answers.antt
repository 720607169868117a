-- `join_of` meets its contract, by the reply.
use mathlib.Core.Path.{◌≡◌, refl, sym, ap, ◌∙◌}
use mathlib.Core.List.{List}
use Prim.Native.Nat.{ℕ}
use native.Mathlib.Omega.{arith}
use lib.ListN.{length, replicate, length-replicate}
use lib.Seq.{length-take-le}
use Rattle.base.specs.Verdicts.{reply_of}
use Rattle.std.proofs.Common.{Result}
use Rattle.base.specs.declared.Refusal.{Refusal}
use Rattle.matrix.specs.Held.{held}
use Rattle.matrix.specs.Code.Room.{max_starts}
use Rattle.lent.specs.Word.{word}
use Rattle.lent.proofs.Answers.{begins_at, begins-fits, begins-size}
use Rattle.shop.proofs.Joins.{same-reply, join-refused, join-into, join-stored}
use Rattle.shop.proofs.sew.join_of.Goals as goal

-- the array of row starts before the joining
abbrev no_starts : List ℕ
no_starts = replicate max_starts 0

starts-long : length no_starts ≡ max_starts
starts-long = length-replicate {A = ℕ} max_starts 0

pub slice_bounds-join-end : goal.slice_bounds-join-end
slice_bounds-join-end c = let l = c.min-starts_room in sym (length-take-le l.result no_starts (omega (arith, l.ensures, starts-long)))

pub slice_bounds-join-end-3 : goal.slice_bounds-join-end-3
slice_bounds-join-end-3 c = sym (length-take-le c.min-columns_room.result c.args.column_list.now (omega arith))

pub slice_bounds-join-end-5 : goal.slice_bounds-join-end-5
slice_bounds-join-end-5 c = sym (length-take-le c.min-values_room.result c.args.value_list.now (omega arith))

pub returns-in_default : goal.returns-in_default
returns-in_default c =
    let a = c.args in
    let p = a.pieces.now in
    join-refused (same-reply (held p.first) (held p.second) p.places.now no_starts a.column_list.now a.value_list.now a.row_starts.now a.columns.now a.values.now starts-long c.requires.0 c.requires.1 c.min-starts_room.ensures c.min-columns_room.ensures c.min-values_room.ensures)
    c.in_default.ensures.reply (c.word_of.ensures ∙ ap (λ (r : Result ℕ Refusal). word (reply_of r)) c.in_default.is)

pub bounds-starts-rows : goal.bounds-starts-rows
bounds-starts-rows c =
    let e = c.join-answer.ensures in
    let h = join-into no_starts c.args.column_list.now c.args.value_list.now starts-long c.requires c.min-starts_room.ensures c.min-columns_room.ensures c.min-values_room.ensures c.in-Ok.ensures.reply e.lent_starts e.lent_columns e.lent_values in
    omega (arith, h.few)

pub slice_bounds-starts-end-2 : goal.slice_bounds-starts-end-2
slice_bounds-starts-end-2 c =
    let e = c.join-answer.ensures in
    let h = join-into no_starts c.args.column_list.now c.args.value_list.now starts-long c.requires c.min-starts_room.ensures c.min-columns_room.ensures c.min-values_room.ensures c.in-Ok.ensures.reply e.lent_starts e.lent_columns e.lent_values in
    begins-fits h.starts_begin

pub slice_bounds-store-end : goal.slice_bounds-store-end
slice_bounds-store-end c =
    let e = c.join-answer.ensures in
    let h = join-into no_starts c.args.column_list.now c.args.value_list.now starts-long c.requires c.min-starts_room.ensures c.min-columns_room.ensures c.min-values_room.ensures c.in-Ok.ensures.reply e.lent_starts e.lent_columns e.lent_values in
    begins-size h.starts_begin

pub slice_bounds-store-end-2 : goal.slice_bounds-store-end-2
slice_bounds-store-end-2 c =
    let e = c.join-answer.ensures in
    let h = join-into no_starts c.args.column_list.now c.args.value_list.now starts-long c.requires c.min-starts_room.ensures c.min-columns_room.ensures c.min-values_room.ensures c.in-Ok.ensures.reply e.lent_starts e.lent_columns e.lent_values in
    begins-fits (begins_at h.columns_begin refl)

pub slice_bounds-store-end-3 : goal.slice_bounds-store-end-3
slice_bounds-store-end-3 c =
    let e = c.join-answer.ensures in
    let h = join-into no_starts c.args.column_list.now c.args.value_list.now starts-long c.requires c.min-starts_room.ensures c.min-columns_room.ensures c.min-values_room.ensures c.in-Ok.ensures.reply e.lent_starts e.lent_columns e.lent_values in
    begins-size (begins_at h.columns_begin refl)

pub slice_bounds-store-end-4 : goal.slice_bounds-store-end-4
slice_bounds-store-end-4 c =
    let e = c.join-answer.ensures in
    let h = join-into no_starts c.args.column_list.now c.args.value_list.now starts-long c.requires c.min-starts_room.ensures c.min-columns_room.ensures c.min-values_room.ensures c.in-Ok.ensures.reply e.lent_starts e.lent_columns e.lent_values in
    begins-fits (begins_at h.values_begin refl)

pub slice_bounds-store-end-5 : goal.slice_bounds-store-end-5
slice_bounds-store-end-5 c =
    let e = c.join-answer.ensures in
    let h = join-into no_starts c.args.column_list.now c.args.value_list.now starts-long c.requires c.min-starts_room.ensures c.min-columns_room.ensures c.min-values_room.ensures c.in-Ok.ensures.reply e.lent_starts e.lent_columns e.lent_values in
    begins-size (begins_at h.values_begin refl)

pub returns : goal.returns
returns c =
    let e = c.join-answer.ensures in
    let h = join-into no_starts c.args.column_list.now c.args.value_list.now starts-long c.requires c.min-starts_room.ensures c.min-columns_room.ensures c.min-values_room.ensures c.in-Ok.ensures.reply e.lent_starts e.lent_columns e.lent_values in
    join-stored h refl c.word_of-2.ensures c.store.ensures c.store-2.ensures c.store-3.ensures
