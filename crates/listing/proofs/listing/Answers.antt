-- `listing` meets its contract.
use mathlib.Core.Path.{sym}
use Prim.Native.Nat.{◌+◌}
use native.Mathlib.Omega.{arith}
use lib.Seq.{length-take-le}
use Rattle.writer.proofs.puts.Putting.{put_as}
use Rattle.listing.proofs.Printed.{put_whole}
use Rattle.listing.proofs.Judged.{listing-long, rest-taken, listing-short, listing-alone}
use Rattle.listing.proofs.listing.Goals as goal

pub returns-then-input-gt-MAX_INPUT : goal.returns-then-input-gt-MAX_INPUT
returns-then-input-gt-MAX_INPUT c =
    let q = put_whole (put_as (sym (listing-long c.args.input.now c.if-input-gt-MAX_INPUT.true)) c.put_refusal.ensures) in
    record { value = q.0; output_after = q.1 }

pub slice_bounds-put_judged-end-then-end-input : goal.slice_bounds-put_judged-end-then-end-input
slice_bounds-put_judged-end-then-end-input c = sym (length-take-le c.line_length-end.result c.args.input.now (omega (arith, c.if-end-input.true)))

pub returns-then-end-input : goal.returns-then-end-input
returns-then-end-input c =
    let i = c.args.input.now in
    let q = put_whole (put_as (sym (listing-short i c.if-input-gt-MAX_INPUT.false c.line_length-end.result c.line_length-end.ensures)) (rw (rest-taken i (c.line_length-end.result + 1)) at c.put_judged.ensures)) in
    record { value = q.0; output_after = q.1 }

pub returns : goal.returns
returns c =
    let i = c.args.input.now in
    let q = put_whole (put_as (sym (listing-alone i c.if-input-gt-MAX_INPUT.false c.line_length-end.result c.line_length-end.ensures c.if-end-input.false)) c.put_judged-2.ensures) in
    record { value = q.0; output_after = q.1 }
