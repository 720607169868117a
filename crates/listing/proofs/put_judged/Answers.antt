use mathlib.Core.Path.{sym, ◌∙◌}
use Prim.Native.Nat.{ℕ}
use lib.IntN.{ℤ, pos}
use lib.ListN.{replicate, length-replicate}
use Rattle.base.specs.Verdicts.{number_of}
use Rattle.matrix.specs.Matrix.{Matrix, matrix_of}
use Rattle.matrix.specs.Code.Room.{max_starts, max_cells}
use Rattle.writer.proofs.puts.Putting.{put_as}
use Rattle.listing.specs.Listing.{parameters_of}
use Rattle.listing.proofs.Judged.{Held, judged-refused, judged-accepted, planned-given, planned-missing}
use Rattle.listing.proofs.put_judged.Goals as goal

pub returns-in-Err : goal.returns-in-Err
returns-in-Err c =
    let a = c.args in
    let r = c.in-Err.refusal in
    put_as
    (sym (judged-refused a.text.now (replicate max_starts 0) (replicate max_cells 0) (replicate max_cells (pos 0)) (length-replicate {A = ℕ} max_starts 0) (length-replicate {A = ℕ} max_cells 0) (length-replicate {A = ℤ} max_cells (pos 0)) (number_of r.kind) r.place
    c.in-Err.ensures.result_value (parameters_of a.line.now)))
    c.put_refusal.ensures

pub returns-in_default : goal.returns-in_default
returns-in_default c =
    let m : Matrix = matrix_of c.in-Ok.n c.read.new.starts c.read.new.columns c.read.new.values in
    let e = c.in-Ok.ensures in
    let held : Held c.args.text.now m = judged-accepted c.args.text.now (replicate max_starts 0) (replicate max_cells 0) (replicate max_cells (pos 0)) (length-replicate {A = ℕ} max_starts 0) (length-replicate {A = ℕ} max_cells 0) (length-replicate {A = ℤ} max_cells (pos 0)) c.in-Ok.n
    e.result_value e.starts_after e.columns_after e.values_after in
    let ps = parameters_of c.args.line.now in
    put_as (sym (held.planned-is ps ∙ planned-missing m ps c.in_default.ensures)) c.put_refusal-in_default.ensures

pub put_planned-requires : goal.put_planned-requires
put_planned-requires c =
    let m : Matrix = matrix_of c.in-Ok.n c.read.new.starts c.read.new.columns c.read.new.values in
    let e = c.in-Ok.ensures in
    let held : Held c.args.text.now m = judged-accepted c.args.text.now (replicate max_starts 0) (replicate max_cells 0) (replicate max_cells (pos 0)) (length-replicate {A = ℕ} max_starts 0) (length-replicate {A = ℕ} max_cells 0) (length-replicate {A = ℤ} max_cells (pos 0)) c.in-Ok.n
    e.result_value e.starts_after e.columns_after e.values_after in
    (held.matrix, c.requires)

pub returns : goal.returns
returns c =
    let m : Matrix = matrix_of c.in-Ok.n c.read.new.starts c.read.new.columns c.read.new.values in
    let e = c.in-Ok.ensures in
    let held : Held c.args.text.now m = judged-accepted c.args.text.now (replicate max_starts 0) (replicate max_cells 0) (replicate max_cells (pos 0)) (length-replicate {A = ℕ} max_starts 0) (length-replicate {A = ℕ} max_cells 0) (length-replicate {A = ℤ} max_cells (pos 0)) c.in-Ok.n
    e.result_value e.starts_after e.columns_after e.values_after in
    let ps = parameters_of c.args.line.now in
    put_as (sym (held.planned-is ps ∙ planned-given m ps c.in-Some.workers c.in-Some.p c.in-Some.ensures)) c.put_planned.ensures
