-- `survey`: the checks in turn, then the amounts, and the shift where there is room for it.
use mathlib.Core.Path.{◌≡◌, refl, sym, ap, ◌∙◌}
use mathlib.Core.Bool.{true, false}
use mathlib.Core.List.{List, ◌++◌}
use native.Mathlib.Omega.{arith}
use lib.IntN.{ℤ}
use lib.ListN.{drop}
use Rattle.matrix.specs.Matrix.{Matrix, is_matrix}
use Rattle.matrix.specs.Held.{held}
use Rattle.matrix.proofs.Checks.{shape, matrix_tidy}
use Rattle.matrix.proofs.Matrix.{matrix_facts}
use Rattle.matrix.proofs.Rows.{columns-part, values-part, columns-in, values_in}
use Rattle.matrix.proofs.Symmetry.{row_lengths}
use Rattle.survey.specs.Survey.{has_room}
use Rattle.survey.proofs.Rows.{room-is}
use Rattle.survey.proofs.Reply.{Judged, judged, no_shift, short-shift, with_shift, refused-answers, amounts-answer, both-answer, shift-row}
use Rattle.survey.proofs.survey.Goals as goal

pub overflow_cast-n : goal.overflow_cast-n
overflow_cast-n c =
    let made : is_matrix (held c.args.m.now) ≡ true = cc in
    omega (arith, (shape _ (matrix_tidy _ made).shape).few)

pub returns-then-not-all_within : goal.returns-then-not-all_within
returns-then-not-all_within c =
    let given : Matrix = held c.args.m.now in
    let moves : List ℤ = c.args.displacements.now in
    let passed : Judged given moves = judged given moves (cc) 0 c.in_ok-check_displacements.ensures in
    let none : has_room c.args.t moves ≡ false = room-is c.args.t moves (omega arith) ∙ cc in
    let q = amounts-answer given moves _ _ _ _ _ (no_shift given moves _ _ _ _ passed (omega arith) (omega arith) (omega arith) none) c.put_amounts.ensures none refl in
    record { reply = q.0; lent_amounts = q.1.0; lent_shift = q.1.1 }

pub returns-then-shift-m : goal.returns-then-shift-m
returns-then-shift-m c =
    let given : Matrix = held c.args.m.now in
    let moves : List ℤ = c.args.displacements.now in
    let passed : Judged given moves = judged given moves (cc) 0 c.in_ok-check_displacements.ensures in
    let some : has_room c.args.t moves ≡ true = room-is c.args.t moves (omega arith) ∙ cc in
    let q = refused-answers given moves _ _ _ _ _ _ (short-shift given moves _ _ _ _ passed (omega arith) (omega arith) (omega arith) some (omega arith)) in
    record { reply = q.0; lent_amounts = q.1.0; lent_shift = q.1.1 }

pub columns_of-requires : goal.columns_of-requires
columns_of-requires c =
    let made : is_matrix (held c.args.m.now) ≡ true = cc in
    columns-in _ (matrix_tidy _ made).shape c.args.row (omega arith)

pub values_of-requires : goal.values_of-requires
values_of-requires c =
    let made : is_matrix (held c.args.m.now) ≡ true = cc in
    values_in _ (matrix_tidy _ made).shape c.args.row (omega arith)

pub put_shift-requires : goal.put_shift-requires
put_shift-requires c =
    let given : Matrix = held c.args.m.now in
    let made : is_matrix given ≡ true = cc in
    let columns = c.columns_of.ensures ∙ sym (columns-part given c.args.row (omega arith)) in
    let values = c.values_of.ensures ∙ sym (values-part given c.args.row (omega arith)) in
    record {
      ascends = rw columns ((matrix_facts given made).row c.args.row (omega arith)).ascends;
      beside = row_lengths given (matrix_tidy given made).shape c.args.row (omega arith) columns values;
      error = omega arith;
      few = (shape _ (matrix_tidy _ made).shape).few;
      long = omega arith;
    }

pub returns : goal.returns
returns c =
    let given : Matrix = held c.args.m.now in
    let moves : List ℤ = c.args.displacements.now in
    let passed : Judged given moves = judged given moves (cc) 0 c.in_ok-check_displacements.ensures in
    let some : has_room c.args.t moves ≡ true = room-is c.args.t moves (omega arith) ∙ cc in
    let columns = c.columns_of.ensures ∙ sym (columns-part given c.args.row (omega arith)) in
    let values = c.values_of.ensures ∙ sym (values-part given c.args.row (omega arith)) in
    let q = both-answer given moves _ _ _ _ _
    (with_shift given moves _ _ _ _ passed (omega arith) (omega arith) (omega arith) some (omega arith))
    c.put_amounts-2.ensures some (c.put_shift.ensures ∙ ap (λ (zs : List ℤ). zs ++ drop c.args.m.now.n c.args.shift.now) (shift-row given c.args.t c.args.row columns values)) in
    record { reply = q.0; lent_amounts = q.1.0; lent_shift = q.1.1 }
