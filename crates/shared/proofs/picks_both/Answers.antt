-- `picks_both`: the lists, the numbers of sums, then the picks.
use mathlib.Core.Path.{◌≡◌, refl, sym}
use Prim.Native.Nat.{◌*◌}
use lib.Seq.{length-take-le}
use Rattle.std.proofs.Common.{Err, arith}
use borrow.Author.Rules.{rules}
use Rattle.plan.specs.Groups.{width}
use Rattle.layout.specs.Code.UpdateTable.{Given}
use Rattle.matrix.specs.Held.{held}
use Rattle.calls.proofs.Prepared.{cut-given}
use Rattle.crews.specs.Crews.{Crew, crew0, own_of}
use Rattle.crews.specs.Calls.{roof_of}
use Rattle.shared.specs.Code.Held.{both_moves}
use Rattle.shared.proofs.RoofChecked.{roof_given}
use Rattle.shared.proofs.Sharing.{states_short0, states_short1, picks-refused, picks-stay, cut_roof, lent-refused, lent-stay, lent-answered, lent-left}
use Rattle.shared.proofs.picks_both.Goals as goal
use Rattle.shared.proofs.picks_both.Goals.{In_ok-check_roof}

pub returns-in_err-check_roof : goal.returns-in_err-check_roof
returns-in_err-check_roof c =
    let up : c.from_residual.result ≡ Err c.in_err-check_roof.field-0.0 = grind arith in
    let e = c.in_err-check_roof.ensures in
    rw up (record { answers = lent-refused _ _ _ _ _ _ _ _ e _; leaves = lent-stay _ _ _ _ _ _ _ _ e _ })

pub returns-then-sums0-roof : goal.returns-then-sums0-roof
unfolding roof_of
returns-then-sums0-roof c =
    let passed = c.in_ok-check_roof.ensures in
    let no = states_short0 (roof_of (held c.args.roof.now.matrix) _ _ _ _) _ c.if-sums0-roof.true in
    record { answers = lent-answered _ _ _ _ _ _ _ passed _ refl (picks-refused _ _ no _); leaves = lent-left _ _ _ _ _ _ _ passed _ refl (picks-stay _ _ no _) }

pub returns-then-sums1-roof : goal.returns-then-sums1-roof
unfolding roof_of
returns-then-sums1-roof c =
    let passed = c.in_ok-check_roof.ensures in
    let no = states_short1 (roof_of (held c.args.roof.now.matrix) _ _ _ _) _ c.if-sums1-roof.true in
    record { answers = lent-answered _ _ _ _ _ _ _ passed _ refl (picks-refused _ _ no _); leaves = lent-left _ _ _ _ _ _ _ passed _ refl (picks-stay _ _ no _) }

-- the lists hold a roof
given : (c : In_ok-check_roof) → let r = c.args.roof.now in (d : Crew) → Given r.matrix.n r.matrix.starts.now r.matrix.columns.now r.matrix.values.now (own_of (both_moves r) d) r.plan.order.now r.plan.groups.now r.plan.count
given c d = roof_given _ _ _ _ _ 0 (sym c.in_ok-check_roof.ensures) d

pub overflow_mul-records : goal.overflow_mul-records
overflow_mul-records c = let long = (given (goal.at.overflow_mul-records c).In_ok-check_roof crew0).groups_long in search rules

pub slice_bounds-records-end : goal.slice_bounds-records-end
slice_bounds-records-end c =
    let p = c.args.roof.now.plan in
    sym (length-take-le (width * p.count) p.groups.now (given (goal.at.slice_bounds-records-end c).In_ok-check_roof crew0).groups_long)

pub take_picks-requires : goal.take_picks-requires
take_picks-requires c =
    let g = given (goal.at.take_picks-requires c).In_ok-check_roof in
    (λ d. cut-given _ _ (g d).groups_long (g d), c.if-sums0-roof.false, c.if-sums1-roof.false)

pub returns : goal.returns
returns c =
    let passed = c.in_ok-check_roof.ensures in
    let r = cut_roof _ _ (given (goal.at.returns c).In_ok-check_roof crew0).groups_long _ _ _ in
    let h = c.take_picks.ensures in
    record { answers = lent-answered _ _ _ _ _ _ _ passed _ r h.answers; leaves = lent-left _ _ _ _ _ _ _ passed _ r h.leaves }
