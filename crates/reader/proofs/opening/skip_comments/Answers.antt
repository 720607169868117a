use mathlib.Core.Path.{◌≡◌, sym, ap, ◌∙◌}
use mathlib.Core.Bool.{false}
use Prim.Native.Nat.{ℕ, ◌≤◌, ◌<◌, ◌+◌}
use native.Mathlib.Numerals.{add-one}
use native.Mathlib.Omega.{arith}
use lib.ListN.{length, drop}
use lib.Seq.{drop-length}
use Rattle.std.proofs.Common.{Some, None}
use Rattle.market.specs.Parse.{place, comments}
use Rattle.reader.specs.Code.Opening.{LineEnds}
use Rattle.reader.proofs.opening.Comments.{no_comment, a_comment, no_line}
use Rattle.reader.proofs.opening.skip_comments.Goals as goal

pub returns-then-b-ne37 : goal.returns-then-b-ne37
returns-then-b-ne37 c =
    let s = c.args.s.now in
    let h = c.loop-i-test.true in
    record { rest = c.loop-i.invariant.3 ∙ no_comment s c.loop-i.i c.loop-i.line h c.if-b-ne37.true; small = omega arith }

pub returns-in_default : goal.returns-in_default
returns-in_default c =
    let s = c.args.s.now in
    let h = c.loop-i-test.true in
    let r : LineEnds s c.loop-i.i None = c.in_default.ensures in
    record { rest = c.loop-i.invariant.3 ∙ a_comment s c.loop-i.i c.loop-i.line h c.if-b-ne37.false ∙ r.rest c.loop-i.line ∙ ap (place c.loop-i.line) (sym (drop-length s)); small = omega arith }

pub loop-i-preserved : goal.loop-i-preserved
loop-i-preserved c =
    let ended : let s = c.args.s.now in let e = c.in-Some.e in (comments false c.loop-i.line (drop c.loop-i.i s) ≡ comments false (c.loop-i.line + 1) (drop e s)) × (c.loop-i.i < e) × (e ≤ length s) = let s = c.args.s.now in
    let h = c.loop-i-test.true in
    let r : LineEnds s c.loop-i.i (Some c.in-Some.e) = c.in-Some.ensures in
    (a_comment s c.loop-i.i c.loop-i.line h c.if-b-ne37.false ∙ r.rest c.loop-i.line ∙ ap (λ (k : ℕ). comments false k (drop c.in-Some.e s)) (sym (add-one c.loop-i.line)), r.later.0, r.later.1) in
    let e = ended in
    (omega arith, e.2, omega arith, c.loop-i.invariant.3 ∙ e.0)

pub returns : goal.returns
returns c =
    let s = c.args.s.now in
    record { rest = c.loop-i.invariant.3 ∙ no_line s c.loop-i.i c.loop-i.line c.loop-i-test.false; small = omega arith }
