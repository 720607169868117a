-- `read_entry` meets its contract: a line of three fields that are an entry.
use borrow.Author.Rules.{rules}
use mathlib.Core.Path.{◌≡◌, sym, ◌∙◌}
use mathlib.Core.Bool.{true}
use mir.Syntax.{w64}
use mir.Val.{SFits}
use mir.Facts.{to_z-of_z}
use Rattle.market.specs.Parse.{is_entry}
use Rattle.market.proofs.Inside.{inside-fits, inside}
use Rattle.reader.proofs.entry.Entered.{broken-line, bad_line, good_line}
use Rattle.reader.proofs.entry.read_entry.Goals as goal

pub returns-in_default : goal.returns-in_default
returns-in_default c = broken-line c.args.s.now c.args.at c.args.n c.in_default.ensures

pub returns-then-not-is_entry : goal.returns-then-not-is_entry
returns-then-not-is_entry c =
    let line = c.in-Some.line in
    let in-range : SFits w64 c.in-Some.line.value = search rules in
    let answer : c.is_entry.result ≡ is_entry c.args.n c.in-Some.line.row c.in-Some.line.column c.in-Some.line.value = rw (to_z-of_z in-range) at c.is_entry.ensures in
    bad_line c.args.s.now c.args.at c.args.n c.in-Some.line c.in-Some.ensures (sym answer ∙ c.if-not-is_entry.true)

pub overflow_cast-result-3 : goal.overflow_cast-result-3
overflow_cast-result-3 c =
    let in-range : SFits w64 c.in-Some.line.value = search rules in
    let answer : c.is_entry.result ≡ is_entry c.args.n c.in-Some.line.row c.in-Some.line.column c.in-Some.line.value = rw (to_z-of_z in-range) at c.is_entry.ensures in
    rw (to_z-of_z in-range) (inside-fits _ c.in-Some.line.row c.in-Some.line.column c.in-Some.line.value (inside _ _ _ _ (sym answer ∙ c.if-not-is_entry.false)))

pub returns : goal.returns
returns c =
    let in-range : SFits w64 c.in-Some.line.value = search rules in
    let answer : c.is_entry.result ≡ is_entry c.args.n c.in-Some.line.row c.in-Some.line.column c.in-Some.line.value = rw (to_z-of_z in-range) at c.is_entry.ensures in
    let is_one : is_entry c.args.n c.in-Some.line.row c.in-Some.line.column c.in-Some.line.value ≡ true = sym answer ∙ c.if-not-is_entry.false in
    good_line c.args.s.now c.args.at c.args.n c.in-Some.line c.in-Some.ensures is_one (simp (to_z-of_z in-range, to_z-of_z (inside-fits _ c.in-Some.line.row c.in-Some.line.column c.in-Some.line.value (inside _ _ _ _ is_one))))
