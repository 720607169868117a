-- `parse_size` meets its contract.
use borrow.Author.Rules.{rules}
use mathlib.Core.Path.{◌≡◌, ap, ◌∙◌}
use mathlib.Core.Bool.{false}
use lib.IntN.{ℤ, pos, nat_abs}
use lib.Signed.{lt_z}
use mir.Syntax.{w64}
use mir.Val.{SFits}
use mir.Facts.{to_z-of_z}
use Rattle.reader.proofs.parse.Sizes.{size-broken, size-negative, size_tested}
use Rattle.reader.proofs.entries.Turns.{none_read}
use Rattle.reader.proofs.parse.parse_size.Goals as goal

pub returns-in_default : goal.returns-in_default
returns-in_default c = size-broken c.args.s.now c.args.pos c.args.line c.in_default.ensures

pub returns-then-size-lt0 : goal.returns-then-size-lt0
returns-then-size-lt0 c =
    let in-range : SFits w64 c.in-Some.size.value = search rules in
    size-negative c.args.s.now c.args.pos c.args.line c.in-Some.size c.in-Some.ensures (simp (to_z-of_z in-range) at c.if-size-lt0.true)

pub returns-then-not-is_size : goal.returns-then-not-is_size
returns-then-not-is_size c =
    let value : ℤ = c.in-Some.size.value in
    let in-range : SFits w64 value = search rules in
    let positive : lt_z value (pos 0) ≡ false = simp (to_z-of_z in-range) at c.if-size-lt0.false in
    let tested = size_tested c.args.s.now c.args.pos c.args.line c.in-Some.size c.in-Some.ensures positive (ap nat_abs (to_z-of_z in-range)) c.is_size.ensures in
    rw (c.if-not-is_size.true) at tested

pub returns : goal.returns
returns c =
    let value : ℤ = c.in-Some.size.value in
    let in-range : SFits w64 value = search rules in
    let positive : lt_z value (pos 0) ≡ false = simp (to_z-of_z in-range) at c.if-size-lt0.false in
    let tested = size_tested c.args.s.now c.args.pos c.args.line c.in-Some.size c.in-Some.ensures positive (ap nat_abs (to_z-of_z in-range)) c.is_size.ensures in
    (rw (c.if-not-is_size.false) at tested) ∙ none_read c.args.s.now _ _ _ _ ∙ c.read_entries.ensures
