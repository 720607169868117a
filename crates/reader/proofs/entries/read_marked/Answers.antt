use borrow.Author.Rules.{rules}
use mathlib.Core.Path.{◌≡◌, refl, sym, ap, ◌∙◌}
use native.Mathlib.Omega.{arith}
use mir.Syntax.{w32}
use mir.Val.{SFits}
use mir.Facts.{to_z-of_z}
use Prim.Native.Nat.{◌<◌}
use lib.ListN.{length}
use Rattle.market.specs.Parse.{is_among}
use Rattle.compress.specs.Code.Entries.{listed}
use Rattle.compress.proofs.entries.Listed.{length_listed}
use Rattle.reader.specs.Code.Marks.{is_marked}
use Rattle.reader.proofs.marks.Triangle.{marks-none}
use Rattle.reader.proofs.entries.Turns.{refused-line, again_line}
use Rattle.reader.proofs.entries.Marking.{going_more}
use Rattle.reader.proofs.entries.read_marked.Goals as goal

pub mark_all-requires : goal.mark_all-requires
mark_all-requires c = (c.requires.lower, marks-none 131104 refl)

pub loop-i-init : goal.loop-i-init
loop-i-init c = record { held = c.requires; size = length_listed c.args.list.now; marks = c.mark_all.ensures; same = refl }

pub returns-in-Err : goal.returns-in-Err
returns-in-Err c =
    let g = c.loop-i.invariant in
    let more : length (listed c.loop-i.list) < c.args.size.now.entries = omega (arith, g.size) in
    sym g.same ∙ refused-line c.args.s.now c.loop-i.p c.args.size.now (listed c.loop-i.list) more c.in-Err.kind c.in-Err.ensures ∙ rw g.size

pub returns-then-mark : goal.returns-then-mark
returns-then-mark c =
    let g = c.loop-i.invariant in
    let more : length (listed c.loop-i.list) < c.args.size.now.entries = omega (arith, g.size) in
    let was : is_among (listed c.loop-i.list) c.in-Ok.e.row c.in-Ok.e.column ≡ c.mark.result = sym (g.marks.each c.in-Ok.e.row c.in-Ok.e.column c.in-Ok.ensures.0) ∙ ap (is_marked c.loop-i.marks) (sym c.bit_of.ensures.0) ∙ sym c.mark.ensures.0 in
    sym g.same ∙ again_line c.args.s.now c.loop-i.p c.args.size.now (listed c.loop-i.list) more c.in-Ok.e c.in-Ok.ensures (was ∙ c.if-mark.true) ∙ rw g.size

pub push-requires : goal.push-requires
push-requires c = omega (arith, c.loop-i.invariant.size, length_listed c.loop-i.list, c.args.size.now.within.count)

pub loop-i-preserved : goal.loop-i-preserved
loop-i-preserved c =
    let g = c.loop-i.invariant in
    let in-range : SFits w32 c.in-Ok.e.value = search rules in
    let was : is_among (listed c.loop-i.list) c.in-Ok.e.row c.in-Ok.e.column ≡ c.mark.result = sym (g.marks.each c.in-Ok.e.row c.in-Ok.e.column c.in-Ok.ensures.0) ∙ ap (is_marked c.loop-i.marks) (sym c.bit_of.ensures.0) ∙ sym c.mark.ensures.0 in
    rw (simp (to_z-of_z in-range) at c.push.ensures.entries)
    (going_more g (omega arith) c.in-Ok.e c.in-Ok.ensures (was ∙ c.if-mark.false) c.bit_of.ensures.0 c.bit_of.ensures.1 c.mark.ensures.1)

pub returns : goal.returns
returns c =
    let g = c.loop-i.invariant in
    sym g.same ∙ c.ended.ensures (listed c.loop-i.list) (omega (arith, g.size, g.held.count))
