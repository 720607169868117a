use mathlib.Core.Path.{sym, ap, ◌∙◌}
use Prim.Native.Nat.{◌+◌, ◌*◌, ◌≤◌}
use native.Mathlib.Omega.{arith}
use lib.ListN.{length}
use mir.Syntax.{w64}
use mir.Val.{SFits}
use mir.Facts.{to_z-of_z}
use Rattle.words.specs.LittleEndian.{to_signed}
use Rattle.words.proofs.Digits.{eight-at}
use Rattle.picking.proofs.Turns.{update-none, update-is}
use borrow.Author.Rules.{rules}
use Rattle.picking.proofs.places.update_at.Goals as goal

pub returns-then-count-k : goal.returns-then-count-k
returns-then-count-k c = update-none _ _ _ (search rules)

pub returns : goal.returns
returns c =
    let h : SFits w64 c.read-amount.result = search rules in
    let inside : 144 + c.args.k * 16 + 8 ≤ length c.args.list.now = omega arith in
    update-is _ _ _ (search rules) _ _ _ (to_z-of_z h ∙ c.read-amount.ensures ∙ ap (to_signed 8) (sym (eight-at c.args.list.now (144 + c.args.k * 16) inside))) c.number_at-target.ensures.0 c.number_at-row.ensures.0
