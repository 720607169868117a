use mathlib.Core.Path.{sym, ap, ◌∙◌}
use Prim.Native.Nat.{◌+◌, ◌*◌, ◌≤◌}
use native.Mathlib.Omega.{arith}
use lib.ListN.{length}
use mir.Syntax.{w64}
use mir.Val.{SFits}
use mir.Facts.{to_z-of_z}
use Rattle.words.specs.LittleEndian.{to_signed}
use Rattle.words.proofs.Digits.{eight-at}
use Rattle.picking.proofs.Turns.{loaded_none, loaded_is}
use borrow.Author.Rules.{rules}
use Rattle.picking.proofs.places.load_at.Goals as goal

pub returns-then-rows-t : goal.returns-then-rows-t
returns-then-rows-t c = loaded_none _ _ _ (search rules)

pub returns : goal.returns
returns c =
    let h : SFits w64 c.read.result = search rules in
    let inside : c.args.t * 8 + 8 ≤ length c.args.sums.now = omega arith in
    to_z-of_z h ∙ c.read.ensures ∙ ap (to_signed 8) (sym (eight-at c.args.sums.now (c.args.t * 8) inside)) ∙ loaded_is _ _ _ (search rules)
