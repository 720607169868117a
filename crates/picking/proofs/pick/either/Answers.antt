-- `either` meets its contract.
use mir.Syntax.{w64}
use mir.Val.{SFits}
use mir.Facts.{to_z-of_z}
use borrow.Author.Rules.{rules}
use Rattle.picking.proofs.pick.either.Goals as goal

pub returns-then-first : goal.returns-then-first
returns-then-first c = let f : SFits w64 c.args.a = search rules in rw c.if-first.true (to_z-of_z f)

pub returns-else-first : goal.returns-else-first
returns-else-first c = let f : SFits w64 c.args.b = search rules in rw c.if-first.false (to_z-of_z f)
