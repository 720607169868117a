use mathlib.Core.Path.{ap, ◌∙◌}
use Prim.Native.Nat.{◌*◌}
use lib.IntN.{ℤ}
use mir.Syntax.{w64}
use mir.Val.{SFits}
use mir.Facts.{to_z-of_z}
use lib.Seq.{sets}
use Rattle.words.specs.LittleEndian.{signed_bytes_of}
use Rattle.picking.proofs.Turns.{stored-none, stored_is}
use borrow.Author.Rules.{rules}
use Rattle.picking.proofs.places.store_at.Goals as goal

pub returns-then-t-rows : goal.returns-then-t-rows
returns-then-t-rows c =
    let a = c.args in
    let h : SFits w64 a.z = search rules in
    c.write.ensures ∙ ap (λ (v : ℤ). sets a.sums.now (a.t * 8) (signed_bytes_of 8 v)) (to_z-of_z h) ∙ stored_is a.sums.now a.rows a.t (search rules) a.z

pub returns-else-t-rows : goal.returns-else-t-rows
returns-else-t-rows c = stored-none _ _ _ (search rules) _
