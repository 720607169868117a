use mathlib.Core.Path.{◌≡◌, sym, ap, ◌∙◌}
use mathlib.Core.List.{List}
use Prim.Native.Nat.{◌*◌, ◌<◌}
use native.Mathlib.Omega.{arith}
use lib.IntN.{ℤ, pos}
use lib.ListN.{get_or}
use lib.Seq.{sets, take_all}
use mir.Syntax.{w64}
use mir.Val.{SFits, to_z, of_z}
use mir.Facts.{to_z-of_z}
use Rattle.words.specs.LittleEndian.{signed, signed_bytes_of, signed_bytes, stored}
use Rattle.words.proofs.Digits.{length-signed_bytes_of}
use Rattle.words.proofs.Blocks.{store-none, store_more, store-all}
use Rattle.prepared.specs.Tables.{original_by}
use Rattle.picking.specs.Code.Reads.{loaded_at}
use Rattle.picking.specs.Code.Picks.{tables_in}
use Rattle.picking.proofs.Turns.{stored_is}
use Rattle.picking.proofs.InOrder.{forces-long, force-at}
use borrow.Author.Rules.{rules}
use Rattle.picking.proofs.forces.store_forces.Goals as goal

pub loop-i-init : goal.loop-i-init
loop-i-init c =
    let a = c.args in
    store-none (signed_bytes_of 8) 8 (length-signed_bytes_of 8) (original_by (tables_in a.list.now) (signed 8 a.sums.now)) a.forces.now a.sizes.rows

pub loop-i-preserved : goal.loop-i-preserved
loop-i-preserved c =
    let loaded_fits : SFits w64 c.load_at.result = search rules in
    let a = c.args in
    let head = c.requires.0 in
    let i = c.loop-i.i in
    let low : i < a.sizes.rows = omega arith in
    let forces : List ℤ = original_by (tables_in a.list.now) (signed 8 a.sums.now) in
    let value : to_z w64 (of_z w64 c.load_at.result) ≡ get_or forces i (pos 0) =
    to_z-of_z loaded_fits ∙ c.load_at.ensures ∙ ap (loaded_at a.sums.now a.sizes.rows) c.number_at-place.ensures.0 ∙ force-at head a.sums.now c.requires.1 i low in
    store_more (signed_bytes_of 8) 8 (length-signed_bytes_of 8) forces a.forces.now a.sizes.rows c.loop-i.forces _ i (pos 0) (omega (arith, forces-long head a.sums.now)) low (omega (arith, low, c.requires.2))
    (c.store_at.ensures ∙ sym (stored_is c.loop-i.forces a.sizes.rows i low (to_z w64 (of_z w64 c.load_at.result))) ∙ ap (λ (z : ℤ). sets c.loop-i.forces (i * 8) (signed_bytes_of 8 z)) value)
    c.loop-i.invariant

pub returns : goal.returns
returns c =
    let a = c.args in
    let forces : List ℤ = original_by (tables_in a.list.now) (signed 8 a.sums.now) in
    let long = forces-long c.requires.0 a.sums.now in
    store-all (signed_bytes_of 8) 8 (length-signed_bytes_of 8) forces a.forces.now a.sizes.rows a.sizes.rows c.loop-i.forces c.loop-i.i (omega (arith, long)) (search rules) c.loop-i.invariant
    ∙ ap (λ (zs : List ℤ). stored (signed_bytes 8 zs) a.forces.now) (take_all a.sizes.rows forces (omega (arith, long)))
