use Rattle.std.proofs.Common.{arith, ◌∙◌, refl}
use Rattle.base.proofs.Each.{each-of-get}
use Rattle.words.specs.LittleEndian.{signed_number, signed}
use Rattle.words.proofs.Blocks.{length_decoded}
use Rattle.words.proofs.Bytes.{IsByte}
use Rattle.control.proofs.Weighing.{force_left, weigh_none, weigh_more, weigh_all}
use Rattle.control.proofs.control.Goals as goal

pub loop-i-init : goal.loop-i-init
loop-i-init c = weigh_none (signed 8 c.args.forces.now)

pub loop-i-preserved : goal.loop-i-preserved
loop-i-preserved c =
    let b = c.args.forces.now in
    weigh_more (signed 8 b) (omega (arith, length_decoded (signed_number 8) 8 b)) refl
    (c.read.ensures ∙ force_left b c.loop-i.i (omega arith) (each-of-get IsByte b 0 (λ i. omega (arith, c.type_inv.forces i))))
    refl
    c.loop-i.invariant

pub returns : goal.returns
returns c = let b = c.args.forces.now in weigh_all (signed 8 b) (omega (arith, length_decoded (signed_number 8) 8 b)) c.loop-i.invariant
