-- `store_forces` meets its contract: a turn stores one force more.
use Rattle.words.specs.LittleEndian.{signed, signed_bytes_of}
use Rattle.words.proofs.Digits.{length-signed_bytes_of}
use Rattle.words.proofs.Blocks.{Storing}
use Rattle.prepared.specs.Tables.{original_by}
use Rattle.picking.specs.Code.Picks.{tables_in}
use Rattle.picking.proofs.forces.store_forces.Given as goal

abbrev pub invariant-loop-i : goal.invariant-loop-i
invariant-loop-i l =
    Storing (signed_bytes_of 8) 8 (length-signed_bytes_of 8) (original_by (tables_in l.list) (signed 8 l.sums)) l.initial.forces l.rows l.forces l.i
