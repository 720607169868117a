use mathlib.Core.Path.{refl}
use native.Mathlib.Omega.{arith}
use lib.ListN.{length-append, length-drop}
use Rattle.market.specs.Bytes.{header}
use Rattle.writer.proofs.puts.put_header.Goals as goal

pub returns : goal.returns
unfolding header
returns c = record {
  next = refl;
  long = rw c.copy_from_slice.ensures.after (simp (length-append, length-drop) (omega (arith, c.requires)));
  text = rw c.copy_from_slice.ensures.after;
}
