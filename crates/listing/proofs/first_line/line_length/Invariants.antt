-- Each turn passes a byte that is no line feed.
use mathlib.Core.Path.{◌≡◌}
use Prim.Native.Nat.{◌+◌}
use lib.ListN.{length, drop}
use Rattle.listing.specs.Listing.{first_line}
use Rattle.listing.proofs.first_line.line_length.Given as goal

abbrev pub invariant-loop-i : goal.invariant-loop-i
invariant-loop-i l = l.i + length (first_line (drop l.i l.input)) ≡ length (first_line l.input)
