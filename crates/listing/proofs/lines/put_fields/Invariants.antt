-- Each turn puts a space and a number.
use lib.ListN.{drop}
use Rattle.writer.proofs.puts.Putting.{Putting}
use Rattle.listing.proofs.Printed.{fields_line}
use Rattle.listing.proofs.lines.put_fields.Given as goal

abbrev pub invariant-loop-v : goal.invariant-loop-v
invariant-loop-v l = Putting (fields_line l.numbers) (fields_line (drop l.v-index l.numbers)) l.at l.p l.initial.output l.output
