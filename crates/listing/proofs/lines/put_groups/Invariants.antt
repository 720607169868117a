-- Each turn puts a record's line.
use lib.ListN.{drop}
use Rattle.writer.proofs.puts.Putting.{Putting}
use Rattle.plan.specs.Groups.{records}
use Rattle.listing.specs.Listing.{group_lines}
use Rattle.listing.proofs.lines.put_groups.Given as goal

abbrev pub invariant-loop-i : goal.invariant-loop-i
invariant-loop-i l = Putting (group_lines 0 (records l.plan.count l.plan.groups.now)) (group_lines l.i (drop l.i (records l.plan.count l.plan.groups.now))) l.at l.p l.initial.output l.output
