-- `all_gates` meets its contract: v columns are put.
use Rattle.preparing.specs.Code.Gates.{AllGates}
use Rattle.preparing.proofs.table.all_gates.Given as goal

abbrev pub invariant-loop-v : goal.invariant-loop-v
invariant-loop-v l = AllGates l.v l.count l.groups l.ends l.table
