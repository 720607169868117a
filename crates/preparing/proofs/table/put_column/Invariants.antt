-- `put_column` meets its contract: i gates are put.
use Rattle.preparing.specs.Code.Gates.{Column}
use Rattle.preparing.proofs.table.put_column.Given as goal

abbrev pub invariant-loop-i : goal.invariant-loop-i
invariant-loop-i l = Column l.v l.i l.gates l.initial.table l.table
