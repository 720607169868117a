-- `store_gates` meets its contract: k numbers are stored.
use Prim.Native.Nat.{◌*◌}
use Rattle.preparing.specs.Code.Filled.{gate_number}
use Rattle.preparing.proofs.Fills.{Filling, four_of, four_long}
use Rattle.preparing.proofs.fill.store_gates.Given as goal

abbrev pub invariant-loop-k : goal.invariant-loop-k
invariant-loop-k l =
    Filling (four_of (gate_number l.leaves l.table)) 4 (four_long (gate_number l.leaves l.table)) l.initial.out l.from (l.n * 16) l.out l.k
