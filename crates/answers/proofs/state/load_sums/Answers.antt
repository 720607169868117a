-- `load_sums` meets its contract: they are loaded into an array of max_starts numbers.
use lib.Dec.{eqb}
use lib.ListN.{length}
use Rattle.answers.specs.Runs.{state_bytes}
use Rattle.answers.proofs.RunCalls.{sums_decoded}
use Rattle.answers.proofs.state.load_sums.Goals as goal

pub returns-clause-are : goal.returns-clause-are
returns-clause-are c =
    let a = c.args in
    sums_decoded (eqb (length a.state.now) state_bytes) a.sums.now _ a.array.now c.sums_of.ensures c.told-array c.load.ensures.0 c.load.ensures.1
