-- `run::state::State::fresh` meets its contract.
use borrow.Author.Rules.{rules}
use Rattle.run.specs.State.{fresh}
use Rattle.machine.proofs.state.State.fresh.Goals as goal

pub returns : goal.returns
unfolding fresh
returns c = search rules
