-- `picks_both_in` meets its contract: the lists are decoded as far as a roof can reach, and the picks are stored.
use mathlib.Core.List.{[], ◌++◌}
use lib.ListN.{take, drop}
use Rattle.words.specs.LittleEndian.{unsigned}
use Rattle.lent.specs.Code.Nets.{net_of}
use Rattle.answers.specs.Runs.{Bytes}
use Rattle.crews.specs.Crews.{Two}
use Rattle.turns.specs.Records.{states_of}
use Rattle.shared.specs.Performed.{PicksMade}
use Rattle.quarters.specs.Both.{reply_to_both}
use Rattle.quarters.specs.Code.Loaded.{movements_of}
use Rattle.quarters.proofs.CutRoofs.{picks-whole}
use Rattle.quarters.proofs.BothIn.{BothFit, both_fit, both-answered, stored-left}
use Rattle.quarters.proofs.picks_both_in.Goals as goal
use Rattle.quarters.proofs.picks_both_in.Goals.{After-picks_both-answer}

abbrev bytes : After-picks_both-answer → Two Bytes
bytes c = let a = c.args in record { of0 = record { state = a.state0.now; sums = a.sums0.now }; of1 = record { state = a.state1.now; sums = a.sums1.now } }

-- the picks that were made on the lists that are decoded are made on the whole ones
made : (c : After-picks_both-answer) → let r = c.args.roof.now in let answer = c.picks_both-answer in
    PicksMade (net_of r.net) (movements_of r) (unsigned 4 r.plan.order.now) (unsigned 4 r.plan.groups.now) r.plan.count
    (states_of c.load_crews-crews.result (take c.load_sums-kept0.result c.load_sums-kept0.new.array) (take c.load_sums-kept1.result c.load_sums-kept1.new.array))
    c.args.picks.now answer.result (states_of answer.new.crews answer.new.sums0 answer.new.sums1)
made c =
    let r = c.args.roof.now in
    let plan = c.decode-4.ensures in
    picks-whole (net_of r.net) (movements_of r) (unsigned 4 r.plan.order.now) (unsigned 4 r.plan.groups.now) r.plan.count
    c.decode.ensures (λ i. record { of0 = c.decode-2.ensures i; of1 = c.decode-3.ensures i }) plan.order plan.groups
    _ c.args.picks.now (rw plan.count at c.picks_both-answer.ensures)

fit : (c : After-picks_both-answer) → let answer = c.picks_both-answer in
    BothFit c.args.roof.now.net.n answer.result (answer.new.sums0 ++ drop c.load_sums-kept0.result c.load_sums-kept0.new.array) (answer.new.sums1 ++ drop c.load_sums-kept1.result c.load_sums-kept1.new.array) (bytes c)
fit c =
    both_fit (net_of c.args.roof.now.net) (movements_of c.args.roof.now) _ _ _ (bytes c) c.load_crews-crews.result c.load_crews-crews.ensures c.load_sums-kept0.ensures.are c.load_sums-kept1.ensures.are
    c.args.picks.now _ _ c.picks_both-answer.auto.sums0 c.picks_both-answer.auto.sums1 (made c)

pub store_picks-requires : goal.store_picks-requires
store_picks-requires c = (fit (goal.at.store_picks-requires c).After-picks_both-answer).fit0

pub store_picks-requires-2 : goal.store_picks-requires-2
store_picks-requires-2 c = (fit (goal.at.store_picks-requires-2 c).After-picks_both-answer).fit1

pub word_of-requires : goal.word_of-requires
word_of-requires c = (fit (goal.at.word_of-requires c).After-picks_both-answer).low

pub returns : goal.returns
unfolding reply_to_both
returns c =
    let a = c.args in
    let answer = c.picks_both-answer in
    let k = (goal.at.returns c).After-picks_both-answer in
    let new0 = answer.new.sums0 ++ drop c.load_sums-kept0.result c.load_sums-kept0.new.array in
    let new1 = answer.new.sums1 ++ drop c.load_sums-kept1.result c.load_sums-kept1.new.array in
    let s = states_of answer.new.crews (take a.roof.now.net.n new0) (take a.roof.now.net.n new1) in
    both-answered (net_of a.roof.now.net) (movements_of a.roof.now) _ _ _ (bytes k) c.load_crews-crews.result c.load_crews-crews.ensures c.load_sums-kept0.ensures.are c.load_sums-kept1.ensures.are
    a.picks.now _ _ answer.auto.sums0 answer.auto.sums1 (made k)
    (record {
      returns = c.word_of.ensures [];
      left0 = stored-left answer.result new0 s.of0 (bytes k).of0 c.store_picks.ensures.state c.store_picks.ensures.sums;
      left1 = stored-left answer.result new1 s.of1 (bytes k).of1 c.store_picks-2.ensures.state c.store_picks-2.ensures.sums;
    })
