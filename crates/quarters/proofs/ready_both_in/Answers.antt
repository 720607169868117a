-- `ready_both_in` meets its contract: the lists are decoded as far as a roof can reach.
use mathlib.Core.Path.{refl, ap, ◌∙◌}
use lib.Dec.{eqb}
use lib.ListN.{length}
use Rattle.words.specs.LittleEndian.{unsigned}
use Rattle.lent.specs.Word.{word}
use Rattle.lent.specs.Code.Nets.{net_of}
use Rattle.answers.specs.Runs.{state_bytes}
use Rattle.answers.proofs.RunCalls.{sums_decoded}
use Rattle.crews.specs.Calls.{BothAnswer}
use Rattle.quarters.specs.Both.{reply_to_both}
use Rattle.quarters.specs.Code.Loaded.{movements_of}
use Rattle.quarters.proofs.CutRoofs.{sets-whole}
use Rattle.quarters.proofs.BothIn.{sets_in}
use Rattle.quarters.proofs.ReadyFew.{few-ready}
use Rattle.quarters.proofs.ready_both_in.Goals as goal

pub word_of_sets-requires : goal.word_of_sets-requires
word_of_sets-requires c = few-ready _ _ _ _ _ _ c.ready_both-sets.ensures

pub returns : goal.returns
returns c b h =
    let a = c.args in
    let r = a.roof.now in
    let m = net_of r.net in
    let x = movements_of r in
    let o = unsigned 4 r.plan.order.now in
    let g = unsigned 4 r.plan.groups.now in
    let plan = c.decode-4.ensures in
    let e0 = c.load-kept0.ensures in
    let e1 = c.load-kept1.ensures in
    c.word_of_sets.ensures
    ∙ ap (λ (y : BothAnswer). word (reply_to_both y))
    (rw plan.count at c.ready_both-sets.ensures
    ∙ sets-whole m x o g r.plan.count
    c.decode.ensures (λ i. record { of0 = c.decode-2.ensures i; of1 = c.decode-3.ensures i }) plan.order plan.groups
    _
    ∙ sets_in m x o g r.plan.count b a.crews h.crews
    (sums_decoded (eqb (length b.of0.state) state_bytes) b.of0.sums a.sums0.now _ h.sums0 refl e0.0 e0.1)
    (sums_decoded (eqb (length b.of1.state) state_bytes) b.of1.sums a.sums1.now _ h.sums1 refl e1.0 e1.1))
