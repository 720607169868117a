use mathlib.Core.Path.{◌≡◌, sym, ◌∙◌}
use Prim.Native.Nat.{◌+◌, ◌-◌}
use lib.ListN.{length}
use native.Mathlib.Omega.{arith}
use Rattle.extents.specs.Extents.{serves}
use Rattle.extents.proofs.Ends.{sum-next, sum-split}
use Rattle.extents.proofs.FirstEnd.{seek_start, seek_next, seek_found, seek_none}
use Rattle.extents.proofs.first_end.Goals as goal

pub total-q-requires : goal.total-q-requires
total-q-requires c = let a = c.args in omega (arith, sum-split (a.least - 1) a.loads.now)

pub loop-k-init : goal.loop-k-init
loop-k-init c = let a = c.args in seek_start (λ e. serves e.load a.share.workers a.share.load a.p) a.loads.now a.least c.total-q.result (omega arith) (omega arith) c.total-q.ensures

pub overflow_add-q : goal.overflow_add-q
overflow_add-q c =
    let a = c.args in
    let l = c.loop-k in
    omega (arith, sum-next a.loads.now l.k (omega arith), sum-split (l.k + 1) a.loads.now)

pub serves-requires : goal.serves-requires
serves-requires c =
    let a = c.args in
    let l = c.loop-k in
    (omega (arith, sum-next a.loads.now l.k (omega arith), sum-split (l.k + 1) a.loads.now), omega arith)

pub returns-then-serves : goal.returns-then-serves
returns-then-serves c =
    let a = c.args in
    let l = c.loop-k in
    (seek_found (λ e. serves e.load a.share.workers a.share.load a.p) a.loads.now a.least l.k l.q l.invariant (omega arith) (sym c.serves.ensures ∙ c.if-serves.true), omega (arith, l.invariant.some))

pub loop-k-preserved : goal.loop-k-preserved
loop-k-preserved c =
    let a = c.args in
    let l = c.loop-k in
    seek_next (λ e. serves e.load a.share.workers a.share.load a.p) a.loads.now a.least l.k l.q l.invariant (omega arith) (sym c.serves.ensures ∙ c.if-serves.false)

pub returns : goal.returns
returns c =
    let a = c.args in
    let l = c.loop-k in
    let e : l.k ≡ length a.loads.now = omega (arith, l.invariant.most) in
    (rw (← e) (seek_none (λ e. serves e.load a.share.workers a.share.load a.p) a.loads.now a.least l.k l.q l.invariant (omega arith)), omega (arith, l.invariant.some))
