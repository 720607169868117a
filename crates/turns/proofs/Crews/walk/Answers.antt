use mathlib.Core.Path.{◌≡◌, refl, ◌∙◌}
use lib.ListN.{length}
use borrow.Author.Rules.{rules}
use Rattle.steps.specs.Code.Steps.{told}
use Rattle.steps.proofs.TableSteps.{not_told}
use Rattle.crews.specs.Crews.{crew0, crew1, other, own_of}
use Rattle.turns.specs.Code.Lists.{counts_in, blocks_in}
use Rattle.turns.proofs.SharedLoop.{of_both, hand-same, begun-same, sharing_start, sharing_none, sharing_hand, sharing_refused, sharing_named, sharing_ready, sharing_halt, sharing_renewed, sharing_on}
use Rattle.turns.proofs.Crews.walk.Goals as goal
use Rattle.turns.proofs.Crews.walk.Goals.{then-renew_for, else-renew_for}

pub loop-k-init : goal.loop-k-init
loop-k-init c =
    let made0-long : length c.args.self.of0.made ≡ 16 = let g = c.well_formed.0 in search rules in
    let made1-long : length c.args.self.of1.made ≡ 16 = let g = c.well_formed.0 in search rules in
    let e = c.records-records.ensures in
    let f0 = rw (e.0, e.1) at c.find.ensures in
    let f1 = rw (e.0, e.1) at c.find-2.ensures in
    (refl, refl, rw (c.empty.ensures, c.empty-2.ensures) (sharing_start c.requires.4 made0-long made1-long (of_both _ f0.0 f1.0) (of_both _ f0.1 f1.1) (search rules) (search rules)))

pub begin_for-requires : goal.begin_for-requires
begin_for-requires c = λ d. hand-same _ _ c.requires.0 c.requires.1 (own_of (blocks_in c.loop-k.blocked) d) (own_of (counts_in c.loop-k.crews) (other d)) d (sharing_hand c.loop-k.invariant.2 d)

-- ---- a pick that is refused
pub returns-in-Err : goal.returns-in-Err
returns-in-Err c q ok is laid t =
    let k = c.args.work0.now.course in
    let b = begun-same _ _ c.requires.0 c.requires.1 (blocks_in c.loop-k.blocked) c.begin_for.ensures in
    sharing_refused c.loop-k.invariant.2 c.requires.5 k.few c.loop-k-test.true (rw c.in-Err.is at b) (not_told c.in-Err.kind) q ok is laid t

pub access_for-requires : goal.access_for-requires
access_for-requires c =
    let k = c.args.work0.now in
    let r = c.loop-k.invariant.2 in
    let b = begun-same _ _ c.requires.0 c.requires.1 (blocks_in c.loop-k.blocked) c.begin_for.ensures in
    let none : told c.begin_for.result ≡ 0 = rw c.in_default.is refl in
    let ready = sharing_ready r c.requires.5 k.course.few c.loop-k-test.true b none k.placed (of_both _ (c.loop-k.invariant.0 ∙ c.requires.2) (c.loop-k.invariant.1 ∙ c.requires.3)) in (
      sharing_named r c.requires.5 k.course.few c.loop-k-test.true b none,
      of_both _ (ready crew0) (ready crew1),
    )

pub returns-in-Err-access_for : goal.returns-in-Err-access_for
returns-in-Err-access_for c q ok is laid t =
    let k = c.args.work0.now.course in
    let b = begun-same _ _ c.requires.0 c.requires.1 (blocks_in c.loop-k.blocked) c.begin_for.ensures in
    let none : told c.begin_for.result ≡ 0 = rw c.in_default.is refl in
    sharing_halt c.loop-k.invariant.2 c.requires.5 k.few c.loop-k-test.true b none (rw c.in-Err-access_for.is at c.access_for.ensures.made) (not_told c.in-Err-access_for.kind) q ok is laid t

-- ---- a pick that is taken
pub renew_for-requires : goal.renew_for-requires
renew_for-requires c =
    let k = c.args.work0.now.course in
    let none : told c.begin_for.result ≡ 0 = rw c.in_default.is refl in
    sharing_named c.loop-k.invariant.2 c.requires.5 k.few c.loop-k-test.true (begun-same _ _ c.requires.0 c.requires.1 (blocks_in c.loop-k.blocked) c.begin_for.ensures) none

pub loop-k-preserved : goal.loop-k-preserved
loop-k-preserved c =
    let k = c.args.work0.now.course in
    let none : told c.begin_for.result ≡ 0 = rw c.in_default.is refl in
    let took : told c.access_for.result ≡ 0 = rw c.in_default-access_for.is refl in
    let r = c.loop-k.invariant.2 in
    let b = begun-same _ _ c.requires.0 c.requires.1 (blocks_in c.loop-k.blocked) c.begin_for.ensures in
    let a = c.access_for.ensures in
    let e = c.records-records.ensures in
    let m = rw (e.0, e.1) at c.renew_for.ensures in
    let test = c.loop-k-test.true in (
      c.access_for.auto.sums0 ∙ c.loop-k.invariant.0,
      c.access_for.auto.sums1 ∙ c.loop-k.invariant.1,
      elim c.if-renew_for.branch [
        | then-renew_for w ↦ rw (w.hands-is, w.clear.ensures.0, w.clear.ensures.1, w.clear-then-renew_for.ensures.0, w.clear-then-renew_for.ensures.1, a.adds0, a.adds1) (sharing_renewed r c.requires.5 k.few test b none a.made took m)
        | else-renew_for w ↦ rw (w.hands-is, a.adds0, a.adds1) (sharing_on r c.requires.5 k.few test b none a.made took m w.if-renew_for.false)
      ],
    )

-- ---- after the loop
pub returns : goal.returns
returns c q ok is laid t = sharing_none c.loop-k.invariant.2 (search rules) q ok is laid t
