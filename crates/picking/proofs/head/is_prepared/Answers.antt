-- `is_prepared` meets its contract, test by test.
use mathlib.Core.Path.{◌≡◌, ◌∙◌}
use Prim.Native.Nat.{◌≤◌}
use native.Mathlib.Omega.{arith}
use lib.ListN.{length}
use Rattle.words.specs.Code.Places.{four_at}
use Rattle.picking.proofs.Heads.{short_list, other-mark, too_many, long-enough}
use borrow.Author.Rules.{rules}
use Rattle.picking.proofs.head.is_prepared.Goals as goal
use Rattle.picking.proofs.head.is_prepared.Goals.{then-list-lt-HEAD-via-then-list-lt-HEAD, then-list-lt-HEAD-via-else-list-lt-HEAD+then-word_at-ne-MARK, then-list-lt-HEAD-via-else-list-lt-HEAD+else-word_at-ne-MARK+then-number_at-gt-MAX_WORKERS}

pub returns-then-list-lt-HEAD : goal.returns-then-list-lt-HEAD
returns-then-list-lt-HEAD c = elim c.then-list-lt-HEAD.branch [
  | then-list-lt-HEAD-via-then-list-lt-HEAD w ↦ short_list c.args.list.now w.if-list-lt-HEAD.true
  | then-list-lt-HEAD-via-else-list-lt-HEAD+then-word_at-ne-MARK w ↦
      (let long : 144 ≤ length c.args.list.now = omega arith in other-mark c.args.list.now long (λ q. w.if-word_at-ne-MARK.true (w.word_at.ensures ∙ q)))
  | then-list-lt-HEAD-via-else-list-lt-HEAD+else-word_at-ne-MARK+then-number_at-gt-MAX_WORKERS w ↦
      (let long : 144 ≤ length c.args.list.now = omega arith in
      let same : four_at c.args.list.now 0 ≡ 1347115597 = omega (arith, w.if-word_at-ne-MARK.false, w.word_at.ensures) in
      too_many c.args.list.now long same (omega (arith, w.if-number_at-gt-MAX_WORKERS.true, w.number_at.ensures.0)))
]

pub returns : goal.returns
returns c =
    let long : 144 ≤ length c.args.list.now = search rules in
    let same : four_at c.args.list.now 0 ≡ 1347115597 = omega (arith, c.if-word_at-ne-MARK.false, c.word_at.ensures) in
    rw (c.number_at-rows.ensures.0, c.number_at-count.ensures.0) (long-enough c.args.list.now long same (omega (arith, c.if-number_at-gt-MAX_WORKERS.false, c.number_at.ensures.0)))
