use mathlib.Core.Path.{◌≡◌, sym, ◌∙◌}
use Prim.Native.Nat.{◌≤◌, ◌<◌}
use native.Mathlib.Omega.{arith}
use lib.ListN.{length}
use borrow.Author.Tests.{le-leb, lt-leb}
use Rattle.prepared.proofs.Places as at
use Rattle.picking.specs.Code.Picks.{tables_in}
use Rattle.picking.proofs.Read.{most-read}
use Rattle.machine.proofs.AllBelow.{below_none, below_more, below_fail}
use Rattle.picking.proofs.Heads.{is_fine, fine-below}
use borrow.Author.Rules.{rules}
use Rattle.picking.proofs.head.is_fine.Goals as goal

pub word_at-requires : goal.word_at-requires
word_at-requires c =
    let long : 144 ≤ length c.args.list.now = at.long c.args.list.now c.requires in
    let low : c.loop-w.w < 16 = search rules in
    omega (arith, long, low)

pub returns-then-word_at-done : goal.returns-then-word_at-done
returns-then-word_at-done c =
    let a = c.args in
    let low : c.loop-w.w < 16 = search rules in
    let most : c.word_at.result ≡ (tables_in a.list.now).most c.loop-w.w = c.word_at.ensures ∙ sym (most-read a.list.now c.requires c.loop-w.w low) in
    sym (below_fail (is_fine (tables_in a.list.now) a.made.now) c.loop-w.w 16 (search rules) (lt-leb _ _ (rw most at c.if-word_at-done.true))) ∙ fine-below (tables_in a.list.now) a.made.now 16

pub loop-w-init : goal.loop-w-init
loop-w-init c = below_none _

pub loop-w-preserved : goal.loop-w-preserved
loop-w-preserved c =
    let a = c.args in
    let low : c.loop-w.w < 16 = search rules in
    let most : c.word_at.result ≡ (tables_in a.list.now).most c.loop-w.w = c.word_at.ensures ∙ sym (most-read a.list.now c.requires c.loop-w.w low) in
    below_more (is_fine (tables_in a.list.now) a.made.now) c.loop-w.w (le-leb _ _ (rw most at c.if-word_at-done.false)) c.loop-w.invariant

pub returns : goal.returns
returns c =
    let a = c.args in
    let e : c.loop-w.w ≡ 16 = search rules in
    sym (rw e at c.loop-w.invariant) ∙ fine-below (tables_in a.list.now) a.made.now 16
