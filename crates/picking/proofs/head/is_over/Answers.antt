use mathlib.Core.Path.{◌≡◌, sym, ◌∙◌}
use Prim.Native.Nat.{◌≤◌, ◌<◌}
use native.Mathlib.Omega.{arith}
use lib.ListN.{length}
use borrow.Author.Tests.{le-leb, lt-leb}
use Rattle.prepared.proofs.Places as at
use Rattle.picking.specs.Code.Picks.{tables_in}
use Rattle.picking.proofs.Read.{most-read}
use Rattle.machine.proofs.AllBelow.{below_none, below_more, below_fail}
use Rattle.picking.proofs.Heads.{made_all, made-below}
use borrow.Author.Rules.{rules}
use Rattle.picking.proofs.head.is_over.Goals as goal

pub word_at-requires : goal.word_at-requires
word_at-requires c =
    let long : 144 ≤ length c.args.list.now = at.long c.args.list.now c.requires.0 in
    let low : c.loop-w.w < 16 = omega arith in
    omega (arith, long, low)

pub returns-then-made-w : goal.returns-then-made-w
returns-then-made-w c =
    let a = c.args in
    let low : c.loop-w.w < 16 = omega arith in
    let most : c.word_at.result ≡ (tables_in a.list.now).most c.loop-w.w = c.word_at.ensures ∙ sym (most-read a.list.now c.requires.0 c.loop-w.w low) in
    sym (below_fail (made_all (tables_in a.list.now) a.made.now) c.loop-w.w a.crew (search rules) (lt-leb _ _ (rw most at c.if-made-w.true))) ∙ made-below (tables_in a.list.now) a.made.now a.crew

pub loop-w-init : goal.loop-w-init
loop-w-init c = below_none _

pub loop-w-preserved : goal.loop-w-preserved
loop-w-preserved c =
    let a = c.args in
    let low : c.loop-w.w < 16 = omega arith in
    let most : c.word_at.result ≡ (tables_in a.list.now).most c.loop-w.w = c.word_at.ensures ∙ sym (most-read a.list.now c.requires.0 c.loop-w.w low) in
    below_more (made_all (tables_in a.list.now) a.made.now) c.loop-w.w (le-leb _ _ (rw most at c.if-made-w.false)) c.loop-w.invariant

pub returns : goal.returns
returns c =
    let a = c.args in
    let e : c.loop-w.w ≡ a.crew = search rules in
    sym (rw e at c.loop-w.invariant) ∙ made-below (tables_in a.list.now) a.made.now a.crew
