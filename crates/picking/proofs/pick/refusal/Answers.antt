-- `refusal` meets its contract.
use mathlib.Core.Path.{◌≡◌, refl, sym, ap, ◌∙◌}
use mathlib.Core.Bool.{true, false}
use Prim.Native.Nat.{ℕ, ◌≤◌, ◌<◌}
use native.Mathlib.Omega.{arith}
use lib.ListN.{get_or}
use borrow.Author.Tests.{lt-ltb, le-ltb, le-leb, lt-leb}
use Rattle.run.specs.Updates.{Update, count}
use Rattle.run.specs.Machine.{reason}
use Rattle.prepared.specs.Format.{gates_from}
use Rattle.picking.specs.Code.Reads.{update_of, shut_at}
use Rattle.picking.proofs.Read.{next_at, most_at, waits_at, refused_by}
use borrow.Author.Rules.{rules}
use Rattle.picking.proofs.RefusalNames.{Left}
use Rattle.picking.proofs.pick.refusal.Goals as goal

pub returns-then-sizes-w : goal.returns-then-sizes-w
unfolding reason
returns-then-sizes-w c =
    let a = c.args in
    refused_by c.requires.0 a.made.now a.w false _ _ (le-ltb a.w a.sizes.crew c.if-sizes-w.true) refl refl

pub returns-then-word_at-made : goal.returns-then-word_at-made
unfolding reason
returns-then-word_at-made c =
    let mine : c.args.w < c.args.sizes.crew = search rules in
    let a = c.args in
    let l = mine in
    let m : most_at c.requires.0 a.made.now a.w ≤ count a.made.now a.w = omega (arith, c.if-word_at-made.true, c.word_at.ensures) in
    refused_by c.requires.0 a.made.now a.w true true _ (lt-ltb a.w a.sizes.crew l) (le-leb _ _ m) refl

pub returns-then-row-seen : goal.returns-then-row-seen
unfolding reason update_of
returns-then-row-seen c =
    let mine : c.args.w < c.args.sizes.crew = search rules in
    let left : let a = c.args in Left a.w a.sizes.crew (count a.made.now a.w) (most_at c.requires.0 a.made.now a.w) = record { worker = mine; left = omega (arith, c.if-word_at-made.false, c.word_at.ensures) } in
    let row_is : c.next_update-e.result.row ≡ (next_at c.requires.0 c.args.made.now c.args.w).row = ap (λ (v : Update). v.row) c.next_update-e.ensures in
    let a = c.args in
    let f = left in
    let row : (next_at c.requires.0 a.made.now a.w).row ≡ get_or a.seen.now a.w 0 = sym row_is ∙ c.if-row-seen.true in
    let e = ap (λ (r : ℕ). shut_at a.list.now (gates_from a.sizes.count) a.sizes.rows r a.made.now) row ∙ c.requires.1 a.w (omega (arith, f.worker, c.requires.0.few)) in
    refused_by c.requires.0 a.made.now a.w true false false (lt-ltb a.w a.sizes.crew f.worker) (lt-leb _ _ f.left) e

pub returns-then-is_shut : goal.returns-then-is_shut
unfolding reason update_of
returns-then-is_shut c =
    let mine : c.args.w < c.args.sizes.crew = search rules in
    let left : let a = c.args in Left a.w a.sizes.crew (count a.made.now a.w) (most_at c.requires.0 a.made.now a.w) = record { worker = mine; left = omega (arith, c.if-word_at-made.false, c.word_at.ensures) } in
    let row_is : c.next_update-e.result.row ≡ (next_at c.requires.0 c.args.made.now c.args.w).row = ap (λ (v : Update). v.row) c.next_update-e.ensures in
    let shut_is : c.is_shut.result ≡ waits_at c.requires.0 c.args.made.now c.args.w = let a = c.args in c.is_shut.ensures ∙ ap (λ (r : ℕ). shut_at a.list.now (gates_from a.sizes.count) a.sizes.rows r a.made.now) row_is in
    let a = c.args in
    let f = left in
    let t : c.is_shut.result ≡ true = search rules in
    refused_by c.requires.0 a.made.now a.w true false true (lt-ltb a.w a.sizes.crew f.worker) (lt-leb _ _ f.left) (sym shut_is ∙ t)

pub returns : goal.returns
unfolding reason update_of
returns c =
    let mine : c.args.w < c.args.sizes.crew = search rules in
    let left : let a = c.args in Left a.w a.sizes.crew (count a.made.now a.w) (most_at c.requires.0 a.made.now a.w) = record { worker = mine; left = omega (arith, c.if-word_at-made.false, c.word_at.ensures) } in
    let row_is : c.next_update-e.result.row ≡ (next_at c.requires.0 c.args.made.now c.args.w).row = ap (λ (v : Update). v.row) c.next_update-e.ensures in
    let shut_is : c.is_shut.result ≡ waits_at c.requires.0 c.args.made.now c.args.w = let a = c.args in c.is_shut.ensures ∙ ap (λ (r : ℕ). shut_at a.list.now (gates_from a.sizes.count) a.sizes.rows r a.made.now) row_is in
    let a = c.args in
    let f = left in
    let t : c.is_shut.result ≡ false = search rules in
    refused_by c.requires.0 a.made.now a.w true false false (lt-ltb a.w a.sizes.crew f.worker) (lt-leb _ _ f.left) (sym shut_is ∙ t)
