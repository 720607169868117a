-- `pick` meets its contract.
use mathlib.Core.Path.{◌≡◌, refl, sym, ap, ◌∙◌}
use Prim.Native.Nat.{ℕ, suc, ◌+◌, ◌*◌, ◌^◌, ◌<◌}
use native.Mathlib.Omega.{arith}
use Rattle.std.proofs.Common.{Err}
use borrow.Author.Rules.{rules}
use Rattle.run.specs.Updates.{Update, count}
use Rattle.steps.specs.Code.Steps.{told}
use Rattle.steps.proofs.TableSteps.{not_told, pick_refused}
use Rattle.prepared.specs.Format.{gates_from}
use Rattle.picking.specs.Code.Reads.{update_of, shut_at}
use Rattle.picking.proofs.Read.{Free, free, next-read}
use Rattle.picking.proofs.Open.{seen_on}
use Rattle.picking.proofs.pick.pick.Goals as goal
use Rattle.picking.proofs.pick.pick.Goals.{In_ok-refusal}

-- it is not refused
module _ (c : In_ok-refusal) where
  unrefused : Free c.requires.0 c.args.state.now.made c.args.w
  unrefused = free c.requires.0 c.args.state.now.made c.args.w (sym c.in_ok-refusal.ensures)

  worker : c.args.w < 16
  worker = omega (arith, unrefused.worker, c.requires.0.few)

pub returns-in_err-refusal : goal.returns-in_err-refusal
returns-in_err-refusal c =
    let up : c.from_residual.result ≡ Err c.in_err-refusal.field-0.0 = grind arith in
    let number : told c.from_residual.result ≡ told c.refusal.result = rw (up, c.in_err-refusal.was) refl in
    (pick_refused _ (told c.from_residual.result) _ _ _ (number ∙ c.refusal.ensures) (λ q. not_told _ (rw up at q)), record { long = refl; past = refl }, c.requires.2)

pub next_update-e-requires : goal.next_update-e-requires
next_update-e-requires c =
    let b = (goal.at.next_update-e-requires c).In_ok-refusal in
    (worker b, omega (arith, c.requires.0.inside))

pub offset_bounds-seen-w : goal.offset_bounds-seen-w
offset_bounds-seen-w c = let l = worker (goal.at.offset_bounds-seen-w c).In_ok-refusal in search rules

pub bounds-seen-w : goal.bounds-seen-w
bounds-seen-w c = let l = worker (goal.at.bounds-seen-w c).In_ok-refusal in search rules

pub access-requires : goal.access-requires
access-requires c =
    let b = (goal.at.access-requires c).In_ok-refusal in
    let low : let a = c.args in suc (count a.state.now.made a.w) < 2 ^ 32 = let a = c.args in
    let at : ℕ = 16 + a.w * 4 in
    let byte = c.type_inv.list in
    omega (arith, (unrefused b).left, byte at, byte (at + 1), byte (at + 2), byte (at + 3)) in
    (worker b, low, c.requires.1)

pub returns : goal.returns
unfolding update_of
returns c =
    let b = (goal.at.returns c).In_ok-refusal in
    let a = c.args in
    let f = unrefused b in
    let none_is = sym c.in_ok-refusal.ensures in
    let next-is = next-read c.requires.0 a.state.now.made a.w f.worker ∙ sym c.next_update-e.ensures in
    let row = ap (λ (v : Update). shut_at a.list.now (gates_from a.sizes.count) a.sizes.rows v.row a.state.now.made) c.next_update-e.ensures ∙ f.opened in
    (rw (none_is, next-is) c.access.ensures.0, c.access.ensures.1, seen_on a.list.now a.sizes.rows a.sizes.count (worker b) c.access.ensures.0 c.requires.2 c.next_update-e.result.row row)
