-- `access` meets its contract.
use mathlib.Core.Path.{◌≡◌, refl, sym, ap, ◌∙◌}
use native.Mathlib.Omega.{arith}
use lib.IntN.{pos}
use lib.ListN.{get_or}
use mir.Syntax.{w64}
use mir.Val.{SFits}
use mir.Facts.{to_z-of_z}
use borrow.Author.Rules.{rules}
use Rattle.words.specs.LittleEndian.{signed}
use Rattle.steps.specs.Code.Sum.{sum_of}
use Rattle.steps.proofs.TableSteps.{checked_sum}
use Rattle.picking.specs.Code.Reads.{stored_at, update_of}
use Rattle.picking.proofs.Accesses.{from, add, access-made, access-passes}
use Rattle.picking.proofs.Turns.{loaded_signed, stored-signed, stored-kept}
use Rattle.picking.proofs.pick.access.Goals as goal
use Rattle.picking.proofs.pick.access.Goals.{After-checked_add}

-- what is loaded, and the sum
module _ (c : After-checked_add) where
  loaded : c.load_at.result ≡ get_or (signed 8 c.args.sums.now) c.args.e.target (pos 0)
  loaded = c.load_at.ensures ∙ loaded_signed c.args.sums.now c.args.rows c.args.e.target c.requires.2

  from_is : let a = c.args in c.either-from.result ≡ from a.state.now.made a.state.now.held (signed 8 a.sums.now) a.w (update_of a.e)
  unfolding update_of
  from_is =
      let a = c.args in
      let f : SFits w64 c.load_at.result = search rules in
      let h : SFits w64 (get_or a.state.now.held a.w (pos 0)) = search rules in
      rw (to_z-of_z h, to_z-of_z f ∙ loaded) at c.either-from.ensures

  add_is : let a = c.args in c.either.result ≡ add a.state.now.made a.state.now.held (signed 8 a.sums.now) a.w (update_of a.e)
  unfolding update_of
  add_is =
      let k : SFits w64 c.args.e.amount = search rules in
      rw (to_z-of_z k) at c.either.ensures

  sum_is : let a = c.args in c.checked_add.result ≡ sum_of (from a.state.now.made a.state.now.held (signed 8 a.sums.now) a.w (update_of a.e)) (add a.state.now.made a.state.now.held (signed 8 a.sums.now) a.w (update_of a.e))
  sum_is =
      let f : SFits w64 c.either-from.result = search rules in
      let k : SFits w64 c.either.result = search rules in
      let a = c.args in
      checked_sum (from a.state.now.made a.state.now.held (signed 8 a.sums.now) a.w (update_of a.e)) (add a.state.now.made a.state.now.held (signed 8 a.sums.now) a.w (update_of a.e)) c.checked_add.result (rw (to_z-of_z f, to_z-of_z k, from_is, add_is) at c.checked_add.ensures)

pub returns-in_default : goal.returns-in_default
unfolding update_of
returns-in_default c =
    let b = (goal.at.returns-in_default c).After-checked_add in
    let a = c.args in
    let f : SFits w64 c.load_at.result = search rules in
    (access-passes a.state.now.made a.state.now.held (signed 8 a.sums.now) a.w (update_of a.e) (rw (loaded b) at f) (sym (sum_is b) ∙ c.in_default.is), record { long = refl; past = refl })

pub returns : goal.returns
unfolding update_of
returns c =
    let b = (goal.at.returns c).After-checked_add in
    let in-range : SFits w64 c.in-Some.sum = search rules in
    let a = c.args in
    let z = c.in-Some.sum in
    let f = in-range in
    let g : SFits w64 c.either-from.result = search rules in
    let stored = c.store_at.ensures ∙ ap (stored_at a.sums.now a.rows a.e.target) (to_z-of_z f) in
    let now = ap (signed 8) stored ∙ stored-signed a.sums.now a.rows a.e.target c.requires.2 z (omega (arith, f.sfits)) in (
      rw (now, to_z-of_z g ∙ from_is b) (access-made a.state.now.made a.state.now.held (signed 8 a.sums.now) a.w (update_of a.e) z (sym (sum_is b) ∙ c.in-Some.is)),
      rw stored (stored-kept a.sums.now a.rows a.e.target c.requires.2 z),
    )
