-- `store_state` meets its contract: both parts are stored whole.
use borrow.Author.Rules.{rules}
use mathlib.Core.Path.{◌≡◌, sym}
use native.Mathlib.Omega.{arith}
use lib.ListN.{length}
use lib.Seq.{length-take-le}
use Rattle.answers.proofs.StateBytes.{state-stored}
use Rattle.answers.proofs.state.store_state.Goals as goal

pub slice_bounds-store-end-3 : goal.slice_bounds-store-end-3
slice_bounds-store-end-3 c = sym (length-take-le 64 c.args.bytes.now (omega (arith, c.requires)))

pub returns : goal.returns
returns c =
    let counts : length c.args.state.made ≡ 16 = search rules in
    let numbers : length c.args.state.held ≡ 16 = search rules in
    state-stored c.args.state.made c.args.state.held c.args.bytes.now counts numbers c.requires c.store.ensures c.store-2.ensures
