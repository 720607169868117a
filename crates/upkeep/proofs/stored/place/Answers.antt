-- `place`: the row's start and the column's position in it.
use mathlib.Core.Path.{◌≡◌, sym, ap, ◌∙◌}
use Prim.Native.Nat.{ℕ, ◌+◌}
use lib.ListN.{get_or}
use Rattle.matrix.specs.Matrix.{columns_of}
use Rattle.matrix.specs.Held.{held}
use Rattle.matrix.proofs.Rows.{columns-part, columns-in}
use Rattle.upkeep.specs.Upkeep.{entry_place}
use Rattle.upkeep.proofs.Positioned.{position_found, position_missing}
use Rattle.upkeep.proofs.stored.place.Goals as goal

pub columns_of-requires : goal.columns_of-requires
columns_of-requires c = columns-in _ c.requires.0 c.args.i c.requires.1

pub returns-in_err-k : goal.returns-in_err-k
returns-in_err-k c =
    let row : c.columns_of.result.now ≡ columns_of (held c.args.m.now) c.args.i = c.columns_of.ensures ∙ sym (columns-part (held c.args.m.now) c.args.i c.requires.1) in
    rw c.from_residual.ensures (rw row at (position_missing c.columns_of.result.now c.args.j c.in_err-k.ensures))

pub returns : goal.returns
unfolding entry_place
returns c =
    let row : c.columns_of.result.now ≡ columns_of (held c.args.m.now) c.args.i = c.columns_of.ensures ∙ sym (columns-part (held c.args.m.now) c.args.i c.requires.1) in
    let f = position_found c.columns_of.result.now c.args.j c.in_ok-k.k c.in_ok-k.ensures in
    (rw row at f.0, ap (λ (n : ℕ). get_or c.args.m.now.starts.now c.args.i 0 + n) (rw row at f.1))
