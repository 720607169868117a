-- `store_places` meets its contract.
use mathlib.Core.Path.{◌≡◌, sym, ap, ◌∙◌}
use mathlib.Core.List.{List}
use Prim.Native.Nat.{ℕ}
use native.Mathlib.Omega.{arith}
use lib.ListN.{length, take}
use lib.Seq.{sets, length-take-le}
use Rattle.plan.proofs.Once.{once}
use Rattle.words.specs.LittleEndian.{unsigned_bytes}
use Rattle.preparing.proofs.Heads.{positions-all}
use Rattle.preparing.proofs.store_places.Goals as goal

pub slice_bounds-store_numbers-end : goal.slice_bounds-store_numbers-end
slice_bounds-store_numbers-end c =
    let long : length (take c.args.n c.positions.new.position) ≡ c.args.n = length-take-le c.args.n c.positions.new.position (omega (arith, c.positions.ensures.long, c.requires.2)) in
    sym long

pub store_numbers-requires : goal.store_numbers-requires
store_numbers-requires c =
    let long : length (take c.args.n c.positions.new.position) ≡ c.args.n = length-take-le c.args.n c.positions.new.position (omega (arith, c.positions.ensures.long, c.requires.2)) in
    rw long c.requires.0

pub returns : goal.returns
returns c =
    let a = c.args in
    c.store_numbers.ensures ∙ ap (λ (l : List ℕ). sets a.out.now a.from (unsigned_bytes 4 l))
    (positions-all a.n _ (once _ _ c.requires.3) c.requires.2 c.positions.new.position c.positions.ensures)
