-- `join_within` meets its contract: the lists are decoded as far as they can reach.
use Prim.Native.Nat.{ℕ}
use native.Mathlib.Omega.{arith}
use lib.IntN.{ℤ, pos}
use lib.ListN.{length-replicate}
use Rattle.words.specs.LittleEndian.{unsigned}
use Rattle.lent.specs.Code.Nets.{net_of}
use Rattle.shop.proofs.Joins.{cells-few, places_decoded, nets_decoded}
use Rattle.shop.proofs.sew.join_within.Goals as goal

pub whole_as_slice-join_of : goal.whole_as_slice-join_of
whole_as_slice-join_of g c = omega (arith, c.requires.0)

pub whole_as_slice-join_of-2 : goal.whole_as_slice-join_of-2
whole_as_slice-join_of-2 g c = omega (arith, c.requires.0)

pub join_of-requires : goal.join_of-requires
join_of-requires g c =
    let a = c.args in
    let first = cells-few a.first.now.net g.row.CELLS a.first.now.fit.1 c.decode-one.ensures in
    let second = cells-few a.second.now.net g.row.CELLS a.second.now.fit.1 c.decode-two.ensures in (
      rw (length-replicate {A = ℕ} g.row.ROOM 0) (omega (arith, c.requires.1, first, second)),
      rw (length-replicate {A = ℤ} g.row.ROOM (pos 0)) (omega (arith, c.requires.1, first, second)),
    )

pub returns : goal.returns
returns g c =
    let a = c.args in
    nets_decoded (net_of a.first.now.net) (net_of a.second.now.net) (unsigned 4 a.places.now) c.decode-one.ensures c.decode-two.ensures
    (places_decoded _ _ (unsigned 4 a.places.now) c.decode.ensures c.join_of.ensures)
