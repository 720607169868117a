-- `set_movement_with` meets its contract: the lists are decoded as far as they can reach.
use Rattle.words.specs.LittleEndian.{signed_number}
use Rattle.lent.specs.Code.Nets.{net_of}
use Rattle.lent.proofs.Loads.{loaded_size, loaded_is}
use Rattle.site.proofs.Changes.{movement_cut}
use Rattle.site.proofs.movement.set_movement_with.Goals as goal

pub slice_bounds-set_movement_of-end : goal.slice_bounds-set_movement_of-end
slice_bounds-set_movement_of-end g c = loaded_size (signed_number 4) 4 c.args.movements.now _ c.load-moved.ensures.0 c.load-moved.ensures.1

pub slice_bounds-set_movement_of-end-2 : goal.slice_bounds-set_movement_of-end-2
slice_bounds-set_movement_of-end-2 g c = loaded_size (signed_number 8) 8 c.args.forces.now _ c.load-kept.ensures.0 c.load-kept.ensures.1

pub set_movement_of-requires : goal.set_movement_of-requires
set_movement_of-requires g c =
    let a = c.args in
    record { moved = loaded_is (signed_number 4) 4 a.movements.now _ c.load-moved.ensures.0 c.load-moved.ensures.1; kept = loaded_is (signed_number 8) 8 a.forces.now _ c.load-kept.ensures.0 c.load-kept.ensures.1 }

pub returns : goal.returns
returns g c =
    let a = c.args in
    movement_cut (net_of a.bytes.now.net) _ a.movements.now a.forces.now c.decode-m.ensures c.set_movement_of.ensures
