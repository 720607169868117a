-- What the calls reply, by address and length.
use mathlib.Core.Path.{◌≡◌}
use mathlib.Core.List.{List, [], ◌∷◌}
use Prim.Native.Nat.{ℕ, ◌≤◌, ◌<◌}
use lib.ListN.{length}
use borrow.Author.Tests.{le-leb, lt-leb}
use Rattle.base.specs.Refusals as why
use Rattle.base.specs.Replies.{Reply, refused, room_for, in_turn}
use Rattle.barrier.specs.Registers.{last_address, address_check}
use Rattle.board.specs.Unit.{unit_size}

-- of a call that names a register
module _ (unit : List ℕ) (address : ℕ) (reply : Reply) where
  abbrev judged : Reply
  judged = in_turn refused (address_check address ∷ room_for unit_size (length unit) ∷ []) reply

  pub no_register_lem : last_address < address → judged ≡ refused why.no_register 0
  unfolding in_turn
  no_register_lem l = rw (lt-leb address last_address l)

  pub in_reach : address ≤ last_address → unit_size ≤ length unit → judged ≡ reply
  unfolding in_turn
  in_reach l s = rw (le-leb address last_address l, le-leb unit_size (length unit) s)

-- of the others
pub enough : (unit : List ℕ) (reply : Reply) → unit_size ≤ length unit → in_turn refused (room_for unit_size (length unit) ∷ []) reply ≡ reply
unfolding in_turn
enough unit reply s = rw (le-leb unit_size (length unit) s)
