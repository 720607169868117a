-- A unit that begins with ten zero bytes and that only the calls write: in bytes too it is the unit of theorem
-- barrier_unit, so its count is "the number .. of complete gatherings in the history".
use Rattle.std.specs.Prelude.{◌≡◌, List, [], ◌∷◌, ◌++◌, ℕ, ◌%◌, ◌^◌, ◌≤◌, replicate}
use Rattle.base.specs.Lists.{bit}
use Rattle.base.specs.Replies.{accepted, lent}
use Rattle.barrier.specs.Registers.{after_write, register, last_address, is_up}
use Rattle.barrier.specs.Gatherings.{Write, gatherings}
use Rattle.barrier.specs.BarrierUnit.{unit_after, history}
use Rattle.board.specs.Unit.{unit_size, unit_in, unit_bytes, write_unit_reply, read_unit_reply, line_reply, releases_reply}

-- what a write leaves in a unit's bytes
abbrev pub unit_left : List ℕ → Write → List ℕ
unit_left unit w = lent (write_unit_reply unit w.address) (unit_bytes (after_write (unit_in unit) w.address w.byte)) unit

-- the bytes after writes, the latest first, each handed them as the last one left them; rest: what was lent past the
-- ten
unfoldable pub unit_bytes_after : (rest : List ℕ) → List Write → List ℕ
unit_bytes_after rest [] = replicate unit_size 0 ++ rest
unit_bytes_after rest (w ∷ ws) = unit_left (unit_bytes_after rest ws) w

pub record KeptUnit : Type 0 where
  -- the bytes are those of the model after the same writes, and stand for just that unit
  pub left : (rest : List ℕ) (ws : List Write) → unit_bytes_after rest ws ≡ unit_bytes (unit_after ws) ++ rest
  pub read_back : (rest : List ℕ) (ws : List Write) → unit_in (unit_bytes_after rest ws) ≡ unit_after ws
  -- so the calls reply
  pub reads : (rest : List ℕ) (ws : List Write) (address : ℕ) → address ≤ last_address → read_unit_reply (unit_bytes_after rest ws) address ≡ accepted (register (unit_after ws) address)
  pub line : (rest : List ℕ) (ws : List Write) → line_reply (unit_bytes_after rest ws) ≡ accepted (bit (is_up (unit_after ws)))
  pub counts : (rest : List ℕ) (ws : List Write) → releases_reply (unit_bytes_after rest ws) ≡ accepted (gatherings (history ws) % 2 ^ 32)
