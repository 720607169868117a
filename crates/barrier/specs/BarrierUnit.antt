-- "After any writes from an all-zero unit, that count is the number, by that modulus, of complete gatherings in the
-- history"; and what the registers read after them.
use Rattle.std.specs.Prelude.{◌≡◌, ℕ, ◌+◌, ◌/◌, ◌%◌, ◌^◌, ◌<◌, ◌&&◌, List, [], ◌∷◌, nat_le}
use Rattle.base.specs.Lists.{filter, bit}
use Rattle.barrier.specs.declared.Barrier.{Barrier}
use Rattle.barrier.specs.Bits.{has_bit}
use Rattle.barrier.specs.Registers.{all_zero, after_write, register, last_address, is_up}
use Rattle.barrier.specs.Gatherings.{Write, member_bytes, arrived_bytes, status_byte, enable_byte, is_member, gatherings, has_arrived, is_released, is_enabled}

-- the unit after writes, the latest first
unfoldable pub unit_after : List Write → Barrier
unit_after [] = all_zero
unit_after (w ∷ ws) = after_write (unit_after ws) w.address w.byte

-- their history: a write that is refused is none
unfoldable pub history : List Write → List Write
history ws = filter (λ w. nat_le w.address last_address) ws

pub record BarrierUnit : Type 0 where
  pub counts : (ws : List Write) → (unit_after ws).releases ≡ gatherings (history ws) % 2 ^ 32
  -- each of the sixteen bits of both sets, and the other two registers; every register reads a byte
  pub members : (ws : List Write) (v : ℕ) → v < 16 → has_bit (register (unit_after ws) (member_bytes + v / 8)) (v % 8) ≡ is_member (history ws) v
  pub arrived : (ws : List Write) (v : ℕ) → v < 16 → has_bit (register (unit_after ws) (arrived_bytes + v / 8)) (v % 8) ≡ has_arrived (history ws) v
  pub status : (ws : List Write) → register (unit_after ws) status_byte ≡ bit (is_released (history ws))
  pub enable : (ws : List Write) → register (unit_after ws) enable_byte ≡ bit (is_enabled (history ws))
  pub small : (ws : List Write) (address : ℕ) → register (unit_after ws) address < 256
  -- "The interrupt line is up while bit 0 of status and of enable are both set"
  pub line : (ws : List Write) → is_up (unit_after ws) ≡ is_released (history ws) && is_enabled (history ws)
