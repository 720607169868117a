-- A barrier unit that its caller keeps in bytes, and what the calls on it reply (document 02, Q-12).
use Rattle.std.specs.Prelude.{List, [], ◌∷◌, ◌++◌, map, ℕ, ◌+◌, ◌*◌, length, get_or, take, drop}
use Rattle.base.specs.Lists.{range, bit}
use Rattle.base.specs.Replies.{Reply, accepted, refused, room_for, in_turn}
use Rattle.words.specs.LittleEndian.{number, bytes_of}
use Rattle.barrier.specs.declared.Barrier.{Barrier}
use Rattle.barrier.specs.Bits.{has_bit}
use Rattle.barrier.specs.Registers.{register, address_check, is_up}

-- registers 0 to 5, then the count of releases in four bytes, low byte first
abbrev pub unit_size : ℕ
unit_size = 10

-- the unit that any ten bytes stand for: of bytes 4 and 5 bit 0 alone counts
unfoldable pub unit_in : List ℕ → Barrier
unit_in bytes = record {
  members = get_or bytes 1 0 * 256 + get_or bytes 0 0;
  arrived = get_or bytes 3 0 * 256 + get_or bytes 2 0;
  status = has_bit (get_or bytes 4 0) 0;
  enable = has_bit (get_or bytes 5 0) 0;
  releases = number (take 4 (drop 6 bytes));
}

-- the bytes of a unit
unfoldable pub unit_bytes : Barrier → List ℕ
unit_bytes u = map (register u) (range 0 6) ++ bytes_of 4 u.releases

-- "25: address above 5", then 9 for a unit of fewer bytes; unit: the bytes that are lent
unfoldable pub write_unit_reply : (unit : List ℕ) (address : ℕ) → Reply
write_unit_reply unit address = in_turn refused (address_check address ∷ room_for unit_size (length unit) ∷ []) (accepted 0)

unfoldable pub read_unit_reply : (unit : List ℕ) (address : ℕ) → Reply
read_unit_reply unit address = in_turn refused (address_check address ∷ room_for unit_size (length unit) ∷ []) (accepted (register (unit_in unit) address))

-- 1 while the line is up, else 0
unfoldable pub line_reply : (unit : List ℕ) → Reply
line_reply unit = in_turn refused (room_for unit_size (length unit) ∷ []) (accepted (bit (is_up (unit_in unit))))

unfoldable pub releases_reply : (unit : List ℕ) → Reply
releases_reply unit = in_turn refused (room_for unit_size (length unit) ∷ []) (accepted (unit_in unit).releases)
