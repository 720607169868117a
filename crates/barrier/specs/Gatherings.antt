-- Gatherings in a history of writes, by the writes alone (document 02, Q-12). A history has the latest write first.
use Rattle.std.specs.Prelude.{ℕ, ◌+◌, ◌/◌, ◌%◌, ◌<◌, Bool, false, cond, not, ◌&&◌, ◌||◌, List, [], ◌∷◌, ◌==◌, nat_lt}
use Rattle.base.specs.Lists.{any, all, bit}
use Rattle.barrier.specs.Bits.{has_bit, all_workers}

pub record Write : Type 0 where
  pub address : ℕ
  pub byte : ℕ
  pub small : byte < 256

-- "Bytes 0 and 1 are the member set, 2 and 3 the arrived set ..; byte 4 is status, byte 5 the enable"
abbrev pub member_bytes : ℕ
member_bytes = 0

abbrev pub arrived_bytes : ℕ
arrived_bytes = 2

abbrev pub status_byte : ℕ
status_byte = 4

abbrev pub enable_byte : ℕ
enable_byte = 5

-- a write to byte 0 or 1
abbrev pub is_member_write : Write → Bool
is_member_write w = nat_lt w.address arrived_bytes

-- "low byte first, bit 0 for worker 0": a write to worker v's byte of the set that begins there, and one with its bit
abbrev pub is_to : (set : ℕ) → Write → (v : ℕ) → Bool
is_to set w v = w.address == (set + v / 8)

abbrev pub has_worker : Write → (v : ℕ) → Bool
has_worker w v = has_bit w.byte (v % 8)

-- worker v is a member after a history: the last write to its member byte has its bit
unfoldable pub is_member : List Write → (v : ℕ) → Bool
is_member [] v = false
is_member (w ∷ h) v = cond (is_to member_bytes w v) (has_worker w v) (is_member h v)

-- worker v "has been named in .. arrived writes"
unfoldable pub was_named : List Write → (v : ℕ) → Bool
was_named ws v = any (λ w. is_to arrived_bytes w v && has_worker w v) ws

-- a gathering "is complete when every member, of at least one, has been named in its arrived writes"; the members are
-- those after h
unfoldable pub all_named : (h ws : List Write) → Bool
all_named h ws = any (is_member h) all_workers && all (λ v. not (is_member h v) || was_named ws v) all_workers

-- the writes of the gathering that a history ends in: it "begins after a member write or the last complete one"
unfoldable pub gathering : List Write → List Write
gathering [] = []
gathering (w ∷ h) = cond (is_member_write w) [] (w ∷ cond (all_named h (gathering h)) [] (gathering h))

-- a history ends in a complete gathering
abbrev pub is_complete : List Write → Bool
is_complete h = all_named h (gathering h)

-- "the number .. of complete gatherings in the history"
unfoldable pub gatherings : List Write → ℕ
gatherings [] = 0
gatherings (w ∷ h) = bit (is_complete (w ∷ h)) + gatherings h

-- ---- what else the registers tell of a history

-- worker v has arrived: it is a member that has been named in the gathering, which is not complete
abbrev pub has_arrived : List Write → (v : ℕ) → Bool
has_arrived h v = is_member h v && was_named (gathering h) v && not (is_complete h)

-- "status bit 0 is set" when a gathering is complete, and "Writing status with bit 0 set clears that bit"
unfoldable pub is_released : List Write → Bool
is_released [] = false
is_released (w ∷ h) = is_complete (w ∷ h) || (is_released h && not (w.address == status_byte && has_bit w.byte 0))

-- "Byte 5 keeps bit 0 alone": that of the last write to it
unfoldable pub is_enabled : List Write → Bool
is_enabled [] = false
is_enabled (w ∷ h) = cond (w.address == enable_byte) (has_bit w.byte 0) (is_enabled h)
