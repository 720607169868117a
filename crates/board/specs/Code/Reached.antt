-- The unit that bytes hold, or why there is none.
use Rattle.std.specs.Prelude.{◌≡◌, ◌≤◌, List, [], ◌∷◌, ℕ, length, Result, Ok, Err}
use Rattle.base.specs.Replies.{Reply, refused, room_for, in_turn}
use Rattle.base.specs.Verdicts.{number_of}
use Rattle.base.specs.declared.Refusal.{Refusal}
use Rattle.barrier.specs.declared.Barrier.{Barrier}
use Rattle.barrier.specs.Registers.{last_address, address_check}
use Rattle.board.specs.Unit.{unit_size, unit_in}

-- there are enough bytes, and it is theirs; or too few, whatever was to be replied
abbrev pub IsHeld : (bytes : List ℕ) → Result Barrier Refusal → Type 0
IsHeld bytes (Ok u) = (unit_size ≤ length bytes) × (u ≡ unit_in bytes)
IsHeld bytes (Err r) = (reply : Reply) → in_turn refused (room_for unit_size (length bytes) ∷ []) reply ≡ refused (number_of r.kind) r.place

-- the same for a register, which has to be there first
abbrev pub IsReached : (bytes : List ℕ) (address : ℕ) → Result Barrier Refusal → Type 0
IsReached bytes address (Ok u) = (address ≤ last_address) × (unit_size ≤ length bytes) × (u ≡ unit_in bytes)
IsReached bytes address (Err r) = (reply : Reply) → in_turn refused (address_check address ∷ room_for unit_size (length bytes) ∷ []) reply ≡ refused (number_of r.kind) r.place
