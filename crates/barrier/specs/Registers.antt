-- The barrier unit's registers: what a write makes of them, and what a read gives (document 02, Q-12).
use Rattle.std.specs.Prelude.{ℕ, ◌+◌, ◌*◌, ◌/◌, ◌%◌, ◌^◌, Bool, true, false, cond, not, ◌&&◌, [], ◌∷◌, ◌==◌, bit_and, bit_or, nat_le}
use Rattle.base.specs.Lists.{bit}
use Rattle.base.specs.Refusals as why
use Rattle.base.specs.Replies.{Reply, refused, Check, check, in_turn}
use Rattle.barrier.specs.declared.Barrier.{Barrier}
use Rattle.barrier.specs.Bits.{has_bit}

-- "an all-zero unit"
abbrev pub all_zero : Barrier
all_zero = record { members = 0; arrived = 0; status = false; enable = false; releases = 0 }

-- "Writing a member byte sets it and clears the arrived set"; members: the set with that byte
abbrev pub enlisted : Barrier → (members : ℕ) → Barrier
enlisted u members = record { members = members; arrived = 0; status = u.status; enable = u.enable; releases = u.releases }

-- "all members have arrived and there is at least one"
abbrev pub is_gathered : (members arrived : ℕ) → Bool
is_gathered members arrived = not (members == 0) && bit_and arrived members == members

-- "the arrived set clears and status bit 0 is set. .. The model counts releases modulo 4,294,967,296"
abbrev pub released : Barrier → Barrier
released u = record { members = u.members; arrived = 0; status = true; enable = u.enable; releases = (u.releases + 1) % 2 ^ 32 }

-- else the arrived set is kept
abbrev pub still_out : Barrier → (arrived : ℕ) → Barrier
still_out u arrived = record { members = u.members; arrived = arrived; status = u.status; enable = u.enable; releases = u.releases }

-- "Writing an arrived byte adds those of its bits that are members"; named: the set of those bits alone
abbrev pub arriving : Barrier → (named : ℕ) → Barrier
arriving u named =
    let arrived : ℕ = bit_or u.arrived (bit_and named u.members) in
    cond (is_gathered u.members arrived) (released u) (still_out u arrived)

-- "Writing status with bit 0 set clears that bit"
abbrev pub acknowledged : Barrier → (clears : Bool) → Barrier
acknowledged u clears = record { members = u.members; arrived = u.arrived; status = u.status && not clears; enable = u.enable; releases = u.releases }

-- "Byte 5 keeps bit 0 alone"
abbrev pub enabled : Barrier → (enable : Bool) → Barrier
enabled u enable = record { members = u.members; arrived = u.arrived; status = u.status; enable = enable; releases = u.releases }

-- "Bytes 0 and 1 are the member set, 2 and 3 the arrived set, low byte first ..; byte 4 is status, byte 5 the enable";
-- a write elsewhere changes nothing
unfoldable pub after_write : Barrier → (address byte : ℕ) → Barrier
after_write u address byte =
    cond (address == 0) (enlisted u (u.members / 256 * 256 + byte))
    (cond (address == 1) (enlisted u (byte * 256 + u.members % 256))
    (cond (address == 2) (arriving u byte)
    (cond (address == 3) (arriving u (byte * 256))
    (cond (address == 4) (acknowledged u (has_bit byte 0))
    (cond (address == 5) (enabled u (has_bit byte 0)) u)))))

-- what each byte reads: of status and enable "other bits read 0"
unfoldable pub register : Barrier → (address : ℕ) → ℕ
register u address =
    cond (address == 0) (u.members % 256)
    (cond (address == 1) (u.members / 256)
    (cond (address == 2) (u.arrived % 256)
    (cond (address == 3) (u.arrived / 256)
    (cond (address == 4) (bit u.status) (bit u.enable)))))

-- "25: address above 5"
abbrev pub last_address : ℕ
last_address = 5

abbrev pub address_check : (address : ℕ) → Check
address_check address = check why.no_register (nat_le address last_address)

-- a call that names a register: refused, or as given
unfoldable pub addressed : (address : ℕ) → Reply → Reply
addressed address reply = in_turn refused (address_check address ∷ []) reply

-- "The interrupt line is up while bit 0 of status and of enable are both set"
abbrev pub is_up : Barrier → Bool
is_up u = u.status && u.enable
