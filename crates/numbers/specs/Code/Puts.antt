-- How many bytes a text takes, as the code answers it.
use Rattle.std.specs.Prelude.{Result, Ok, Err, ℕ, ◌%◌, ◌^◌, Bool, true, false, nat_le}
use Rattle.base.specs.declared.Kind.TheVariants as kind
use Rattle.base.specs.declared.Refusal.{Refusal}

-- a text that takes so many bytes is too long
abbrev pub short : ℕ → Refusal
short needed = record { kind = kind.TooShort; place = needed % 2 ^ 32 }

abbrev pub if_room : Bool → ℕ → Result ℕ Refusal
if_room true needed = Ok needed
if_room false needed = Err (short needed)

abbrev pub size_of : (needed room : ℕ) → Result ℕ Refusal
size_of needed room = if_room (nat_le needed room) needed
