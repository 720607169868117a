-- Numbers at a place of a byte list, byte by byte: what the functions on one number promise.
use Rattle.std.specs.Prelude.{List, ℕ, ◌+◌, ◌*◌, get_or}

-- the number of the four bytes from a place on, the low byte first; and of the eight
abbrev pub four_at : List ℕ → ℕ → ℕ
four_at bytes at = get_or bytes at 0 + get_or bytes (at + 1) 0 * 256 + get_or bytes (at + 2) 0 * 65536 + get_or bytes (at + 3) 0 * 16777216

abbrev pub eight_at : List ℕ → ℕ → ℕ
eight_at bytes at = four_at bytes at + four_at bytes (at + 4) * 4294967296
