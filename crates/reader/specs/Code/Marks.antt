-- One bit for each place of the lower triangle, in words of 64 bits.
use Rattle.std.specs.Prelude.{◌≡◌, Bool, List, ℕ, zero, suc, ◌+◌, ◌/◌, ◌%◌, ◌^◌, ◌≤◌, eqb, length, get_or, set}
use Rattle.std.specs.Int.Bits.{bit_or}
use Rattle.market.specs.Parse.{Triplet, is_among}

abbrev pub has_bit : ℕ → ℕ → Bool
has_bit x k = eqb (x / 2 ^ k % 2) 1

-- bit q of the words
unfoldable pub is_marked : List ℕ → ℕ → Bool
is_marked ms q = has_bit (get_or ms (q / 64) 0) (q % 64)

-- the words with bit q set
unfoldable pub marked : List ℕ → ℕ → List ℕ
marked ms q = set ms (q / 64) (bit_or (get_or ms (q / 64) 0) (2 ^ (q % 64)))

-- rows of 1, 2, 3, .. places: how many stand before row r
unfoldable pub triangle : ℕ → ℕ
triangle zero = 0
triangle (suc r) = triangle r + suc r

-- the bit of row r and column c
abbrev pub bit_of : ℕ → ℕ → ℕ
bit_of r c = triangle r + c

-- the marks say which places the entries name
pub record Marks (ms : List ℕ) (es : List Triplet) : Type 0 where
  pub long : length ms ≡ 131104
  pub each : (r c : ℕ) → c ≤ r → is_marked ms (bit_of r c) ≡ is_among es r c
