-- Bytes and their classes, and line 1 of a matrix text.
use Rattle.std.specs.Prelude.{Bool, ◌&&◌, cond, List, ℕ, leb, eqb}
use Rattle.base.specs.Ascii.{ascii}

abbrev pub line_feed : ℕ
line_feed = 10

abbrev pub blank : ℕ
blank = 32

abbrev pub percent : ℕ
percent = 37

abbrev pub minus : ℕ
minus = 45

abbrev pub digit0 : ℕ
digit0 = 48

abbrev pub digit9 : ℕ
digit9 = 57

-- "Bytes are sorted into digit, sign, space, line end and other": digit 1, sign 2, space 3, line end 4, other 0
unfoldable pub class_of : ℕ → ℕ
class_of b = cond (leb digit0 b && leb b digit9) 1 (cond (eqb b minus) 2 (cond (eqb b blank) 3 (cond (eqb b line_feed) 4 0)))

abbrev pub is_digit : ℕ → Bool
is_digit b = eqb (class_of b) 1

abbrev pub is_sign : ℕ → Bool
is_sign b = eqb (class_of b) 2

abbrev pub is_space : ℕ → Bool
is_space b = eqb (class_of b) 3

abbrev pub is_end : ℕ → Bool
is_end b = eqb (class_of b) 4

-- "Line 1 is `%%MatrixMarket matrix coordinate integer symmetric`", with its line feed
unfoldable pub header : List ℕ
header = ascii "%%MatrixMarket matrix coordinate integer symmetric\n"
