-- The text that the writer gives.
use Rattle.std.specs.Prelude.{◌&&◌, cond, List, [], ◌∷◌, ◌++◌, map, ℕ, zero, suc, ◌+◌, ◌/◌, ◌%◌, ltb, leb, ℤ, pos, negsuc, length}
use Rattle.base.specs.Lists.{filter, is_in, concat, range}
use Rattle.base.specs.Replies.{Reply, accepted, refused, in_turn, room_for}
use Rattle.matrix.specs.Matrix.{Matrix, columns_of, entry, matrix_check}
use Rattle.market.specs.Bytes.{header, blank, line_feed, minus, digit0}
use Rattle.market.specs.Parse.{Triplet, triplet}

-- the decimal digits of a number below 10 ^ f
unfoldable pub decimal : (f : ℕ) → ℕ → List ℕ
decimal zero n = []
decimal (suc f) n = cond (ltb n 10) ((digit0 + n) ∷ []) (decimal f (n / 10) ++ (digit0 + n % 10) ∷ [])

-- ten digits are enough for every number of a matrix text
abbrev pub natural : ℕ → List ℕ
natural n = decimal 10 n

-- a whole number of at most f digits
abbrev pub signed_decimal : (f : ℕ) → ℤ → List ℕ
signed_decimal f (pos n) = decimal f n
signed_decimal f (negsuc n) = minus ∷ decimal f (suc n)

abbrev pub integer : ℤ → List ℕ
integer z = signed_decimal 10 z

-- three fields "with single spaces", and the line feed
abbrev pub line_of : ℕ → ℕ → ℤ → List ℕ
line_of r c v = natural r ++ blank ∷ natural c ++ blank ∷ integer v ++ line_feed ∷ []

abbrev pub entry_line : Triplet → List ℕ
entry_line e = line_of (suc e.row) (suc e.column) e.value

-- "The writer gives line 1, the size line and the entries .. and no `%` lines"
unfoldable pub text_of : ℕ → List Triplet → List ℕ
text_of n es = header ++ line_of n n (pos (length es)) ++ concat (map entry_line es)

-- column j on and below the diagonal, by row
unfoldable pub column_of : Matrix → ℕ → List Triplet
column_of m j = map (λ i. triplet i j (entry m i j)) (filter (λ i. leb j i && is_in (columns_of m i) j) (range 0 m.n))

-- "the entries by column, then row"
unfoldable pub lower : Matrix → List Triplet
lower m = concat (map (column_of m) (range 0 m.n))

unfoldable pub written : Matrix → List ℕ
written m = text_of m.n (lower m)

-- The writer's reply: 5, 9; accepted with the bytes written. Its text is then `lent` of the reply and `written m`
unfoldable pub write_reply : Matrix → (room : ℕ) → Reply
write_reply m room = in_turn refused (matrix_check m ∷ room_for (length (written m)) room ∷ []) (accepted (length (written m)))
