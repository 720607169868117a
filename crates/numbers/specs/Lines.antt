-- Lists of whole numbers as text: one number a line, spelled as in a matrix text.
use Rattle.std.specs.Prelude.{ℕ, suc, Bool, cond, ◌&&◌, List, [], ◌∷◌, ◌++◌, map, length, ℤ, nat_le, slice_index}
use Rattle.base.specs.Lists.{concat}
use Rattle.base.specs.Integers.{fits64}
use Rattle.base.specs.Refusals as why
use Rattle.market.specs.Bytes.{is_end, line_feed}
use Rattle.market.specs.Fields.{Scan, Signed, is, no, digits, is_needed, numeral_if, signed_by}
use Rattle.market.specs.Text.{signed_decimal}

-- ---- the text of a list

-- the line of a number; 19 digits are enough for 64 bits
unfoldable pub number_line : ℤ → List ℕ
number_line z = signed_decimal 19 z ++ line_feed ∷ []

-- one line after the other; "the empty text is the empty list"
unfoldable pub numbers_text : List ℤ → List ℕ
numbers_text zs = concat (map number_line zs)

-- ---- the list of a text

abbrev pub lengthened : ℕ → List (List ℕ) → List (List ℕ)
lengthened b [] = (b ∷ []) ∷ []
lengthened b (l ∷ ls) = (b ∷ l) ∷ ls

-- the lines of a text, each with its line feed; the last may lack one
unfoldable pub lines_in : List ℕ → List (List ℕ)
lines_in [] = []
lines_in (b ∷ bs) = let more = lines_in bs in cond (is_end b) ((b ∷ []) ∷ more) (lengthened b more)

-- "no needless leading zero"; of as many digits as there are
unfoldable pub is_spelled : List ℕ → Bool
is_spelled ds = nat_le 1 (length ds) && is_needed ds

unfoldable pub whole_number : List ℕ → Scan
whole_number xs = numeral_if is_spelled (digits xs)

abbrev pub with_end : List ℕ → Signed → Signed
with_end l (is z k) = cond (is_end (slice_index l k)) (is z k) no
with_end l no = no

-- the number of a line: `-` for a negative one, "`-0` is not a number", "every line ends in one line feed"
unfoldable pub number_on : List ℕ → Signed
number_on l = with_end l (signed_by whole_number l)

-- what a text holds: a list, or a line that is refused
pub data Listed : Type 0 where
  numbers : List ℤ → Listed
  faulty : (number place : ℕ) → Listed

abbrev pub when_number : Signed → Listed → (ℤ → Listed) → Listed
when_number (is z k) b f = f z
when_number no b f = b

-- the lines after those of the numbers `done`: the first that is wrong decides. It breaks the form, or its number
-- passes 64 bits
unfoldable pub listed_from : (done : List ℤ) → List (List ℕ) → Listed
listed_from done [] = numbers done
listed_from done (l ∷ ls) =
    let place = suc (length done) in
    when_number (number_on l) (faulty why.bad_form place) (λ z.
    cond (fits64 z) (listed_from (done ++ z ∷ []) ls) (faulty why.bad_entry place))

unfoldable pub listed : List ℕ → Listed
listed text = listed_from [] (lines_in text)
