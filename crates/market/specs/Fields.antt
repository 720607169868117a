-- Numbers and lines of three fields, at the start of a text.
use Rattle.std.specs.Prelude.{Bool, ◌&&◌, ◌||◌, not, cond, List, [], ◌∷◌, ℕ, zero, suc, ◌+◌, ◌-◌, ◌*◌, leb, eqb, ℤ, pos, negsuc, length, get_or, drop}
use Rattle.market.specs.Bytes.{is_digit, is_sign, is_space, is_end, digit0}

-- what stands at the start of a text: a number and how many bytes it takes, or none
pub data Scan : Type 0 where
  got : (value size : ℕ) → Scan
  none : Scan

-- the digits that a text begins with
unfoldable pub digits : List ℕ → List ℕ
digits [] = []
digits (b ∷ bs) = let more = b ∷ digits bs in cond (is_digit b) more []

-- "no needless leading zero"
abbrev pub is_needed : List ℕ → Bool
is_needed ds = leb (length ds) 1 || not (eqb (get_or ds 0 0) digit0)

-- "A number has 1 to 10 decimal digits and no needless leading zero"
unfoldable pub is_number : List ℕ → Bool
is_number ds = leb 1 (length ds) && leb (length ds) 10 && is_needed ds

-- the value of decimal digits that come after v
unfoldable pub value_of : ℕ → List ℕ → ℕ
value_of v [] = v
value_of v (d ∷ ds) = value_of (v * 10 + (d - digit0)) ds

-- the number of these digits, if they are one
abbrev pub numeral_if : (List ℕ → Bool) → List ℕ → Scan
numeral_if is_good ds = cond (is_good ds) (got (value_of 0 ds) (length ds)) none

abbrev pub numeral_of : List ℕ → Scan
numeral_of ds = numeral_if is_number ds

unfoldable pub numeral : List ℕ → Scan
numeral xs = numeral_of (digits xs)

-- how many spaces a text begins with
unfoldable pub spaces : List ℕ → ℕ
spaces [] = 0
spaces (b ∷ bs) = let more = suc (spaces bs) in cond (is_space b) more 0

-- g bytes more
abbrev pub shifted : ℕ → Scan → Scan
shifted g (got v k) = got v (g + k)
shifted g none = none

-- "Fields are parted by one or more spaces": one or more spaces, then a number
unfoldable pub field : List ℕ → Scan
field xs = cond (leb 1 (spaces xs)) (shifted (spaces xs) (numeral (drop (spaces xs) xs))) none

-- a signed number and how many bytes it takes, or none
pub data Signed : Type 0 where
  is : (value : ℤ) (size : ℕ) → Signed
  no : Signed

abbrev pub positive : Scan → Signed
positive (got v k) = is (pos v) k
positive none = no

-- "`-0` is not a number"
abbrev pub negative : Scan → Signed
negative (got zero k) = no
negative (got (suc v) k) = is (negsuc v) (suc k)
negative none = no

-- a number as `scan` reads it, which may carry `-`
abbrev pub signed_by : (scan : List ℕ → Scan) → List ℕ → Signed
signed_by scan xs = cond (is_sign (get_or xs 0 0)) (negative (scan (drop 1 xs))) (positive (scan xs))

-- "only a value may carry `-`"
unfoldable pub value : List ℕ → Signed
value xs = signed_by numeral xs

abbrev pub shifted_signed : ℕ → Signed → Signed
shifted_signed g (is v k) = is v (g + k)
shifted_signed g no = no

-- one or more spaces, then a value
unfoldable pub value_field : List ℕ → Signed
value_field xs = cond (leb 1 (spaces xs)) (shifted_signed (spaces xs) (value (drop (spaces xs) xs))) no

-- a line of three fields with its length, the line feed included; or a line that breaks the form
pub data Line : Type 0 where
  line : (first second : ℕ) (third : ℤ) (size : ℕ) → Line
  broken : Line

abbrev pub on_number : Scan → (ℕ → ℕ → Line) → Line
on_number (got v k) f = f v k
on_number none f = broken

abbrev pub on_signed : Signed → (ℤ → ℕ → Line) → Line
on_signed (is v k) f = f v k
on_signed no f = broken

-- the first line of a text: number, spaces, number, spaces, value, line feed; "none at the ends", "every line ends in
-- one line feed"
unfoldable pub fields : List ℕ → Line
fields xs =
    on_number (numeral xs) (λ r a.
    on_number (field (drop a xs)) (λ c b.
    on_signed (value_field (drop (a + b) xs)) (λ v d.
    cond (is_end (get_or (drop (a + b + d) xs) 0 0)) (line r c v (a + b + d + 1)) broken)))
