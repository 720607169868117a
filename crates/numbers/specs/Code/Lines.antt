-- What the code tells of a line, and of a text.
use Rattle.std.specs.Prelude.{◌≡◌, Result, Ok, Err, ℕ, zero, suc, ◌+◌, ◌-◌, ◌%◌, ◌^◌, Bool, true, false, length, pos, negsuc, nat_lt}
use Rattle.market.specs.Fields.{Signed, is, no}
use Rattle.numbers.specs.Lines.{Listed, numbers, faulty}
use Rattle.numbers.specs.Calls.{numbers_in}
use Rattle.base.specs.Verdicts.{number_of}
use Rattle.base.specs.declared.Kind.{Kind}
use Rattle.base.specs.declared.Kind.TheVariants as kind
use Rattle.base.specs.declared.Refusal.{Refusal}

-- more than any number of 64 bits
abbrev pub many : ℕ
many = 10 ^ 19

-- a number, if it has 64 bits
abbrev pub if_fits : Bool → ℕ → ℕ → Result (ℕ × ℕ) Kind
if_fits true bits next = Ok (bits, next)
if_fits false bits next = Err kind.BadEntry

-- a number without a sign, and one with `-`, on a line that ends before next
abbrev pub plain_of : (value next : ℕ) → Result (ℕ × ℕ) Kind
plain_of value next = if_fits (nat_lt value (2 ^ 63)) value next

abbrev pub negative_of : (value next : ℕ) → Result (ℕ × ℕ) Kind
negative_of zero next = Err kind.BadForm
negative_of (suc v) next = if_fits (nat_lt v (2 ^ 63)) (2 ^ 64 - suc v) next

-- the line at p
abbrev pub line_at : (p : ℕ) → Signed → Result (ℕ × ℕ) Kind
line_at p (is (pos v) k) = plain_of v (p + k + 1)
line_at p (is (negsuc v) k) = negative_of (suc v) (p + k + 1)
line_at p no = Err kind.BadForm

-- the count of a text's numbers, or the refusal at a line, with what 32 bits keep of the line's number
abbrev pub Judges : Listed → Result ℕ Refusal → Type 0
Judges x (Ok n) = (x ≡ numbers (numbers_in x)) × (length (numbers_in x) ≡ n)
Judges x (Err r) = (p : ℕ) × (x ≡ faulty (number_of r.kind) p) × (r.place ≡ p % 2 ^ 32)
