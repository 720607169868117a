-- What the scanning functions answer, at a position of the text.
use Rattle.std.specs.Prelude.{Option, Some, None, ℕ, ◌+◌, ℤ}
use Rattle.scan.specs.declared.lines.Line as code
use Rattle.market.specs.Fields.{Scan, got, none, Signed, is, no, Line, line, broken}

-- a number scanned at p, with the position after it
abbrev pub number_at : ℕ → Scan → Option (ℕ × ℕ)
number_at p (got v k) = Some (v, p + k)
number_at p none = None

-- a value scanned at p, with the position after it
abbrev pub value_at : ℕ → Signed → Option (ℤ × ℕ)
value_at p (is v k) = Some (v, p + k)
value_at p no = None

-- a line's three fields and the position of the next
abbrev pub line_of : (row column : ℕ) → ℤ → (next : ℕ) → code.Line
line_of r c v p = record { row = r; column = c; value = v; next = p }

-- a line scanned at p, with the position of the next line
abbrev pub fields_at : ℕ → Line → Option code.Line
fields_at p (line r c v k) = Some (line_of r c v (p + k))
fields_at p broken = None
