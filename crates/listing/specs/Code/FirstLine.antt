-- What the code answers for the first line's numbers.
use Rattle.std.specs.Prelude.{Option, Some, None, cond, ℕ, ltb}
use Rattle.listing.specs.Listing as listing

-- a number, or the largest of 32 bits where it is larger: past every limit of workers and p
abbrev pub in_word : ℕ → ℕ
in_word v = cond (ltb v 4294967296) v 4294967295

abbrev pub given : listing.Parameters → Option (ℕ × ℕ)
given (listing.parameters w p) = Some (in_word w, in_word p)
given listing.missing = None
