-- Written, then read: what holds of every list of whole numbers and of every text.
use Rattle.std.specs.Prelude.{◌≡◌, ℕ, ◌/◌, ◌^◌, ◌<◌, ◌≤◌, true, List, [], ◌∷◌, ◌++◌, length, take, ℤ, unsigned_abs}
use Rattle.base.specs.Lists.{all}
use Rattle.base.specs.Integers.{fits64}
use Rattle.base.specs.Replies.{lent}
use Rattle.market.specs.Bytes.{line_feed}
use Rattle.market.specs.Text.{integer}
use Rattle.words.specs.LittleEndian.{signed, signed_bytes}
use Rattle.numbers.specs.Lines.{numbers, number_line, numbers_text, listed}
use Rattle.numbers.specs.Calls.{numbers_in, read_numbers_reply, write_numbers_reply}

pub record NumberLists : Type 0 where
  -- a list that is written and then read is the same list
  pub back : (zs : List ℤ) → all fits64 zs ≡ true → listed (numbers_text zs) ≡ numbers zs
  -- a text that is read is the text of its list, which has numbers of 64 bits: no other text is read as that list
  pub only : (text : List ℕ) (zs : List ℤ) → listed text ≡ numbers zs → (text ≡ numbers_text zs) × (all fits64 zs ≡ true)
  -- in bytes: a writer's call that has room leaves the text, and a reader's call the list, whatever stands past them
  pub text_left : (zs : List ℤ) (old : List ℕ) → length (numbers_text zs) ≤ length old
      → take (length (numbers_text zs)) (lent (write_numbers_reply zs (length old)) (numbers_text zs) old) ≡ numbers_text zs
  pub list_left : (text : List ℕ) (zs : List ℤ) → listed text ≡ numbers zs → (old : List ℕ) → length zs ≤ length old / 8
      → take (length zs) (signed 8 (lent (read_numbers_reply (listed text) (length old / 8)) (signed_bytes 8 (numbers_in (listed text))) old)) ≡ zs
  -- numbers are spelled as in a matrix text, as far as those go
  pub alike : (z : ℤ) → unsigned_abs z < 10 ^ 10 → number_line z ≡ integer z ++ line_feed ∷ []
