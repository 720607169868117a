-- What the reader replies, by what it has judged.
use Rattle.std.proofs.Common.{◌≡◌, ℕ, ◌%◌, ◌^◌, ◌<◌, ◌≤◌, length, ◌∙◌}
use Rattle.base.specs.Refusals as why
use Rattle.base.specs.Replies.{accepted, refused}
use Rattle.numbers.specs.Lines.{Listed, numbers, faulty}
use Rattle.numbers.specs.Calls.{in32, filled, numbers_in, read_numbers_reply}
use Rattle.numbers.proofs.Filled.{filled-short, filled-fits}

module _ (x : Listed) (room : ℕ) where
  pub read-faulty : {q p low : ℕ} → x ≡ faulty q p → low ≡ p % 2 ^ 32 → refused q low ≡ read_numbers_reply x room
  unfolding read_numbers_reply in32
  read-faulty e l = rw (e, l)

  -- a text that has numbers alone
  module _ {n low : ℕ} (e : x ≡ numbers (numbers_in x)) (size : length (numbers_in x) ≡ n) (l : low ≡ n % 2 ^ 32) where
    read_numbers : filled n room ≡ read_numbers_reply x room
    unfolding read_numbers_reply numbers_in
    read_numbers = rw (e, ← size)

    pub read_short : room < n → refused why.too_short low ≡ read_numbers_reply x room
    read_short h = filled-short n room low l h ∙ read_numbers

    pub read_fits : n ≤ room → accepted low ≡ read_numbers_reply x room
    read_fits h = filled-fits n room low l h ∙ read_numbers
