-- Whether the digits at a position are a number, by their count and the first.
use Rattle.std.proofs.Common.{◌≡◌, ℕ, ◌<◌, ◌≤◌, true, false, not, eqb, List, length, get_or, arith, le-leb}
use borrow.Author.Tests.{lt-leb}
use Rattle.numbers.specs.Lines.{is_spelled}

module _ (ds : List ℕ) where
  pub whole-none : length ds ≤ 0 → false ≡ is_spelled ds
  unfolding is_spelled
  whole-none h = rw (lt-leb 1 (length ds) (omega arith))

  pub whole-one : 0 < length ds → length ds ≤ 1 → true ≡ is_spelled ds
  unfolding is_spelled
  whole-one h k = rw (le-leb 1 (length ds) h, le-leb (length ds) 1 k)

  pub whole_more : 1 < length ds → not (eqb (get_or ds 0 0) 48) ≡ is_spelled ds
  unfolding is_spelled
  whole_more h = rw (le-leb 1 (length ds) (omega arith), lt-leb (length ds) 1 h)
