-- The first line: its end, byte by byte, and its two numbers.
use mathlib.Core.Path.{◌≡◌, refl, ap, ◌∙◌}
use mathlib.Core.Bool.{Bool, true, false, ◌&&◌, cond}
use mathlib.Core.List.{List, [], ◌∷◌}
use Prim.Native.Nat.{ℕ, suc, ◌+◌, ◌-◌, ◌≤◌, ◌<◌}
use native.Mathlib.Numerals.{add-one}
use native.Mathlib.Omega.{arith}
use lib.Dec.{leb, eqb}
use lib.ListN.{length, get_or, take, drop, length-drop, drop_of_length-le}
use lib.Seq.{get_or-drop}
use borrow.Author.Tests.{eq-eqb, ne_eqb}
use Rattle.market.specs.Bytes.{class_of, is_end, is_space, blank, line_feed, minus, digit0, digit9}
use Rattle.market.specs.Fields.{got, numeral}
use Rattle.scan.specs.Code.Positions.{number_at}
use Rattle.scan.proofs.Left.{left-cons}
use Rattle.scan.proofs.numbers.Answers.{scan_at, scan_no}
use Rattle.std.proofs.Common.{Some, None}
use Rattle.listing.specs.Listing.{first_line, last, second, parameters_of}
use Rattle.listing.specs.Code.FirstLine.{in_word, given}

-- a byte's class is the line end's, or the space's, for that byte alone
not_end : (d m s : Bool) → eqb (cond d 1 (cond m 2 (cond s 3 0))) 4 ≡ false
not_end true m s = refl
not_end false true s = refl
not_end false false true = refl
not_end false false false = refl

not_space : (d m l : Bool) → eqb (cond d 1 (cond m 2 (cond l 4 0))) 3 ≡ false
not_space true m l = refl
not_space false true l = refl
not_space false false true = refl
not_space false false false = refl

other_end : (b : ℕ) → (b ≡ line_feed → ⊥) → is_end b ≡ false
unfolding class_of
other_end b h = rw (ne_eqb b line_feed h) (not_end (leb digit0 b && leb b digit9) (eqb b minus) (eqb b blank))

other_space : (b : ℕ) → (b ≡ blank → ⊥) → is_space b ≡ false
unfolding class_of
other_space b h = rw (ne_eqb b blank h) (not_space (leb digit0 b && leb b digit9) (eqb b minus) (eqb b line_feed))

is-space : (b : ℕ) → b ≡ blank → is_space b ≡ true
unfolding class_of
is-space b h = rw h

module _ (s : List ℕ) (i : ℕ) where
  pub line_more : i < length s → (get_or s i 0 ≡ line_feed → ⊥) → length (first_line (drop i s)) ≡ length (first_line (drop (i + 1) s)) + 1
  unfolding first_line
  line_more l h = rw (left-cons s i l, other_end (get_or s i 0) h) (omega arith)

  pub line-ends : i < length s → get_or s i 0 ≡ line_feed → length (first_line (drop i s)) ≡ 0
  unfolding first_line class_of
  line-ends l h = rw (left-cons s i l, h)

  pub line-over : length s ≤ i → length (first_line (drop i s)) ≡ 0
  unfolding first_line
  line-over l = rw (drop_of_length-le s {i = i} l)

-- the first line is a part of the input
pub first_taken : (s : List ℕ) → take (length (first_line s)) s ≡ first_line s
unfolding first_line
first_taken [] = refl
first_taken (b ∷ bs) = go (is_end b) (first_taken bs)
  where
    go : (t : Bool) → take (length (first_line bs)) bs ≡ first_line bs → take (length (cond t [] (b ∷ first_line bs))) (b ∷ bs) ≡ cond t [] (b ∷ first_line bs)
    go true ih = refl
    go false ih = ap (λ (l : List ℕ). b ∷ l) ih

-- two numbers with one space between
module _ (xs : List ℕ) where
  pub no-first : None ≡ number_at 0 (numeral (drop 0 xs)) → None ≡ given (parameters_of xs)
  unfolding parameters_of second
  no-first e = rw (scan_no 0 (numeral xs) e)

  module _ {w k : ℕ} (one : Some (w, k) ≡ number_at 0 (numeral (drop 0 xs))) where
    first_is : numeral xs ≡ got w k
    first_is = (scan_at 0 w k (numeral xs) one).0 ∙ ap (got w) (omega arith)

    pub no_gap : length xs ≤ k → None ≡ given (parameters_of xs)
    unfolding parameters_of second class_of
    no_gap l = rw (first_is, drop_of_length-le xs {i = k} l)

    gap_at : get_or (drop k xs) 0 0 ≡ get_or xs k 0
    gap_at = get_or-drop k xs 0 0 ∙ ap (λ (j : ℕ). get_or xs j 0) (omega arith)

    pub other-gap : (get_or xs k 0 ≡ blank → ⊥) → None ≡ given (parameters_of xs)
    unfolding parameters_of second
    other-gap h = rw (first_is, gap_at, other_space (get_or xs k 0) h)

    module _ (l : k < length xs) (gap : get_or xs k 0 ≡ blank) where
      pub no_second : None ≡ number_at (k + 1) (numeral (drop (k + 1) xs)) → None ≡ given (parameters_of xs)
      unfolding parameters_of second last
      no_second e = rw (first_is, gap_at, is-space (get_or xs k 0) gap, rw add-one at (scan_no (k + 1) (numeral (drop (k + 1) xs)) e))

      module _ {p e : ℕ} (two : Some (p, e) ≡ number_at (k + 1) (numeral (drop (k + 1) xs))) where
        second_is : numeral (drop (suc k) xs) ≡ got p (e - suc k)
        second_is = rw add-one at (scan_at (k + 1) p e (numeral (drop (k + 1) xs)) two).0

        pub more_after : (e ≡ length xs → ⊥) → None ≡ given (parameters_of xs)
        unfolding parameters_of second last
        more_after h = rw (first_is, gap_at, is-space (get_or xs k 0) gap, second_is, ne_eqb (e - suc k) (length (drop (suc k) xs)) (λ q. h (omega (arith, length-drop (suc k) xs, (scan_at (k + 1) p e (numeral (drop (k + 1) xs)) two).1))))

        pub both-given : e ≡ length xs → {w' p' : ℕ} → w' ≡ in_word w → p' ≡ in_word p → Some (w', p') ≡ given (parameters_of xs)
        unfolding parameters_of second last
        both-given h a b = rw (first_is, gap_at, is-space (get_or xs k 0) gap, second_is, eq-eqb (e - suc k) (length (drop (suc k) xs)) (omega (arith, length-drop (suc k) xs)), a, b)
