-- The one spelling of a number: its decimal digits are read as the number, and digits that are read are its own.
use Rattle.std.proofs.Common.{◌≡◌, ℕ, suc, ◌^◌, ◌<◌, true, false, leb, List, ◌∷◌, ◌++◌, length, le-leb, leb-true}
use Rattle.base.proofs.Booleans.{and_left, and_right}
use Rattle.market.specs.Bytes.{is_digit}
use Rattle.market.specs.Fields.{got, is_needed, value_of}
use Rattle.market.specs.Text.{decimal}
use Rattle.market.proofs.Decimal.{AllDigits, decimal-digits, decimal-some, decimal_needed, decimal-value, digits_append}
use Rattle.market.proofs.Spelled.{spelled, spelled_as}
use Rattle.numbers.specs.Lines.{is_spelled, whole_number}

-- decimal digits, with something after them that is no digit
pub whole-decimal : (f n b : ℕ) (xs : List ℕ) → n < 10 ^ suc f → is_digit b ≡ false → whole_number (decimal (suc f) n ++ b ∷ xs) ≡ got n (length (decimal (suc f) n))
unfolding whole_number is_spelled
whole-decimal f n b xs h e =
    rw (digits_append (decimal (suc f) n) b xs (decimal-digits (suc f) n) e, le-leb 1 (length (decimal (suc f) n)) (decimal-some f n), decimal_needed f n h, decimal-value (suc f) n h)

-- a number that is read is spelled so
pub whole-only : (f : ℕ) (ds : List ℕ) → AllDigits ds → is_spelled ds ≡ true → value_of 0 ds < 10 ^ suc f → decimal (suc f) (value_of 0 ds) ≡ ds
unfolding is_spelled
whole-only f ds a w h =
    let some = leb-true 1 (length ds) (and_left (leb 1 (length ds)) (is_needed ds) w) in
    spelled_as f (spelled ds a some (and_right (leb 1 (length ds)) (is_needed ds) w)) some h
