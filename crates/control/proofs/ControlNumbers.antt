-- What two lists' control numbers say of the lists.
use Rattle.std.proofs.Common.{◌≡◌, ℕ, zero, suc, ◌+◌, ◌/◌, ◌%◌, ◌^◌, ◌<◌, true, ◌≢◌, List, [], ◌∷◌, ◌++◌, length, get_or, set, ℤ, pos, negsuc, ◌+ℤ◌, sym, refl, ap, ◌∙◌, append-nil, arith, length-set, get_or-set_other, get_or-set_same, ltb-true}
use Rattle.base.specs.Lists.{all}
use Rattle.base.specs.Integers.{sumℤ, fits64}
use Rattle.base.proofs.Integers.{add_cross, times-sum}
use Rattle.base.proofs.Sums.{sum_more}
use Rattle.base.proofs.Each.{all-each}
use Rattle.words.specs.LittleEndian.{blocks, signed, signed_bytes}
use Rattle.words.proofs.Codes.{HoldsSigned, signed-append}
use Rattle.control.specs.ControlNumber.{modulus, remainder, weighed, control_number}
use Rattle.control.specs.ControlNumbers.{place_by_place, weighed_change, ControlNumbers}
use Rattle.control.proofs.Remainders.{mul-sub, remainder-small, remainder-add, multiple_none, none_multiple}
use Rattle.control.proofs.Weighing.{weighed-none, weighed_remainders}

-- ---- lists added

length-added : (xs ys : List ℤ) → length xs ≡ length ys → length (place_by_place xs ys) ≡ length xs
unfolding place_by_place
length-added [] ys e = refl
length-added (x ∷ xs) [] e = sym e
length-added (x ∷ xs) (y ∷ ys) e = ap suc (length-added xs ys (omega arith))

added_at : (xs ys : List ℤ) → length xs ≡ length ys → (i : ℕ) → get_or (place_by_place xs ys) i (pos 0) ≡ get_or xs i (pos 0) +ℤ get_or ys i (pos 0)
unfolding place_by_place
added_at [] [] e i = refl
added_at [] (y ∷ ys) e i = absurd (omega arith)
added_at (x ∷ xs) [] e i = absurd (omega arith)
added_at (x ∷ xs) (y ∷ ys) e zero = refl
added_at (x ∷ xs) (y ∷ ys) e (suc i) = added_at xs ys (omega arith) i

module _ (xs ys : List ℤ) (e : length xs ≡ length ys) where
  sum_added : (k : ℕ) → sumℤ (weighed (place_by_place xs ys)) k ≡ sumℤ (weighed xs) k +ℤ sumℤ (weighed ys) k
  unfolding sumℤ weighed
  sum_added zero = refl
  sum_added (suc k) =
      rw (sum_added k, added_at xs ys e k, times-sum (pos (suc k)) (get_or xs k (pos 0)) (get_or ys k (pos 0)))
      (add_cross (sumℤ (weighed xs) k) (sumℤ (weighed ys) k) (weighed xs k) (weighed ys k))

  added-number : control_number (place_by_place xs ys) ≡ (control_number xs + control_number ys) % modulus
  unfolding control_number
  added-number = rw (length-added xs ys e, ← e, sum_added (length xs)) (remainder-add (sumℤ (weighed xs) (length xs)) (sumℤ (weighed ys) (length xs)))

-- ---- one force changed

module _ (xs : List ℤ) (i : ℕ) (v : ℤ) (h : i < length xs) where
  change_here : weighed (set xs i v) i ≡ weighed xs i +ℤ weighed_change xs i v
  unfolding weighed weighed_change
  change_here = rw (get_or-set_same xs i v (pos 0) h) (mul-sub (suc i) v (get_or xs i (pos 0)))

  change_else : (j : ℕ) → j ≢ i → weighed (set xs i v) j ≡ weighed xs j
  unfolding weighed
  change_else j d = rw (get_or-set_other xs i j v (pos 0) d)

  changed-number : control_number (set xs i v) ≡ (control_number xs + remainder (weighed_change xs i v)) % modulus
  unfolding control_number
  changed-number =
      rw (length-set xs i v, sum_more (weighed xs) (weighed (set xs i v)) (weighed_change xs i v) (length xs) i h change_here change_else)
      (remainder-add (sumℤ (weighed xs) (length xs)) (weighed_change xs i v))

-- ---- bytes

holds : (z : ℤ) → fits64 z ≡ true → HoldsSigned 8 z
unfolding fits64
holds (pos n) h = omega (arith, ltb-true n (2 ^ 63) h)
holds (negsuc n) h = omega (arith, ltb-true n (2 ^ 63) h)

none_left : (rest : List ℕ) → length rest < 8 → signed 8 rest ≡ []
unfolding blocks
none_left rest l = let z : length rest / 8 ≡ 0 = omega arith in rw z

bytes_read : (xs : List ℤ) → all fits64 xs ≡ true → (rest : List ℕ) → length rest < 8 → signed 8 (signed_bytes 8 xs ++ rest) ≡ xs
bytes_read xs h rest l = signed-append 8 (omega arith) xs (all-each (HoldsSigned 8) fits64 holds xs h) rest ∙ rw (none_left rest l, append-nil xs)

number_small : (xs : List ℤ) → control_number xs < modulus
unfolding control_number
number_small xs = remainder-small (sumℤ (weighed xs) (length xs))

pub control-numbers : ControlNumbers
unfolding control_number
control-numbers = record {
  empty = weighed-none [];
  small = number_small;
  counted = λ xs. weighed_remainders xs (length xs);
  adds = added-number;
  in_bytes = bytes_read;
  changes = λ xs i v h e. none_multiple (weighed_change xs i v) (omega (arith, e, changed-number xs i v h, number_small xs, remainder-small (weighed_change xs i v)));
  keeps = λ xs i v h m. (changed-number xs i v h ∙ omega (arith, multiple_none (weighed_change xs i v) m, number_small xs));
}
