-- The sum of weighed forces, one force after the other.
use Rattle.std.proofs.Common.{◌≡◌, ℕ, zero, suc, ◌+◌, ◌*◌, ◌/◌, ◌%◌, ◌<◌, ◌≤◌, List, length, get_or, ℤ, pos, sym, refl, ap, ◌∙◌, add-one, arith, take, drop}
use lib.ListN.{length-take, length-drop}
use lib.Seq.{length-take-le, take-add}
use Rattle.base.proofs.Each.{Each, each_take, each-drop}
use Rattle.base.specs.Lists.{sum_below}
use Rattle.base.specs.Integers.{sumℤ}
use Rattle.words.specs.LittleEndian.{number, to_signed, signed_number, signed}
use Rattle.words.proofs.Bytes.{IsByte, number_small}
use Rattle.words.proofs.Digits.{number_append}
use Rattle.words.proofs.Blocks.{decoded_at}
use Rattle.control.specs.ControlNumber.{modulus, remainder, weighed, control_number}
use Rattle.control.proofs.Remainders.{remainder-add, remainder-mul, mul-remainder, remainder-low}

-- the first k forces' sum, as remainder
abbrev pub weighed_to : List ℤ → ℕ → ℕ
weighed_to xs k = remainder (sumℤ (weighed xs) k)

pub weighed-none : (xs : List ℤ) → weighed_to xs 0 ≡ 0
unfolding sumℤ remainder
weighed-none xs = refl

-- one force more
pub weighed-next : (xs : List ℤ) (k : ℕ) → weighed_to xs (suc k) ≡ (weighed_to xs k + suc k * remainder (get_or xs k (pos 0)) % modulus) % modulus
unfolding sumℤ weighed
weighed-next xs k = rw (remainder-add (sumℤ (weighed xs) k) (weighed xs k), remainder-mul (suc k) (get_or xs k (pos 0)))

-- the sum of the remainders
pub weighed_remainders : (xs : List ℤ) (k : ℕ) → weighed_to xs k ≡ sum_below (λ i. suc i * remainder (get_or xs i (pos 0))) k % modulus
unfolding sum_below
weighed_remainders xs zero = weighed-none xs
weighed_remainders xs (suc k) = rw (weighed-next xs k, weighed_remainders xs k) (omega arith)

-- ---- a loop over the forces

-- a force's remainder is in its first four bytes
pub force_left : (bytes : List ℕ) (k : ℕ) → k < length bytes / 8 → Each IsByte bytes → number (take 4 (drop (k * 8) bytes)) ≡ remainder (get_or (signed 8 bytes) k (pos 0))
unfolding to_signed number
force_left bytes k h small =
    let from : List ℕ = drop (k * 8) bytes in
    let long : 8 ≤ length from = rw (length-drop (k * 8) bytes) (omega arith) in
    let each : Each IsByte from = each-drop IsByte (k * 8) bytes small in
    let four : length (take 4 from) ≡ 4 = length-take-le 4 from (omega arith) in
    let halves : number (take 8 from) ≡ number (take 4 from) + number (take 4 (drop 4 from)) * modulus =
    ap number (take-add 4 4 from) ∙ number_append (take 4 from) (take 4 (drop 4 from)) ∙ rw four (omega arith) in
    rw (decoded_at (signed_number 8) 8 bytes k h, halves)
    (sym (remainder-low (number (take 4 from)) (number (take 4 (drop 4 from))) (four_small from each) (four_small (drop 4 from) (each-drop IsByte 4 from each))))
  where
    four_small : (bs : List ℕ) → Each IsByte bs → number (take 4 bs) < modulus
    four_small bs e = number_small 4 (take 4 bs) (rw (length-take 4 bs) (omega arith)) (each_take IsByte 4 bs e)

-- after k forces
pub record Weighing (xs : List ℤ) (sum weight k : ℕ) : Type 0 where
  pub far : k ≤ length xs
  pub weighs : weight ≡ k % modulus
  pub is : sum ≡ weighed_to xs k

module _ (xs : List ℤ) where
  -- before the first turn
  pub weigh_none : Weighing xs 0 0 0
  weigh_none = record { far = omega arith; weighs = refl; is = sym (weighed-none xs) }

  -- a turn, at the force v
  pub weigh_more : {sum weight k : ℕ} → k < length xs → {next : ℕ} → next ≡ (weight + 1) % modulus → {r : ℕ} → r ≡ remainder (get_or xs k (pos 0))
      → {total : ℕ} → total ≡ (sum + next * r % modulus) % modulus → Weighing xs sum weight k → Weighing xs total next (k + 1)
  weigh_more {sum} {weight} {k} h {next} n {r} e {total} t w =
      let s : next ≡ suc k % modulus = n ∙ omega (arith, w.weighs) in
      record {
        far = omega arith;
        weighs = s ∙ rw (add-one k);
        is = t ∙ rw (w.is, s, e, mul-remainder (suc k) (remainder (get_or xs k (pos 0))), add-one k) (sym (weighed-next xs k));
      }

  -- after the last turn
  pub weigh_all : {sum weight k : ℕ} → length xs ≤ k → Weighing xs sum weight k → sum ≡ control_number xs
  unfolding control_number
  weigh_all {k = k} h w = let all : k ≡ length xs = omega (arith, w.far) in w.is ∙ rw all
