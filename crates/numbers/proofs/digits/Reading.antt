-- The loop over digits: their value so far, told up to a limit, and those that are left.
use Rattle.std.proofs.Common.{◌≡◌, ℕ, ◌+◌, ◌-◌, ◌*◌, ◌<◌, min, List, [], length, get_or, drop, refl, ap, ◌∙◌, arith}
use Rattle.market.specs.Bytes.{class_of}
use Rattle.market.specs.Fields.{digits, value_of}
use Rattle.scan.proofs.numbers.Scanning.{digits_more, digit_range}
use Rattle.numbers.specs.Code.Lines.{many}

pub record Reading (s : List ℕ) (at v i : ℕ) : Type 0 where
  pub whole : ℕ
  pub told : v ≡ min whole many
  pub count : i + length (digits (drop i s)) ≡ at + length (digits (drop at s))
  pub made : value_of whole (digits (drop i s)) ≡ value_of 0 (digits (drop at s))

module _ (s : List ℕ) (at : ℕ) where
  pub reading_start : Reading s at 0 at
  reading_start = record { whole = 0; told = refl; count = refl; made = refl }

  module _ {v i : ℕ} (r : Reading s at v i) where
    -- a digit
    pub reading_more : i < length s → class_of (get_or s i 0) ≡ 1 → {w : ℕ} → w ≡ min (v * 10 + (get_or s i 0 - 48)) many → Reading s at w (i + 1)
    unfolding value_of
    reading_more h e {w} is =
        let m = digits_more s i h e in
        record {
          whole = r.whole * 10 + (get_or s i 0 - 48);
          told = omega (arith, r.told, digit_range (get_or s i 0) e);
          count = omega (arith, r.count, ap length m);
          made = rw m at r.made;
        }

    -- none is left
    pub reading_done : digits (drop i s) ≡ [] → (v ≡ min (value_of 0 (digits (drop at s))) many) × (i ≡ at + length (digits (drop at s)))
    unfolding value_of
    reading_done e =
        let w : r.whole ≡ value_of 0 (digits (drop at s)) = rw e at r.made in
        (r.told ∙ ap (λ (x : ℕ). min x many) w, omega (arith, r.count, ap length e))
