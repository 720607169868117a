-- The loop that measures a text, number by number.
use Rattle.std.proofs.Common.{◌≡◌, ℕ, ◌+◌, ◌-◌, ◌*◌, ◌/◌, ◌%◌, ◌^◌, ◌<◌, ◌≤◌, min, Bool, true, false, ltb, List, [], ◌∷◌, ◌++◌, map, length, get_or, take, drop, ℤ, pos, sym, refl, ap, ◌∙◌, append-nil, add-one, arith, length-append, take_all, take-suc, ltb-false, ltb-true, le-leb}
use mathlib.Core.List.{map-append}
use mir.Val.{bool_byte}
use borrow.Author.Tests.{lt-leb}
use Rattle.base.proofs.Lists.{concat-append}
use Rattle.words.specs.LittleEndian.{number, to_signed, signed_number, signed}
use Rattle.words.proofs.Blocks.{decoded_at}
use Rattle.numbers.specs.Lines.{number_line, numbers_text}
use Rattle.std.proofs.Common.{Ok, Err}
use Rattle.base.specs.declared.Kind.TheVariants as kind
use Rattle.base.specs.declared.Refusal.{Refusal}
use Rattle.numbers.specs.Code.Puts.{size_of}

-- the refusal of a text with no room
abbrev pub too_short : ℕ → Refusal
too_short low = record { kind = kind.TooShort; place = low }

-- the number at an index
pub number-here : (bytes : List ℕ) (k : ℕ) → k < length bytes / 8 → to_signed 8 (number (take 8 (drop (k * 8) bytes))) ≡ get_or (signed 8 bytes) k (pos 0)
unfolding to_signed number
number-here bytes k h = sym (decoded_at (signed_number 8) 8 bytes k h)

-- one line more
pub text-next : (zs : List ℤ) (k : ℕ) → k < length zs → numbers_text (take (k + 1) zs) ≡ numbers_text (take k zs) ++ number_line (get_or zs k (pos 0))
unfolding numbers_text
text-next zs k h = rw (add-one k, take-suc zs k (pos 0), map-append, concat-append (map number_line (take k zs)) (number_line (get_or zs k (pos 0)) ∷ []), append-nil)

-- the bytes of the first k lines
abbrev pub bytes_to : List ℤ → ℕ → ℕ
bytes_to zs k = length (numbers_text (take k zs))

pub bytes_next : (zs : List ℤ) (k : ℕ) → k < length zs → bytes_to zs (k + 1) ≡ bytes_to zs k + length (number_line (get_or zs k (pos 0)))
bytes_next zs k h = ap length (text-next zs k h) ∙ length-append (numbers_text (take k zs)) (number_line (get_or zs k (pos 0)))

pub bytes_none : (zs : List ℤ) → bytes_to zs 0 ≡ 0
unfolding numbers_text
bytes_none zs = refl

-- after k lines, of which `over` found no room
pub record Measuring (zs : List ℤ) (room needed left over k : ℕ) : Type 0 where
  pub far : k ≤ length zs
  pub few : over ≤ k
  pub low : needed ≡ bytes_to zs k % 2 ^ 32
  pub fits : over ≡ 0 → bytes_to zs k + left ≡ room
  pub short : 0 < over → room < bytes_to zs k

module _ (zs : List ℤ) (room : ℕ) where
  pub measure_start : Measuring zs room 0 room 0 0
  measure_start = let z = bytes_none zs in record { far = omega arith; few = omega arith; low = rw z; fits = λ e. omega arith; short = λ h. absurd (omega arith) }

  module _ {needed left over k : ℕ} (m : Measuring zs room needed left over k) where
    pub measure_more : k < length zs → {line : ℕ} → line ≡ length (number_line (get_or zs k (pos 0))) → {more : ℕ} → more ≡ (needed + line) % 2 ^ 32
        → Measuring zs room more (left - min line left) (over + bool_byte (ltb left line)) (k + 1)
    measure_more h {line} e {more} n = go (ltb left line) refl
      where
        next : bytes_to zs (k + 1) ≡ bytes_to zs k + line
        next = bytes_next zs k h ∙ rw e

        go : (t : Bool) → ltb left line ≡ t → Measuring zs room more (left - min line left) (over + bool_byte t) (k + 1)
        go true f = record {
          far = omega arith;
          few = omega (arith, m.few);
          low = omega (arith, n, m.low, next);
          fits = λ z. absurd (omega arith);
          short = λ z. past (ltb 0 over) refl;
        }
          where
            past : (t : Bool) → ltb 0 over ≡ t → room < bytes_to zs (k + 1)
            past true g = omega (arith, next, m.short (ltb-true 0 over g))
            past false g = omega (arith, next, ltb-true left line f, m.fits (omega (arith, ltb-false 0 over g)))
        go false f = record {
          far = omega arith;
          few = omega (arith, m.few);
          low = omega (arith, n, m.low, next);
          fits = λ z. omega (arith, next, ltb-false left line f, m.fits (omega arith));
          short = λ z. omega (arith, next, m.short (omega arith));
        }

    -- no number is left
    whole : length zs ≤ k → bytes_to zs k ≡ length (numbers_text zs)
    whole h = ap (λ (ys : List ℤ). length (numbers_text ys)) (take_all k zs h)

    pub measure_short : length zs ≤ k → 0 < over → Err (too_short needed) ≡ size_of (length (numbers_text zs)) room
    measure_short h o = rw (lt-leb (length (numbers_text zs)) room (omega (arith, m.short o, whole h))) (ap (λ (k : ℕ). Err (too_short k)) (m.low ∙ rw (whole h)))

    pub measure_fits : length zs ≤ k → over ≤ 0 → Ok (room - left) ≡ size_of (length (numbers_text zs)) room
    measure_fits h o =
        let f = m.fits (omega arith) in
        let w = whole h in
        rw (le-leb (length (numbers_text zs)) room (omega arith)) (ap (λ (k : ℕ). Ok k) (omega arith))

    pub measure_left : over ≤ 0 → left ≤ room
    measure_left o = omega (arith, m.fits (omega arith))
