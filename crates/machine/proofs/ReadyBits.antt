-- The ready set as bits: one worker more by shift and or, and the count of the bits.
use mathlib.Core.Path.{◌≡◌, refl, sym, ap, ◌∙◌, subst}
use mathlib.Core.Bool.{Bool, true, false, cond}
use mathlib.Core.List.{List, [], ◌∷◌}
use Prim.Native.Nat.{ℕ, zero, suc, ◌+◌, ◌*◌, ◌%◌, ◌^◌, ◌<◌}
use native.Mathlib.Nat.{pow-suc, one-mul, zero-mul}
use native.Mathlib.Numerals.{add-one}
use native.Mathlib.Omega.{arith}
use lib.Dec.{eqb, lit<}
use lib.ListN.{length}
use lib.Pow.{shl_exact}
use lib.Bits.{bit_or, or_shifted_r}
use lib.Count.{ones, ones_cat}
use mir.Val.{bool_byte}
use Rattle.run.specs.Job.{Job, workers}
use Rattle.run.specs.Machine.{refusal, ready_below, ready, bits}
use Rattle.run.specs.Calls.{ready_of}
use Rattle.run.specs.Answers.{is_ready}

-- a worker above those of a set joins it, if it is ready
joined : (b : Bool) (w : ℕ) (ws : List ℕ) → bits (cond b (w ∷ ws) ws) ≡ bool_byte b * 2 ^ w + bits ws
unfolding bits
joined true w ws = rw one-mul
joined false w ws = sym (rw zero-mul (omega arith))

-- .. and is counted
counted : (b : Bool) (w : ℕ) (ws : List ℕ) → bits ws < 2 ^ w → ones (bits ws) ≡ length ws → ones (bits (cond b (w ∷ ws) ws)) ≡ length (cond b (w ∷ ws) ws)
unfolding bits ones
counted true w ws l e = let d : 2 ^ w ≡ 1 * 2 ^ w = sym (one-mul (2 ^ w)) in rw (d, ones_cat w 1 (bits ws) l, e) (omega arith)
counted false w ws l e = e

byte_low : (b : Bool) → bool_byte b < 2 ^ 1
byte_low true = lit< tt
byte_low false = lit< tt

-- the workers below k that pass a test, the last one first
unfoldable pub passing : (test : ℕ → Bool) → ℕ → List ℕ
passing test zero = []
passing test (suc w) = cond (test w) (w ∷ passing test w) (passing test w)

module _ (test : ℕ → Bool) where
  one_more : (w : ℕ) → bits (passing test (suc w)) ≡ bool_byte (test w) * 2 ^ w + bits (passing test w)
  unfolding passing
  one_more w = joined (test w) w (passing test w)

  -- they have bits below 2 ^ k
  pub bits_below : (k : ℕ) → bits (passing test k) < 2 ^ k
  unfolding passing bits
  bits_below zero = lit< tt
  bits_below (suc w) = rw (one_more w, pow-suc) (go (test w) (2 ^ w) (bits (passing test w)) (bits_below w))
    where
      go : (b : Bool) (p s : ℕ) → s < p → bool_byte b * p + s < p * 2
      go true p s h = omega arith
      go false p s h = omega arith

  -- a turn: the test's bit is shifted to its worker's place
  pub bits-turn : (w : ℕ) (b : Bool) → w < 16 → b ≡ test w → bit_or (bits (passing test w)) (bool_byte b * 2 ^ w % 2 ^ 16) ≡ bits (passing test (w + 1))
  bits-turn w b l e =
      let S : ℕ = bits (passing test w) in
      ap (bit_or S) (shl_exact {a = bool_byte b} 1 w 16 (byte_low b) (omega arith)) ∙ or_shifted_r (bool_byte b) w S (bits_below w)
      ∙ ap (λ (t : Bool). bool_byte t * 2 ^ w + S) e ∙ sym (one_more w) ∙ ap (λ (k : ℕ). bits (passing test k)) (sym (add-one w))

  -- as many bits as workers
  pub bits-count : (k : ℕ) → ones (bits (passing test k)) ≡ length (passing test k)
  unfolding passing bits ones
  bits-count zero = refl
  bits-count (suc w) = counted (test w) w (passing test w) (bits_below w) (bits-count w)

-- the ready workers are those whose step is not refused
pub ready_passing : (j : Job) (made : List ℕ) (k : ℕ) → passing (λ w. eqb (refusal j made w) 0) k ≡ ready_below j made k
unfolding passing ready_below
ready_passing j made zero = refl
ready_passing j made (suc w) = rw (ready_passing j made w)

pub low_bits : (j : Job) (made : List ℕ) (k : ℕ) → bits (ready_below j made k) < 2 ^ k
low_bits j made k = subst (λ (ws : List ℕ). bits ws < 2 ^ k) (ready_passing j made k) (bits_below (λ w. eqb (refusal j made w) 0) k)

-- the answer of the bits, and the count of those set
pub ready-bits : (j : Job) (made : List ℕ) (b : ℕ) → b ≡ bits (ready j made) → is_ready b (ones b) ≡ ready_of j made
unfolding ready_of ready
ready-bits j made b e = rw (e, ← ready_passing j made (workers j), bits-count (λ w. eqb (refusal j made w) 0) (workers j))
