-- A state is read back from its bytes if its numbers fit them, and zero bytes are those of a fresh state.
use mathlib.Core.Path.{◌≡◌, refl, sym, ap, ◌∙◌}
use mathlib.Core.List.{List, ◌++◌, append-nil}
use Prim.Native.Nat.{ℕ, zero, suc, ◌+◌, ◌*◌, ◌/◌, ◌^◌, ◌<◌}
use native.Mathlib.Omega.{arith}
use lib.IntN.{ℤ, pos, negsuc}
use lib.ListN.{length, drop, replicate, length-append, length-drop, replicate-append-replicate}
use lib.Seq.{take_at, drop_at}
use borrow.Author.Tests.{ltb-true}
use Rattle.base.specs.Integers.{fits64}
use Rattle.base.proofs.Each.{Each, each_map}
use Rattle.plan.specs.Sound.{max_workers}
use Rattle.run.specs.State.{State, fresh}
use Rattle.run.proofs.Fits.{Fit, Fits}
use Rattle.words.specs.LittleEndian.{bytes_of, of_signed, signed_bytes_of, blocks, unsigned_bytes, signed, signed_bytes, stored}
use Rattle.words.proofs.Blocks.{length_encoded}
use Rattle.words.proofs.Codes.{HoldsSigned, unsigned_back, signed_back, signed-append}
use Rattle.words.proofs.Digits.{length-signed_bytes_of}
use Rattle.answers.specs.Runs.{state_bytes, count_bytes, state_in, bytes_in}
use Rattle.meaning.specs.ByteRuns.{in_bytes, zeros}
use Rattle.answers.proofs.StateBytes.{counts-length, numbers-length, stored-over}

-- ---- numbers of 64 bits

fit_holds : (z : ℤ) → Fit z → HoldsSigned 8 z
unfolding fits64
fit_holds (pos n) h = omega (arith, ltb-true n (2 ^ 63) h)
fit_holds (negsuc n) h = omega (arith, ltb-true n (2 ^ 63) h)

numbers-back : (zs : List ℤ) → Each Fit zs → signed 8 (signed_bytes 8 zs) ≡ zs
numbers-back zs h = signed_back 8 (omega arith) zs (each_map Fit (HoldsSigned 8) fit_holds zs h)

-- ---- a state

pub record Sized (s : State) : Type 0 where
  pub made-length : length s.made ≡ max_workers
  pub held-length : length s.held ≡ max_workers
  pub counts : Each (λ k. k < 2 ^ 32) s.made
  pub fits : Fits s

module _ (s : State) (z : Sized s) where
  front : length (unsigned_bytes 4 s.made) ≡ count_bytes
  front = counts-length s.made z.made-length

  pub state-length : length (bytes_in s) ≡ state_bytes
  state-length = rw (length-append, front, numbers-length s.held z.held-length)

  pub state-back : state_in (bytes_in s) (signed_bytes 8 s.sums) ≡ s
  state-back =
      rw (
        take_at (unsigned_bytes 4 s.made) (signed_bytes 8 s.held) count_bytes front,
        drop_at (unsigned_bytes 4 s.made) (signed_bytes 8 s.held) count_bytes front,
        unsigned_back 4 (omega arith) s.made z.counts,
        numbers-back s.held z.fits.held,
        numbers-back s.sums z.fits.sums,
      )

-- numbers stored over bytes that hold as many
sums-stored : (zs : List ℤ) → Each Fit zs → (old : List ℕ) → length old / 8 ≡ length zs → signed 8 (stored (signed_bytes 8 zs) old) ≡ zs
unfolding blocks
sums-stored zs fits old room =
    let rest : List ℕ = drop (length (signed_bytes 8 zs)) old in
    let none : length rest / 8 ≡ 0 = omega (arith, length-drop (length (signed_bytes 8 zs)) old, length_encoded (signed_bytes_of 8) 8 (length-signed_bytes_of 8) zs) in
    signed-append 8 (omega arith) zs (each_map Fit (HoldsSigned 8) fit_holds zs fits) rest ∙ rw none (append-nil zs)

-- a state stored over bytes of a state and of as many sums
pub state-left : (s : State) → Sized s → (state sums : List ℕ) → length state ≡ state_bytes → length sums / 8 ≡ length s.sums
    → (length (stored (bytes_in s) state) ≡ state_bytes) × (state_in (stored (bytes_in s) state) (stored (signed_bytes 8 s.sums) sums) ≡ s)
state-left s z state sums size room =
    let over : stored (bytes_in s) state ≡ bytes_in s = stored-over (bytes_in s) state (state-length s z ∙ sym size) in
    let back : signed 8 (stored (signed_bytes 8 s.sums) sums) ≡ signed 8 (signed_bytes 8 s.sums) = sums-stored s.sums z.fits.sums sums room ∙ sym (numbers-back s.sums z.fits.sums) in
    (rw over (state-length s z), rw (over, back) (state-back s z))

-- the bytes of as many sums are as many
pub sums-length : (xs ys : List ℤ) → length xs ≡ length ys → length (signed_bytes 8 xs) ≡ length (signed_bytes 8 ys)
sums-length xs ys e =
    length_encoded (signed_bytes_of 8) 8 (length-signed_bytes_of 8) xs ∙ rw e (sym (length_encoded (signed_bytes_of 8) 8 (length-signed_bytes_of 8) ys))

-- ---- zero bytes

zero-sums : (n : ℕ) → replicate (8 * n) 0 ≡ signed_bytes 8 (replicate n (pos 0))
unfolding bytes_of of_signed
zero-sums zero = refl
zero-sums (suc n) =
    let more : 8 * suc n ≡ 8 + 8 * n = omega arith in
    rw (more, ← replicate-append-replicate {A = ℕ} 8 (8 * n) 0) (ap (λ (bs : List ℕ). replicate 8 0 ++ bs) (zero-sums n))

pub zeros-fresh : (n : ℕ) → zeros n ≡ in_bytes (fresh n)
unfolding zeros fresh bytes_of of_signed
zeros-fresh n = rw (zero-sums n)
