-- A number's digits counted by the powers of ten that it has reached.
use mathlib.Core.Path.{◌≡◌, refl, ap, ◌∙◌}
use mathlib.Core.Bool.{Bool, true, false}
use Prim.Native.Nat.{ℕ, zero, suc, ◌+◌, ◌*◌, ◌/◌, ◌^◌, ◌≤◌, ◌<◌}
use native.Mathlib.Nat.{one-le-pow, pow-suc}
use native.Mathlib.Numerals.{add-one}
use native.Mathlib.Omega.{arith}
use lib.Dec.{leb}
use lib.ListN.{length}
use mir.Val.{bool_byte}
use borrow.Author.Tests.{leb-true, leb-false}
use Rattle.market.specs.Text.{natural}
use Rattle.writer.proofs.puts.Digits.{length_digit, length_digits}

-- from 10 ^ k to below 10 ^ (k + 1): k + 1 digits
between : (k v : ℕ) → 10 ^ k ≤ v → v < 10 ^ suc k → v < 10000000000 → length (natural v) ≡ suc k
between zero v l h b = length_digit v (omega arith)
between (suc k) v l h b =
    let ls = rw pow-suc at l in
    let hs = rw pow-suc at h in
    length_digits v (omega (arith, one-le-pow k 10 (omega arith))) b ∙ ap (λ (d : ℕ). d + 1) (between k (v / 10) (omega arith) (omega arith) (omega arith)) ∙ add-one (suc k)

-- the powers of ten below 10 ^ k are counted
pub record Reached (v k power digits : ℕ) : Type 0 where
  pub small : v < 10000000000
  pub is : power ≡ 10 ^ k
  pub few : digits ≤ k
  pub done : v < power → digits ≡ length (natural v)
  pub more : power ≤ v → digits ≡ k

pub reached-start : (v : ℕ) → v < 10000000000 → Reached v 1 10 1
reached-start v b = record { small = b; is = omega arith; few = omega arith; done = λ h. omega (arith, length_digit v h); more = λ h. omega arith }

pub reached_more : {v k power digits : ℕ} → Reached v k power digits → Reached v (k + 1) (power * 10) (digits + bool_byte (leb power v))
reached_more {v} {k} {power} {digits} g = go (leb power v) refl
  where
    next : power * 10 ≡ 10 ^ suc k
    next = rw (g.is, pow-suc)

    go : (t : Bool) → leb power v ≡ t → Reached v (k + 1) (power * 10) (digits + bool_byte t)
    go true e =
        let d = g.more (leb-true power v e) in
        record {
          small = g.small;
          is = next ∙ rw (add-one k);
          few = omega arith;
          done = λ h. omega (arith, between k v (omega (arith, g.is, leb-true power v e)) (omega (arith, next)) g.small);
          more = λ h. omega arith;
        }
    go false e =
        let d = g.done (leb-false power v e) in
        record { small = g.small; is = next ∙ rw (add-one k); few = omega arith; done = λ h. omega arith; more = λ h. absurd (omega (arith, leb-false power v e)) }
