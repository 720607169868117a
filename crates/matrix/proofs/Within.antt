-- Whole numbers within a limit: the test of one, and the first of a list that passes it.
use mathlib.Core.Path.{◌≡◌, refl, sym, ap, ◌∙◌}
use mathlib.Core.Bool.{Bool, true, false, ◌&&◌, cond, and-true}
use mathlib.Core.List.{List, [], ◌∷◌}
use Prim.Native.Nat.{ℕ, zero, suc, ◌≤◌, ◌<◌}
use native.Mathlib.Omega.{arith}
use lib.Dec.{leb, leb-zero, leb-suc-zero, leb-suc-suc}
use lib.IntN.{ℤ, pos, negsuc, neg_ℤ, ◌-ℤ◌, +ℤ_idl}
use lib.Signed.{le_z}
use lib.ListN.{length, get_or, drop}
use lib.Seq.{drop-cons, drop-length}
use Rattle.base.specs.Integers.{within}
use Rattle.matrix.specs.Matrix.{first_past}

-- ---- one number

pub within_both : (z : ℤ) (limit : ℕ) → le_z (pos 0 -ℤ pos limit) z && le_z z (pos limit) ≡ within limit z
unfolding within
within_both z limit = ap (λ (least : ℤ). le_z least z && le_z z (pos limit)) (+ℤ_idl (neg_ℤ (pos limit))) ∙ go z limit
  where
    go : (z : ℤ) (limit : ℕ) → le_z (neg_ℤ (pos limit)) z && le_z z (pos limit) ≡ within limit z
    go (pos n) zero = rw (leb-zero n)
    go (pos n) (suc k) = refl
    go (negsuc n) zero = sym (leb-suc-zero n)
    go (negsuc n) (suc k) = and-true (leb n k) ∙ sym (leb-suc-suc n k)

-- ---- the first of a list

-- the number at place k passes the limit
pub past-here : (limit : ℕ) (zs : List ℤ) (k : ℕ) → k < length zs → within limit (get_or zs k (pos 0)) ≡ false → first_past limit (drop k zs) ≡ 0
unfolding first_past
past-here limit zs k l h = rw (drop-cons zs k (pos 0) l, h)

-- it does not
pub past-later : (limit : ℕ) (zs : List ℤ) (k : ℕ) → k < length zs → within limit (get_or zs k (pos 0)) ≡ true
    → first_past limit (drop k zs) ≡ suc (first_past limit (drop (suc k) zs))
unfolding first_past
past-later limit zs k l h = rw (drop-cons zs k (pos 0) l, h)

pub past_end : (limit : ℕ) (zs : List ℤ) → first_past limit (drop (length zs) zs) ≡ 0
unfolding first_past
past_end limit zs = rw (drop-length zs)

-- it is no place past the list
pub past-low : (limit : ℕ) (zs : List ℤ) → first_past limit zs ≤ length zs
unfolding first_past
past-low limit [] = omega arith
past-low limit (z ∷ zs) = go (within limit z) (past-low limit zs)
  where
    go : (b : Bool) → first_past limit zs ≤ length zs → cond b (suc (first_past limit zs)) 0 ≤ suc (length zs)
    go true ih = omega arith
    go false ih = omega arith
