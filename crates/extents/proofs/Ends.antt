-- Laws of loads of levels and of their ends: what has at most 32 bits, and how a scan over ends goes on by one level.
use mathlib.Core.Path.{◌≡◌, refl, sym, ap, ◌∙◌}
use mathlib.Core.List.{List, [], ◌∷◌, ◌++◌}
use Prim.Native.Nat.{ℕ, zero, suc, ◌+◌, ◌*◌, ◌-◌, ◌/◌, ◌≤◌, ◌<◌, max}
use native.Mathlib.Nat.{mul-le-mul, div-mul-le_self}
use native.Mathlib.Numerals.{add-one}
use native.Mathlib.Omega.{arith}
use lib.ListN.{length, take, drop, get_or, take-append-drop}
use lib.Seq.{take-suc, drop-cons}
use Rattle.base.specs.Lists.{sum}
use Rattle.plan.specs.Sound.{max_workers}
use Rattle.extents.specs.Extents.{End, ends_from, nearest}
use Rattle.extents.specs.Code.Scans.{max_load, ends_on}

-- ---- at most 32 bits

-- the load of some levels times the workers of a group
pub product-few : (q x : ℕ) → q ≤ max_load → x ≤ max_workers → q * x ≤ max_load * max_workers
product-few q x a b = mul-le-mul a b

-- a share of a load
pub share-few : (p R : ℕ) → R ≤ max_load → (100 - p) * R ≤ 100 * max_load
share-few p R few = let less : 100 - p ≤ 100 = omega arith in mul-le-mul less few

-- the whole number of workers that is nearest to a share, as a load
pub nearest-few : (q w R : ℕ) → nearest q w R * R ≤ q * w + R
unfolding nearest
nearest-few q w R = go ((2 * (q * w) + R) / (2 * R)) (div-mul-le_self (2 * (q * w) + R) (2 * R))
  where
    go : (d : ℕ) → d * (2 * R) ≤ 2 * (q * w) + R → max 1 d * R ≤ q * w + R
    go zero h = omega arith
    go (suc d) h = let e : max 1 (suc d) ≡ suc d = omega arith in rw e (omega arith)

-- ---- loads

pub sum-append : (xs ys : List ℕ) → sum (xs ++ ys) ≡ sum xs + sum ys
sum-append [] ys = omega arith
sum-append (x ∷ xs) ys = omega (arith, sum-append xs ys)

pub sum-split : (k : ℕ) (qs : List ℕ) → sum (take k qs) + sum (drop k qs) ≡ sum qs
sum-split k qs = sym (sum-append (take k qs) (drop k qs)) ∙ ap sum (take-append-drop k qs)

-- the load of one level more
pub sum-next : (qs : List ℕ) (k : ℕ) → k < length qs → sum (take (k + 1) qs) ≡ sum (take k qs) + get_or qs k 0
sum-next qs k l = rw (add-one, take-suc qs k 0, sum-append (take k qs)) (omega arith)

-- ---- ends

-- the end after k levels
abbrev pub end_at : (k : ℕ) → List ℕ → End
end_at k qs = record { levels = k; load = sum (take k qs) }

-- one level more is the next end
pub ends_next : (qs : List ℕ) (k s : ℕ) → k < length qs
    → ends_from k s (drop k qs) ≡ record { levels = k + 1; load = s + get_or qs k 0 } ∷ ends_from (k + 1) (s + get_or qs k 0) (drop (k + 1) qs)
unfolding ends_from
ends_next qs k s l = rw (drop-cons qs k 0, add-one)

drop-ends : (k j s : ℕ) (qs : List ℕ) → drop k (ends_from j s qs) ≡ ends_from (j + k) (s + sum (take k qs)) (drop k qs)
unfolding ends_from
drop-ends zero j s qs =
    let a : j + 0 ≡ j = omega arith in
    let b : s + 0 ≡ s = omega arith in
    rw (a, b)
drop-ends (suc k) j s [] = refl
drop-ends (suc k) j s (q ∷ qs) =
    let a : j + 1 + k ≡ j + suc k = omega arith in
    let b : s + q + sum (take k qs) ≡ s + (q + sum (take k qs)) = omega arith in
    rw (a, b) at (drop-ends k (j + 1) (s + q) qs)

pub ends-after : (k : ℕ) (qs : List ℕ) → drop k (ends_from 0 0 qs) ≡ ends_from k (sum (take k qs)) (drop k qs)
ends-after k qs =
    let a : 0 + k ≡ k = omega arith in
    let b : 0 + sum (take k qs) ≡ sum (take k qs) = omega arith in
    rw (a, b) at (drop-ends k 0 0 qs)

-- the end of k levels, and those after it
pub ends_on_lem : (k : ℕ) (qs : List ℕ) → 1 ≤ k → k ≤ length qs → ends_on k qs ≡ end_at k qs ∷ ends_from k (sum (take k qs)) (drop k qs)
ends_on_lem zero qs a b = absurd (omega arith)
ends_on_lem (suc k) qs a b =
    let e : suc k - 1 ≡ k = omega arith in
    let f : sum (take (k + 1) qs) ≡ sum (take k qs) + get_or qs k 0 = sum-next qs k (omega arith) in
    let g : k + 1 ≡ suc k = add-one k in
    rw (e, ends-after k qs, ends_next qs k (sum (take k qs)), ← f, g)
