-- The scan for the first end that passes a test.
use mathlib.Core.Path.{◌≡◌, ap}
use mathlib.Core.Bool.{Bool, true, false, cond}
use mathlib.Core.List.{List}
use Prim.Native.Nat.{ℕ, ◌+◌, ◌-◌, ◌≤◌, ◌<◌}
use native.Mathlib.Omega.{arith}
use lib.ListN.{length, take, drop, get_or, drop_of_length-le}
use Rattle.base.specs.Lists.{sum, from_first}
use Rattle.extents.specs.Extents.{End, ends_from}
use Rattle.extents.specs.Code.Scans.{ends_on}
use Rattle.extents.proofs.Ends.{sum-next, ends_next, ends-after}

-- no end of least to k levels passes; q is the load of the first k
pub record Seeking (test : End → Bool) (qs : List ℕ) (least k q : ℕ) : Type 0 where
  pub some : least ≤ k + 1
  pub most : k ≤ length qs
  pub load_is : q ≡ sum (take k qs)
  pub left : from_first test (ends_on least qs) ≡ from_first test (ends_from k q (drop k qs))

module _ (test : End → Bool) (qs : List ℕ) (least : ℕ) where
  pub seek_start : (q : ℕ) → 1 ≤ least → least ≤ length qs → q ≡ sum (take (least - 1) qs) → Seeking test qs least (least - 1) q
  seek_start q s l e = record { some = omega arith; most = omega arith; load_is = e; left = rw e (ap (from_first test) (ends-after (least - 1) qs)) }

  module _ (k q : ℕ) (s : Seeking test qs least k q) where
    -- the ends that are left
    next : k < length qs → (b : Bool) → test (record { levels = k + 1; load = q + get_or qs k 0 }) ≡ b
        → from_first test (ends_on least qs) ≡ cond b (ends_on (k + 1) qs) (from_first test (ends_from (k + 1) (q + get_or qs k 0) (drop (k + 1) qs)))
    next l b e =
        let j : k + 1 - 1 ≡ k = omega arith in
        rw (s.left, j, ends-after k qs, ← s.load_is, ends_next qs k q l, e)

    pub seek_next : k < length qs → test (record { levels = k + 1; load = q + get_or qs k 0 }) ≡ false → Seeking test qs least (k + 1) (q + get_or qs k 0)
    seek_next l e = record {
      some = omega (arith, s.some);
      most = omega arith;
      load_is = omega (arith, s.load_is, sum-next qs k l);
      left = next l false e;
    }

    pub seek_found : k < length qs → test (record { levels = k + 1; load = q + get_or qs k 0 }) ≡ true → from_first test (ends_on least qs) ≡ ends_on (k + 1) qs
    seek_found l e = next l true e

    pub seek_none : length qs ≤ k → from_first test (ends_on least qs) ≡ ends_on (k + 1) qs
    unfolding ends_from
    seek_none l =
        let j : k + 1 - 1 ≡ k = omega arith in
        rw (s.left, j, ends-after k qs, drop_of_length-le qs {i = k} l)
