-- The scan for the end whose load times x is nearest to y.
use mathlib.Core.Path.{◌≡◌, refl, sym, ap, ◌∙◌}
use mathlib.Core.Bool.{Bool, true, false, cond}
use mathlib.Core.List.{List, [], ◌∷◌}
use Prim.Native.Nat.{ℕ, ◌+◌, ◌*◌, ◌≤◌, ◌<◌}
use native.Mathlib.Nat.{mul-le-mul_right}
use native.Mathlib.Omega.{arith}
use lib.Dec.{ltb}
use lib.ListN.{length, take, drop, get_or, drop_of_length-le}
use borrow.Author.Tests.{lt-ltb, le-ltb}
use Rattle.base.specs.Lists.{best, sum, distance}
use Rattle.extents.specs.Extents.{End, ends_from}
use Rattle.extents.specs.Code.Scans.{ends_on, nearest_end}
use Rattle.extents.proofs.Ends.{end_at, sum-next, ends_next, ends_on_lem}

-- where no later load has a lower score, the best end so far stays the best
pub best_stays : (score : End → ℕ) (e : End) (i q : ℕ) (qs : List ℕ)
    → ((j r : ℕ) → q ≤ r → score e ≤ score (record { levels = j; load = r })) → best score e (ends_from i q qs) ≡ e
unfolding ends_from best
best_stays score e i q [] h = refl
best_stays score e i q (x ∷ qs) h =
    rw (le-ltb (score (record { levels = i + 1; load = q + x })) (score e) (h (i + 1) (q + x) (omega arith)), best)
    (best_stays score e (i + 1) (q + x) qs (λ j r l. h j r (omega arith)))

module _ (qs : List ℕ) (k x y : ℕ) where
  -- the score of an end
  abbrev pub score : End → ℕ
  score f = distance (f.load * x) y

  -- of the ends of k to i levels, that of `most` levels is the nearest, `least` off; q is the load of the first i
  pub record Nearing (q most least i : ℕ) : Type 0 where
    pub some : k ≤ most
    pub before : most ≤ i
    pub within : i ≤ length qs
    pub load_is : q ≡ sum (take i qs)
    pub least_is : least ≡ score (end_at most qs)
    pub nearest : least ≤ distance (q * x) y
    pub left : nearest_end x y (ends_on k qs) ≡ (best score (end_at most qs) (ends_from i q (drop i qs))).levels

  pub nearing_start : (q least : ℕ) → 1 ≤ k → k ≤ length qs → q ≡ sum (take k qs) → least ≡ distance (q * x) y → Nearing q k least k
  unfolding nearest_end
  nearing_start q least a b e f = record {
    some = omega arith;
    before = omega arith;
    within = b;
    load_is = e;
    least_is = rw e at f;
    nearest = omega arith;
    left = rw (e, ends_on_lem k qs a b);
  }

  module _ (q most least i : ℕ) (s : Nearing q most least i) where
    -- the load of one level more
    q_next : i < length qs → q + get_or qs i 0 ≡ sum (take (i + 1) qs)
    q_next l = omega (arith, s.load_is, sum-next qs i l)

    next : i < length qs → (b : Bool) → ltb (distance ((q + get_or qs i 0) * x) y) least ≡ b
        → nearest_end x y (ends_on k qs)
        ≡ (best score (cond b (end_at (i + 1) qs) (end_at most qs)) (ends_from (i + 1) (q + get_or qs i 0) (drop (i + 1) qs))).levels
    unfolding best
    next l b e = rw (s.left, ends_next qs i q l, best, ← s.least_is, e, q_next l)

    pub nearing_nearer : i < length qs → distance ((q + get_or qs i 0) * x) y < least → Nearing (q + get_or qs i 0) (i + 1) (distance ((q + get_or qs i 0) * x) y) (i + 1)
    nearing_nearer l d = record {
      some = omega (arith, s.some, s.before);
      before = omega arith;
      within = omega arith;
      load_is = q_next l;
      least_is = rw (q_next l);
      nearest = omega arith;
      left = next l true (lt-ltb (distance ((q + get_or qs i 0) * x) y) least d);
    }

    pub nearing_further : i < length qs → least ≤ distance ((q + get_or qs i 0) * x) y → Nearing (q + get_or qs i 0) most least (i + 1)
    nearing_further l d = record {
      some = s.some;
      before = omega (arith, s.before);
      within = omega arith;
      load_is = q_next l;
      least_is = s.least_is;
      nearest = d;
      left = next l false (le-ltb (distance ((q + get_or qs i 0) * x) y) least d);
    }

    -- past y every later end is further
    pub nearing_past : y ≤ q * x → most ≡ nearest_end x y (ends_on k qs)
    nearing_past l =
        let stays : best score (end_at most qs) (ends_from i q (drop i qs)) ≡ end_at most qs =
        best_stays score (end_at most qs) i q (drop i qs) (λ j r m. omega (arith, s.least_is, s.nearest, mul-le-mul_right x m)) in
        sym (s.left ∙ ap (λ (e : End). e.levels) stays)

    pub nearing_end : length qs ≤ i → most ≡ nearest_end x y (ends_on k qs)
    unfolding best ends_from
    nearing_end l = sym (rw (drop_of_length-le qs {i = i} l) at s.left)
