-- Where a pair ends, and where it is cut. qs are the loads of the levels that are left; reach is the distance that a
-- colouring keeps (document 02's k): "a pair has at least 2 × k levels, a colour at least k, a pair takes all if fewer
-- than 2 × k would be left".
use Rattle.std.specs.Prelude.{Bool, ◌||◌, cond, List, [], ◌∷◌, ℕ, ◌+◌, ◌*◌, ◌-◌, ◌/◌, max, ltb, leb, length, take, drop}
use Rattle.base.specs.Lists.{from_first, best, sum, distance}

-- what the rules take besides a group's levels, loads and workers: the distance that a colouring keeps (k in document
-- 02, "from 1 to 4"), and "p is 50 to 99"
pub record Policy : Type 0 where
  pub reach : ℕ
  pub p : ℕ

-- some first levels: how many, and their load
pub record End : Type 0 where
  pub levels : ℕ
  pub load : ℕ

-- every end past k levels of load s
unfoldable pub ends_from : ℕ → ℕ → List ℕ → List End
ends_from k s [] = []
ends_from k s (q ∷ qs) = record { levels = k + 1; load = s + q } ∷ ends_from (k + 1) (s + q) qs

-- "levels of load q weigh a = q × w / R, and b is the nearest whole number, half going up, but at least 1"
unfoldable pub nearest : (q w R : ℕ) → ℕ
nearest q w R = max 1 ((2 * (q * w) + R) / (2 * R))

-- R times the distance of a = q × w / R from b
unfoldable pub off : (b q w R : ℕ) → ℕ
off b q w R = distance (q * w) (b * R)

-- "Closeness is 1 minus the distance of a from b": it is above p per cent
unfoldable pub serves : (q w R p : ℕ) → Bool
serves q w R p = ltb (100 * off (nearest q w R) q w R) ((100 - p) * R)

-- how many levels and workers a pair takes
pub record Extent : Type 0 where
  pub levels : ℕ
  pub workers : ℕ

-- "a pair takes all if fewer than 2 × k would be left", "or if b is not below the free workers, the pair takes all
-- levels and workers left"
unfoldable pub extent_of : (reach b all free : ℕ) → End → Extent
extent_of reach b all free e =
    cond (ltb (all - e.levels) (2 * reach) || leb free b)
    (record { levels = all; workers = free })
    (record { levels = e.levels; workers = b })

-- from the first end that serves, "this fixes b. Of this end and the later ends, take the one whose a is nearest to
-- that b; the shorter wins a tie"; "If no end serves .. all levels and workers left"
unfoldable pub extent_from : (reach w R all free : ℕ) → List End → Extent
extent_from reach w R all free [] = record { levels = all; workers = free }
extent_from reach w R all free (e ∷ es) =
    let b = nearest e.load w R in
    extent_of reach b all free (best (λ f. off b f.load w R) e es)

-- the next pair: "From the first free level", at least 2 × k "levels are taken, then more until closeness is above p
-- per cent"
unfoldable pub extent : (w R : ℕ) (policy : Policy) (free : ℕ) → List ℕ → Extent
extent w R policy free qs =
    extent_from policy.reach w R (length qs) free (from_first (λ e. serves e.load w R policy.p) (drop (2 * policy.reach - 1) (ends_from 0 0 qs)))

unfoldable pub cut_at : (reach R : ℕ) → List End → ℕ
cut_at reach R [] = reach
cut_at reach R (e ∷ es) = (best (λ f. distance f.load (R - f.load)) e es).levels

-- how many of a pair's levels are red: "a colour at least k", "the cut makes the loads differ least, earliest on a tie"
unfoldable pub cut : (reach : ℕ) → List ℕ → ℕ
cut reach qs = cut_at reach (sum qs) (drop (reach - 1) (ends_from 0 0 (take (length qs - reach) qs)))
