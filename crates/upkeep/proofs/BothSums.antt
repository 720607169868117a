-- Two forces with what is added to them, on the diagonal one.
use mathlib.Core.Path.{◌≡◌, sym, ap, ◌∙◌}
use mathlib.Core.Logic.{◌≢◌}
use mathlib.Core.List.{List}
use Prim.Native.Nat.{ℕ}
use native.Mathlib.Omega.{arith}
use lib.IntN.{ℤ, pos, ◌+ℤ◌}
use lib.ListN.{length, get_or, set, length-set}
use lib.Seq.{get_or-set_same, get_or-set_other}
use mir.Syntax.{w64}
use mir.Val.{SFits}
use Rattle.base.proofs.Integers.{abs-add, fits-abs}
use Rattle.upkeep.specs.Code.Sums.{BothIn, BothAdded}

module _ (fs : List ℤ) (i j : ℕ) (first second : ℤ) (ok : BothIn fs i j first second) where
  -- the forces fit, and so do the sums
  pub was_fits : (r : ℕ) → SFits w64 (get_or fs r (pos 0))
  was_fits r = fits-abs (omega (arith, ok.small r))

  pub first_fits : SFits w64 (get_or fs i (pos 0) +ℤ first)
  first_fits = fits-abs (omega (arith, abs-add (get_or fs i (pos 0)) first, ok.small i, ok.near_first))

  abbrev once : List ℤ
  once = set fs i (get_or fs i (pos 0) +ℤ first)

  pub once-length : length once ≡ length fs
  once-length = length-set fs i (get_or fs i (pos 0) +ℤ first)

  module _ (d : i ≢ j) where
    pub second-same : get_or once j (pos 0) ≡ get_or fs j (pos 0)
    second-same = get_or-set_other fs i j (get_or fs i (pos 0) +ℤ first) (pos 0) (λ q. d (sym q))

    pub second_was : SFits w64 (get_or once j (pos 0))
    second_was = rw second-same (was_fits j)

    pub second_fits : SFits w64 (get_or once j (pos 0) +ℤ second)
    second_fits = rw second-same (fits-abs (omega (arith, abs-add (get_or fs j (pos 0)) second, ok.small j, ok.near_second)))

    pub both-added : BothAdded i j first second fs (set once j (get_or once j (pos 0) +ℤ second))
    both-added = record {
      long = length-set once j (get_or once j (pos 0) +ℤ second) ∙ once-length;
      own = get_or-set_other once j i (get_or once j (pos 0) +ℤ second) (pos 0) d ∙ get_or-set_same fs i (get_or fs i (pos 0) +ℤ first) (pos 0) ok.here;
      other = λ f. get_or-set_same once j (get_or once j (pos 0) +ℤ second) (pos 0) (omega (arith, once-length, ok.there)) ∙ ap (λ (z : ℤ). z +ℤ second) second-same;
      rest = λ r a b. get_or-set_other once j r (get_or once j (pos 0) +ℤ second) (pos 0) b ∙ get_or-set_other fs i r (get_or fs i (pos 0) +ℤ first) (pos 0) a;
    }

-- what is added, by another name
pub both-same : {i j : ℕ} {a b c d : ℤ} {old new : List ℤ} → a ≡ c → b ≡ d → BothAdded i j a b old new → BothAdded i j c d old new
both-same e f h = rw (e, f) at h
