-- The counts after one access more of worker w.
use mathlib.Core.Path.{◌≡◌, sym, subst}
use mathlib.Core.Logic.{◌⊎◌, inl, inr, ◌≢◌}
use mathlib.Core.List.{List}
use Prim.Native.Nat.{ℕ, suc, ◌≤◌, ◌<◌}
use native.Mathlib.Omega.{arith}
use lib.ListN.{length, length-set}
use lib.Seq.{get_or-set_same, get_or-set_other}
use Rattle.base.proofs.Booleans.{same_or}
use Rattle.run.specs.Updates.{count}
use Rattle.run.specs.Machine.{onward}

module _ (made : List ℕ) (w : ℕ) where
  -- as many counts
  pub onward-length : length (onward made w) ≡ length made
  unfolding onward
  onward-length = length-set made w (suc (count made w))

  -- the others' counts stay
  pub onward-other : (v : ℕ) → v ≢ w → count (onward made w) v ≡ count made v
  unfolding onward
  onward-other v d = get_or-set_other made w v (suc (count made w)) 0 d

  module _ (l : w < length made) where
    -- its own is one more
    pub onward_at : count (onward made w) w ≡ suc (count made w)
    unfolding onward
    onward_at = get_or-set_same made w (suc (count made w)) 0 l

    -- so no count falls
    pub onward_grows : (v : ℕ) → count made v ≤ count (onward made w) v
    onward_grows v = go (same_or v w)
      where
        go : (v ≡ w) ⊎ (v ≢ w) → count made v ≤ count (onward made w) v
        go (inl e) = subst (λ (y : ℕ). count made y ≤ count (onward made w) y) (sym e) (omega (arith, onward_at))
        go (inr d) = omega (arith, onward-other v d)
