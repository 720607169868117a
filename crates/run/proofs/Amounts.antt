-- What the updates of a list add to one sum.
use mathlib.Core.Path.{◌≡◌, sym, ap, ◌∙◌}
use mathlib.Core.Bool.{cond}
use mathlib.Core.List.{List, [], ◌∷◌, ◌++◌}
use Prim.Native.Nat.{ℕ, zero, suc, ◌<◌}
use native.Mathlib.Omega.{arith}
use lib.ListN.{length, get_or, take}
use lib.Dec.{eqb}
use lib.IntN.{ℤ, pos, ◌+ℤ◌, +ℤ_assoc, +ℤ_comm, +ℤ_idl}
use Rattle.run.specs.Updates.{Update, no_update}

-- the amount of an update, put through φ, if its target is t; else 0
abbrev pub share : (ℤ → ℤ) → ℕ → Update → ℤ
share φ t u = cond (eqb u.target t) (φ u.amount) (pos 0)

-- the sum of the shares of a list of updates
unfoldable pub landed_by : (ℤ → ℤ) → ℕ → List Update → ℤ
landed_by φ t [] = pos 0
landed_by φ t (u ∷ us) = share φ t u +ℤ landed_by φ t us

-- what a list of updates adds to the sum at position t
abbrev pub landed : ℕ → List Update → ℤ
landed t us = landed_by (λ z. z) t us

-- one update more
pub landed_next : (φ : ℤ → ℤ) (t : ℕ) (us : List Update) (k : ℕ) → k < length us
    → landed_by φ t (take (suc k) us) ≡ landed_by φ t (take k us) +ℤ share φ t (get_or us k no_update)
unfolding landed_by
landed_next φ t [] k l = absurd (omega arith)
landed_next φ t (u ∷ us) zero l = +ℤ_comm (share φ t u) (pos 0)
landed_next φ t (u ∷ us) (suc k) l =
    ap (λ (z : ℤ). share φ t u +ℤ z) (landed_next φ t us k (omega arith)) ∙ sym (+ℤ_assoc (share φ t u) (landed_by φ t (take k us)) (share φ t (get_or us k no_update)))

-- two lists one after the other
pub landed_append : (φ : ℤ → ℤ) (t : ℕ) (us vs : List Update) → landed_by φ t (us ++ vs) ≡ landed_by φ t us +ℤ landed_by φ t vs
unfolding landed_by
landed_append φ t [] vs = sym (+ℤ_idl (landed_by φ t vs))
landed_append φ t (u ∷ us) vs = ap (λ (z : ℤ). share φ t u +ℤ z) (landed_append φ t us vs) ∙ sym (+ℤ_assoc (share φ t u) (landed_by φ t us) (landed_by φ t vs))
