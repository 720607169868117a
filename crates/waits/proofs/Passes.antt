-- The passes over the records by which waits are found: from the last record to the first for the open groups, from the
-- first to the last for the blocked ones.
use mathlib.Core.Path.{◌≡◌, refl, ap, ◌∙◌}
use mathlib.Core.Bool.{Bool, false, ◌&&◌, ◌||◌}
use mathlib.Core.List.{List, [], ◌∷◌}
use Prim.Native.Nat.{ℕ, suc, ◌+◌, ◌<◌}
use native.Mathlib.Omega.{arith}
use lib.ListN.{length, get_or}
use lib.Dec.{eqb}
use Rattle.plan.specs.Groups.{Group, red, blue}
use Rattle.tables.specs.Code.Laid.{has_child}
use Rattle.tables.proofs.FlatOpen.{open_children, open_at, open_reds}
use Rattle.tables.proofs.LeafWait.{Forward}

-- ---- backwards: the entry of the record's parent takes up the record, the others stay

module _ (fin : Group → Bool) (up i : ℕ) where
  -- before the pass no group has a child
  pub child-start : has_child up [] ≡ false
  unfolding has_child
  child-start = refl

  -- .. nor an open one
  pub open_start : open_children fin up i [] ≡ false
  unfolding open_children
  open_start = refl

  -- .. nor an open red one
  pub red-start : open_reds fin up i [] ≡ false
  unfolding open_reds
  red-start = refl

  module _ (g : Group) (gs : List Group) where
    -- the record makes its parent one with a child
    pub child-turn : has_child up (g ∷ gs) ≡ eqb g.parent up || has_child up gs
    unfolding has_child
    child-turn = refl

    -- .. with an open one, if it is open
    pub open_turn : open_children fin up i (g ∷ gs) ≡ (eqb g.parent up && open_at fin i g gs) || open_children fin up (suc i) gs
    unfolding open_children
    open_turn = refl

    -- .. with an open red one, if it is red and open
    pub red-turn : open_reds fin up i (g ∷ gs) ≡ (eqb g.parent up && (eqb g.colour red && open_at fin i g gs)) || open_reds fin up (suc i) gs
    unfolding open_reds
    red-turn = refl

-- ---- forwards: each record's entry, made of its parent's

-- the pass, entry by entry
pub forward_from : (opened blocks : ℕ → Bool) (d : Group) (i : ℕ) (gs : List Group)
    → ((k : ℕ) → k < length gs → blocks (i + k) ≡ blocks (get_or gs k d).parent || (eqb (get_or gs k d).colour blue && opened (get_or gs k d).parent))
    → Forward opened blocks i gs
forward_from opened blocks d i [] h = tt
forward_from opened blocks d i (g ∷ gs) h = (
  (let e : i ≡ i + 0 = omega arith in ap blocks e) ∙ h 0 (omega arith),
  forward_from opened blocks d (suc i) gs (λ k l. (let e : suc i + k ≡ i + suc k = omega arith in ap blocks e) ∙ h (suc k) (omega arith)),
)
