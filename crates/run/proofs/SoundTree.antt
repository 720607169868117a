-- What a sound plan's tree is like: siblings tile their parent's positions and workers, and those of one colour are
-- apart.
use mathlib.Core.Path.{◌≡◌}
use mathlib.Core.Logic.{◌⊎◌}
use mathlib.Core.Bool.{true}
use mathlib.Core.List.{List, [], ◌∷◌}
use Prim.Native.Nat.{ℕ, ◌+◌, ◌≤◌}
use native.Mathlib.Omega.{arith}
use Rattle.plan.specs.Groups.{Group, red, blue}
use Rattle.plan.specs.Sound.{apart, like_apart}
use Rattle.run.specs.Tree.{Tree, none, node}

-- the siblings without what is below them
unfoldable pub tops : Tree → List Group
tops none = []
tops (node g below next) = g ∷ tops next

-- P, where there are children
abbrev pub Inner : Tree → Type 0 → Type 0
Inner none P = Unit {0}
Inner (node h hb hn) P = P

-- red or blue
abbrev pub Coloured : Group → Type 0
Coloured g = (g.colour ≡ red) ⊎ (g.colour ≡ blue)

module _ (adj : ℕ → List ℕ) (order : List ℕ) where
  -- these siblings tile the positions from s to e and are red or blue; below each the same, and like colours are apart
  abbrev pub Tiles : Tree → ℕ → ℕ → Type 0
  Tiles none s e = s ≡ e
  Tiles (node g below next) s e =
      (g.start ≡ s) × Coloured g
      × Inner below (Tiles below g.start (g.start + g.length) × (like_apart (apart adj) order (tops below) ≡ true))
      × Tiles next (s + g.length) e

  -- the children of g tile its positions, and like colours are apart
  abbrev pub Tiled : Group → Tree → Type 0
  Tiled g below = Inner below (Tiles below g.start (g.start + g.length) × (like_apart (apart adj) order (tops below) ≡ true))

  -- they end at or after their start
  pub tiles-le : (T : Tree) (s e : ℕ) → Tiles T s e → s ≤ e
  tiles-le none s e t = omega arith
  tiles-le (node g below next) s e t = omega (arith, tiles-le next (s + g.length) e t.3)

-- red and blue in turn, each pair with the next workers from f on, up to l; and so for all below
abbrev pub Pairs : Tree → ℕ → ℕ → Type 0
Pairs none f l = f ≡ l
Pairs (node r rb none) f l = ⊥
Pairs (node r rb (node b bb ks)) f l =
    ((r.colour ≡ red) × (b.colour ≡ blue)) × ((r.first ≡ f) × (b.first ≡ f) × (1 ≤ r.workers) × (b.workers ≡ r.workers))
    × Inner rb (Pairs rb r.first (r.first + r.workers)) × Inner bb (Pairs bb b.first (b.first + b.workers)) × Pairs ks (f + r.workers) l

-- the pairs below g tile its workers
abbrev pub Paired : Group → Tree → Type 0
Paired g below = Inner below (Pairs below g.first (g.first + g.workers))

-- their workers end at or after the first
pub pairs-le : (T : Tree) (f l : ℕ) → Pairs T f l → f ≤ l
pairs-le none f l p = omega arith
pairs-le (node r rb none) f l p = absurd p
pairs-le (node r rb (node b bb ks)) f l p = omega (arith, pairs-le ks (f + r.workers) l p.4)
