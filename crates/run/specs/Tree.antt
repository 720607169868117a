-- The groups of a plan as a tree. `node g below next`: a group, its children, and its later siblings.
use Rattle.std.specs.Prelude.{Bool, true, false, not, ◌&&◌, ◌||◌, List, [], ◌∷◌, ◌++◌, ℕ, suc, ◌+◌, eqb, ltb, leb}
use Rattle.plan.specs.Groups.{Group, red, blue}

pub data Tree : Type 0 where
  none : Tree
  node : (g : Group) (below next : Tree) → Tree

-- the children of the group at index up among the records from index i on, each with all below it
unfoldable pub forest : (up i : ℕ) → List Group → Tree
forest up i [] = none
forest up i (g ∷ gs) = elim (eqb g.parent up) [ true ↦ node g (forest i (suc i) gs) (forest up (suc i) gs) | false ↦ forest up (suc i) gs ]

unfoldable pub tree : List Group → Tree
tree [] = none
tree (g ∷ gs) = node g (forest 0 1 gs) none

-- the leaves in order
unfoldable pub leaves : Tree → List Group
leaves none = []
leaves (node g none next) = g ∷ leaves next
leaves (node g (node h hb hn) next) = leaves (node h hb hn) ++ leaves next

-- plan position q lies in the group's stretch
unfoldable pub holds : Group → ℕ → Bool
holds g q = leb g.start q && ltb q (g.start + g.length)

-- "a leaf, run by its first worker": the first worker of the leaf that holds q (leader: the first worker of the group
-- around)
unfoldable pub owner_in : (leader q : ℕ) → Tree → ℕ
owner_in leader q none = leader
owner_in leader q (node g below next) = elim (holds g q) [ true ↦ owner_in g.first q below | false ↦ owner_in leader q next ]

-- some leaf is not finished
unfoldable pub unfinished : (finished : Group → Bool) → Tree → Bool
unfinished finished none = false
unfinished finished (node g none next) = not (finished g) || unfinished finished next
unfinished finished (node g (node h hb hn) next) = unfinished finished (node h hb hn) || unfinished finished next

-- some red group of these siblings has an unfinished leaf
unfoldable pub red_open : (finished : Group → Bool) → Tree → Bool
red_open finished none = false
red_open finished (node g below next) = (eqb g.colour red && unfinished finished (node g below none)) || red_open finished next

-- the leaf that holds q "lies in, or is, a blue group one of whose red siblings has an unfinished leaf"; all: the
-- siblings of the groups looked at
unfoldable pub blocked : (finished : Group → Bool) (q : ℕ) (all : Tree) → Tree → Bool
blocked finished q all none = false
blocked finished q all (node g below next) =
    (holds g q && ((eqb g.colour blue && red_open finished all) || blocked finished q below below)) || blocked finished q all next
