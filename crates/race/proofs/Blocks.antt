-- A child's records, depth first, and those after them: whose children they are.
use mathlib.Core.Path.{◌≡◌, sym, ap, ◌∙◌, subst}
use mathlib.Core.Logic.{◌⊎◌, inl, inr, ◌≢◌}
use mathlib.Core.Bool.{Bool, true}
use mathlib.Core.List.{List, [], ◌∷◌, ◌++◌, append-nil}
use Prim.Native.Nat.{ℕ, suc, ◌+◌, ◌≤◌, ◌<◌}
use native.Mathlib.Omega.{arith}
use lib.ListN.{length, length-append}
use Rattle.base.proofs.Booleans.{and_left, and_right}
use Rattle.base.proofs.Each.{Each, each_map, each_append}
use Rattle.plan.specs.Groups.{Group}
use Rattle.plan.specs.Sound.{children, children_sound, all_sound}
use Rattle.plan.proofs.Children.{children-append, children_skip, children-keep, children-none}

-- a record's parent is one of the records from lo to hi
abbrev pub Inside : (lo hi : ℕ) → Group → Type 0
Inside lo hi h = (lo ≤ h.parent) × (h.parent < hi)

-- .. or up
abbrev pub Under : (up lo hi : ℕ) → Group → Type 0
Under up lo hi h = (h.parent ≡ up) ⊎ Inside lo hi h

-- the records of the world with a parent from lo to hi all stand in gs
abbrev pub Ready : (world gs : List Group) (lo hi : ℕ) → Type 0
Ready world gs lo hi = (i : ℕ) → lo ≤ i → i < hi → children i world ≡ children i gs

under_wider : (up a b c d : ℕ) → c ≤ a → b ≤ d → (gs : List Group) → Each (Under up a b) gs → Each (Under up c d) gs
under_wider up a b c d p q gs h = each_map (Under up a b) (Under up c d) go gs h
  where
    go : (g : Group) → Under up a b g → Under up c d g
    go g (inl x) = inl x
    go g (inr x) = inr (omega arith)

-- no record of a block has a parent outside the block, but up
outside : (up lo hi i : ℕ) (gs : List Group) → Each (Under up lo hi) gs → i ≢ up → (i < lo) ⊎ (hi ≤ i) → children i gs ≡ []
outside up lo hi i gs u ne o = children-none i gs (each_map (Under up lo hi) (λ h. h.parent ≢ i) (go o) gs u)
  where
    go : (i < lo) ⊎ (hi ≤ i) → (h : Group) → Under up lo hi h → h.parent ≢ i
    go o h (inl x) e = ne (sym e ∙ x)
    go (inl o) h (inr x) e = omega arith
    go (inr o) h (inr x) e = omega arith

-- a child g of up at index, the records below it, and later ones
module _ (up index : ℕ) (g : Group) (below later : List Group) (lt : up < index) (child : g.parent ≡ up)
    (mine : Each (Inside index (index + suc (length below))) below) (theirs : Each (Under up (index + suc (length below)) (index + suc (length below) + length later)) later) where
  under_mine : Each (Under up index (index + suc (length below))) (g ∷ below)
  under_mine = (inl child, each_map (Inside index (index + suc (length below))) (Under up index (index + suc (length below))) (λ h q. inr q) below mine)

  -- the parents of all these records are up, or among them
  pub block_under : Each (Under up index (index + length ((g ∷ below) ++ later))) ((g ∷ below) ++ later)
  block_under =
      let end : index + length ((g ∷ below) ++ later) ≡ index + suc (length below) + length later = omega (arith, length-append (g ∷ below) later) in
      each_append (Under up index (index + length ((g ∷ below) ++ later))) (g ∷ below) later
      (under_wider up index (index + suc (length below)) index (index + length ((g ∷ below) ++ later)) (omega arith) (omega arith) (g ∷ below) under_mine)
      (under_wider up (index + suc (length below)) (index + suc (length below) + length later) index (index + length ((g ∷ below) ++ later)) (omega arith) (omega arith) later theirs)

  -- up's children are g, and those later
  pub block_children : children up ((g ∷ below) ++ later) ≡ g ∷ children up later
  block_children =
      children-append up (g ∷ below) later
      ∙ ap (λ (l : List Group). l ++ children up later)
      (children-keep up g below child
      ∙ ap (λ (l : List Group). g ∷ l) (children-none up below (each_map (Inside index (index + suc (length below))) (λ h. h.parent ≢ up) (λ h q e. omega arith) below mine)))

  -- a world that has all these children has g's, and the later records'
  module _ (world : List Group) (ready : Ready world ((g ∷ below) ++ later) index (index + length ((g ∷ below) ++ later))) where
    -- the children of g and of all below it
    pub ready-mine : Ready world below index (index + suc (length below))
    ready-mine i lo hi =
        ready i lo (omega (arith, length-append (g ∷ below) later)) ∙ children-append i (g ∷ below) later
        ∙ ap (λ (l : List Group). children i (g ∷ below) ++ l)
        (outside up (index + suc (length below)) (index + suc (length below) + length later) i later theirs (λ q. omega arith) (inl hi))
        ∙ append-nil (children i (g ∷ below))
        ∙ children_skip i g below (λ q. omega arith)

    -- the children of the later records
    pub ready_theirs : Ready world later (index + suc (length below)) (index + suc (length below) + length later)
    ready_theirs i lo hi =
        ready i (omega arith) (omega (arith, length-append (g ∷ below) later)) ∙ children-append i (g ∷ below) later
        ∙ ap (λ (l : List Group). l ++ children i later) (outside up index (index + suc (length below)) i (g ∷ below) under_mine (λ q. omega arith) (inr lo))

-- every group of a list, and of the list after it
pub all_append : (far : List ℕ → List ℕ → Bool) (O : List ℕ) (world : List Group) (i : ℕ) (xs ys : List Group)
    → all_sound far O world i xs ≡ true → all_sound far O world (i + length xs) ys ≡ true → all_sound far O world i (xs ++ ys) ≡ true
unfolding all_sound
all_append far O world i [] ys a b = subst (λ (k : ℕ). all_sound far O world k ys ≡ true) (omega arith) b
all_append far O world i (x ∷ xs) ys a b =
    rw (and_left (children_sound far O x (children i world)) (all_sound far O world (i + 1) xs) a)
    (all_append far O world (i + 1) xs ys (and_right (children_sound far O x (children i world)) (all_sound far O world (i + 1) xs) a)
    (subst (λ (k : ℕ). all_sound far O world k ys ≡ true) (omega arith) b))
